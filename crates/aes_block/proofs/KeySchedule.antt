-- The key schedule, word by word.
use Rattle.std.proofs.Common.{◌≡◌, ℕ, zero, suc, ◌+◌, ◌-◌, ◌<◌, ◌≤◌, List, [], ◌∷◌, ◌++◌, length, take, set, get_or, map, refl, sym, ap, ◌∙◌, lit<, length-append, arith}
use Rattle.std.specs.Prelude.{slice_index, bit_xor, if◌then◌else◌, ◌==◌, ◌%◌, ◌/◌}
use Rattle.std.specs.Int.{w32, rotate_left}
use Rattle.std.specs.List.{range_with_len}
use Rattle.std.proofs.lemmas.List.{get_or-take}
use Rattle.std.proofs.Math.ListN.{get_or-append}
use Rattle.std.proofs.Math.Seq.{take-suc-set, take-length}
use Rattle.cipher_model.specs.Field.{product_of_bits, power_of_bits, power}
use Rattle.cipher_model.specs.Aes.{IsBlock, byte_of, bytes_at, key_schedule, key_words, next_word, schedule, sub_word, word}
use Rattle.aes_block.specs.declared.keys.TheConstants.{ROUND_CONSTANTS}
use Rattle.cipher_model.proofs.States.{block_byte, each_byte_whole}
use Rattle.cipher_model.proofs.Tables.{table_at}
use Rattle.aes_block.proofs.WordBytes.{byte_of-word0, byte_of-word1, byte_of-word2, byte_of-word3}

round_constants_are : map (λ (i : ℕ). word (power 2 i) 0 0 0) (range_with_len 0 10) ≡ ROUND_CONSTANTS
unfolding product_of_bits power_of_bits
round_constants_are = refl

pub round_constant_at : (i : ℕ) → i < 10 → get_or ROUND_CONSTANTS i 0 ≡ word (power 2 i) 0 0 0
round_constant_at i h = table_at (λ (i : ℕ). word (power 2 i) 0 0 0) ROUND_CONSTANTS 10 round_constants_are i h

pub schedule_none : (k : List ℕ) (w0 w1 w2 w3 : ℕ)
    → w0 ≡ word (slice_index k 0) (slice_index k 1) (slice_index k 2) (slice_index k 3)
    → w1 ≡ word (slice_index k 4) (slice_index k 5) (slice_index k 6) (slice_index k 7)
    → w2 ≡ word (slice_index k 8) (slice_index k 9) (slice_index k 10) (slice_index k 11)
    → w3 ≡ word (slice_index k 12) (slice_index k 13) (slice_index k 14) (slice_index k 15)
    → w0 ∷ w1 ∷ w2 ∷ w3 ∷ [] ≡ schedule 4 k 0
unfolding schedule
schedule_none k w0 w1 w2 w3 e0 e1 e2 e3 = λ i. e0 i ∷ e1 i ∷ e2 i ∷ e3 i ∷ []

schedule_suc : (k : List ℕ) (n : ℕ) → schedule 4 k (suc n) ≡ schedule 4 k n ++ next_word 4 (schedule 4 k n) (n + 4) ∷ []
unfolding schedule
schedule_suc k n = refl

-- the next word reads only the words before it
next_word-take : (ws : List ℕ) (i : ℕ) → 4 ≤ i → next_word 4 (take i ws) i ≡ next_word 4 ws i
next_word-take ws i h =
    let far : slice_index (take i ws) (i - 4) ≡ slice_index ws (i - 4) = get_or-take i ws (i - 4) 0 (omega arith) in
    let near : slice_index (take i ws) (i - 1) ≡ slice_index ws (i - 1) = get_or-take i ws (i - 1) 0 (omega arith) in
    λ j. bit_xor (far j)
    (if i % 4 == 0 then bit_xor (sub_word (rotate_left w32 (near j) 8)) (word (power 2 (i / 4 - 1)) 0 0 0) else near j)

pub schedule_more : (k ws : List ℕ) (i w : ℕ) → 4 ≤ i → i < length ws → take i ws ≡ schedule 4 k (i - 4) → w ≡ next_word 4 ws i
    → take (i + 1) (set ws i w) ≡ schedule 4 k (i + 1 - 4)
schedule_more k ws i w low high e f =
    let n : ℕ = i - 4 in
    let p : i + 1 ≡ suc i = omega arith in
    let q : n + 4 ≡ i = omega arith in
    let r : suc n ≡ i + 1 - 4 = omega arith in
    ap (λ (m : ℕ). take m (set ws i w)) p
    ∙ take-suc-set ws i w high
    ∙ (λ j. e j ++ (f ∙ sym (next_word-take ws i low) ∙ (λ l. next_word 4 (e l) (sym q l))) j ∷ [])
    ∙ sym (schedule_suc k n) ∙ ap (λ (m : ℕ). schedule 4 k m) r

pub schedule_all : (k ws : List ℕ) (i : ℕ) → i ≡ 44 → length ws ≡ 44 → take i ws ≡ schedule 4 k (i - 4) → ws ≡ schedule 4 k 40
schedule_all k ws i p long e =
    let whole : take i ws ≡ ws = ap (λ (m : ℕ). take m ws) (p ∙ sym long) ∙ take-length ws in
    let q : i - 4 ≡ 40 = omega arith in
    sym whole ∙ e ∙ ap (λ (m : ℕ). schedule 4 k m) q

length-schedule : (k : List ℕ) (n : ℕ) → length (schedule 4 k n) ≡ n + 4
unfolding schedule
length-schedule k zero = refl
length-schedule k (suc n) = length-append (schedule 4 k n) (next_word 4 (schedule 4 k n) (n + 4) ∷ []) ∙ omega (arith, length-schedule k n)

-- the words of the key stay in front
schedule-front : (k : List ℕ) (n i : ℕ) → i < 4 → slice_index (schedule 4 k n) i ≡ slice_index (key_words 4 k) i
unfolding schedule
schedule-front k zero i h = refl
schedule-front k (suc n) i h =
    get_or-append (schedule 4 k n) (next_word 4 (schedule 4 k n) (n + 4) ∷ []) 0 i (omega (arith, length-schedule k n)) ∙ schedule-front k n i h

-- the first round key is the key
pub bytes_at-key_schedule : (k : List ℕ) → IsBlock k → bytes_at (key_schedule 4 k) 0 ≡ k
bytes_at-key_schedule k block =
    let ws : List ℕ = key_schedule 4 k in
    let at : ℕ → ℕ = λ i. slice_index k i in
    let fits : (i : ℕ) → at i < 256 = λ i. block_byte k i block in
    let byte : (r i : ℕ) → i < 4 → byte_of (slice_index ws i) r ≡ byte_of (slice_index (key_words 4 k) i) r = λ r i h. ap (λ (w : ℕ). byte_of w r) (schedule-front k 40 i h) in
    let at0 : (i j : ℕ) → i < 4 → slice_index (key_words 4 k) i ≡ word (at j) (at (j + 1)) (at (j + 2)) (at (j + 3)) → byte_of (slice_index ws i) 0 ≡ at j =
    λ i j h e. byte 0 i h ∙ ap (λ (w : ℕ). byte_of w 0) e ∙ byte_of-word0 (at j) (at (j + 1)) (at (j + 2)) (at (j + 3)) (fits j) (fits (j + 1)) (fits (j + 2)) (fits (j + 3)) in
    let at1 : (i j : ℕ) → i < 4 → slice_index (key_words 4 k) i ≡ word (at j) (at (j + 1)) (at (j + 2)) (at (j + 3)) → byte_of (slice_index ws i) 1 ≡ at (j + 1) =
    λ i j h e. byte 1 i h ∙ ap (λ (w : ℕ). byte_of w 1) e ∙ byte_of-word1 (at j) (at (j + 1)) (at (j + 2)) (at (j + 3)) (fits j) (fits (j + 1)) (fits (j + 2)) (fits (j + 3)) in
    let at2 : (i j : ℕ) → i < 4 → slice_index (key_words 4 k) i ≡ word (at j) (at (j + 1)) (at (j + 2)) (at (j + 3)) → byte_of (slice_index ws i) 2 ≡ at (j + 2) =
    λ i j h e. byte 2 i h ∙ ap (λ (w : ℕ). byte_of w 2) e ∙ byte_of-word2 (at j) (at (j + 1)) (at (j + 2)) (at (j + 3)) (fits j) (fits (j + 1)) (fits (j + 2)) (fits (j + 3)) in
    let at3 : (i j : ℕ) → i < 4 → slice_index (key_words 4 k) i ≡ word (at j) (at (j + 1)) (at (j + 2)) (at (j + 3)) → byte_of (slice_index ws i) 3 ≡ at (j + 3) =
    λ i j h e. byte 3 i h ∙ ap (λ (w : ℕ). byte_of w 3) e ∙ byte_of-word3 (at j) (at (j + 1)) (at (j + 2)) (at (j + 3)) (fits j) (fits (j + 1)) (fits (j + 2)) (fits (j + 3)) in
    let w0 : 0 < 4 = lit< tt in
    let w1 : 1 < 4 = lit< tt in
    let w2 : 2 < 4 = lit< tt in
    let w3 : 3 < 4 = lit< tt in
    (λ t. at0 0 0 w0 refl t ∷ at1 0 0 w0 refl t ∷ at2 0 0 w0 refl t ∷ at3 0 0 w0 refl t ∷ at0 1 4 w1 refl t ∷ at1 1 4 w1 refl t ∷ at2 1 4 w1 refl t ∷ at3 1 4 w1 refl t
    ∷ at0 2 8 w2 refl t ∷ at1 2 8 w2 refl t ∷ at2 2 8 w2 refl t ∷ at3 2 8 w2 refl t ∷ at0 3 12 w3 refl t ∷ at1 3 12 w3 refl t ∷ at2 3 12 w3 refl t ∷ at3 3 12 w3 refl t ∷ [])
    ∙ each_byte_whole k block.long
