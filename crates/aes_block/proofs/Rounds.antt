-- The rounds of the cipher on words.
use Rattle.std.proofs.Common.{◌≡◌, ℕ, ◌*◌, ◌<◌, bit_xor, List, [], ◌∷◌, refl, ap, ◌∙◌}
use Rattle.std.specs.Prelude.{slice_index}
use Rattle.cipher_model.specs.Field.{sub_byte}
use Rattle.cipher_model.specs.Aes.{mixed_byte, word, byte_of, bytes_at, add_round_key, mix_columns, shift_rows, sub_bytes, rounds, encrypted_with}
use Rattle.aes_block.specs.Words.{mixed_word}
use Rattle.cipher_model.proofs.SubByteLaws.{sub_byte-lt}
use Rattle.cipher_model.proofs.MixLaws.{mixed_byte-lt}
use Rattle.aes_block.proofs.WordBytes.{byte_of-lt, byte_of-xor, byte_of-word0, byte_of-word1, byte_of-word2, byte_of-word3, subbed_bytes, word-parts}
use Rattle.aes_block.proofs.Columns.{mixed_word-parts}

-- byte r of word w, under SubBytes
abbrev pub subbed : ℕ → ℕ → ℕ
subbed w r = sub_byte (byte_of w r)

subbed-lt : (w r : ℕ) → subbed w r < 256
subbed-lt w r = sub_byte-lt (byte_of w r) (byte_of-lt w r)

pub mixed_column-parts : (a b c d w x y z : ℕ)
    → w ≡ mixed_word (subbed a 0) 0 0 0 → x ≡ mixed_word 0 (subbed b 1) 0 0 → y ≡ mixed_word 0 0 (subbed c 2) 0 → z ≡ mixed_word 0 0 0 (subbed d 3)
    → bit_xor (bit_xor (bit_xor w x) y) z ≡ mixed_word (subbed a 0) (subbed b 1) (subbed c 2) (subbed d 3)
mixed_column-parts a b c d w x y z ew ex ey ez =
    (λ i. bit_xor (bit_xor (bit_xor (ew i) (ex i)) (ey i)) (ez i))
    ∙ mixed_word-parts (subbed a 0) (subbed b 1) (subbed c 2) (subbed d 3) (subbed-lt a 0) (subbed-lt b 1) (subbed-lt c 2) (subbed-lt d 3)

-- the bytes of a mixed column under a word of the key, before those of further columns
column_bytes : (w k p q r s : ℕ) (xs ys : List ℕ) → p < 256 → q < 256 → r < 256 → s < 256 → w ≡ mixed_word p q r s → xs ≡ ys
    → byte_of (bit_xor w k) 0 ∷ byte_of (bit_xor w k) 1 ∷ byte_of (bit_xor w k) 2 ∷ byte_of (bit_xor w k) 3 ∷ xs
    ≡ bit_xor (mixed_byte p q r s) (byte_of k 0) ∷ bit_xor (mixed_byte q r s p) (byte_of k 1)
    ∷ bit_xor (mixed_byte r s p q) (byte_of k 2) ∷ bit_xor (mixed_byte s p q r) (byte_of k 3) ∷ ys
column_bytes w k p q r s xs ys hp hq hr hs e f =
    let m0 = mixed_byte-lt p q r s hp hq hr hs in
    let m1 = mixed_byte-lt q r s p hq hr hs hp in
    let m2 = mixed_byte-lt r s p q hr hs hp hq in
    let m3 = mixed_byte-lt s p q r hs hp hq hr in
    let a : ℕ = mixed_byte p q r s in
    let b : ℕ = mixed_byte q r s p in
    let c : ℕ = mixed_byte r s p q in
    let d : ℕ = mixed_byte s p q r in
    let e0 : byte_of (bit_xor w k) 0 ≡ bit_xor a (byte_of k 0) =
    byte_of-xor w k 0 ∙ ap (λ (x : ℕ). bit_xor x (byte_of k 0)) (ap (λ (v : ℕ). byte_of v 0) e ∙ byte_of-word0 a b c d m0 m1 m2 m3) in
    let e1 : byte_of (bit_xor w k) 1 ≡ bit_xor b (byte_of k 1) =
    byte_of-xor w k 1 ∙ ap (λ (x : ℕ). bit_xor x (byte_of k 1)) (ap (λ (v : ℕ). byte_of v 1) e ∙ byte_of-word1 a b c d m0 m1 m2 m3) in
    let e2 : byte_of (bit_xor w k) 2 ≡ bit_xor c (byte_of k 2) =
    byte_of-xor w k 2 ∙ ap (λ (x : ℕ). bit_xor x (byte_of k 2)) (ap (λ (v : ℕ). byte_of v 2) e ∙ byte_of-word2 a b c d m0 m1 m2 m3) in
    let e3 : byte_of (bit_xor w k) 3 ≡ bit_xor d (byte_of k 3) =
    byte_of-xor w k 3 ∙ ap (λ (x : ℕ). bit_xor x (byte_of k 3)) (ap (λ (v : ℕ). byte_of v 3) e ∙ byte_of-word3 a b c d m0 m1 m2 m3) in
    λ i. e0 i ∷ e1 i ∷ e2 i ∷ e3 i ∷ f i

-- column c of the next state, from its four words
abbrev pub column_of : List ℕ → ℕ → ℕ → ℕ → ℕ → ℕ
column_of s i j m n = mixed_word (subbed (slice_index s i) 0) (subbed (slice_index s j) 1) (subbed (slice_index s m) 2) (subbed (slice_index s n) 3)

-- a round on words is the round on bytes
pub round_bytes : (s k : List ℕ) (w0 w1 w2 w3 : ℕ)
    → w0 ≡ column_of s 0 1 2 3 → w1 ≡ column_of s 1 2 3 0 → w2 ≡ column_of s 2 3 0 1 → w3 ≡ column_of s 3 0 1 2
    → bytes_at (bit_xor w0 (slice_index k 0) ∷ bit_xor w1 (slice_index k 1) ∷ bit_xor w2 (slice_index k 2) ∷ bit_xor w3 (slice_index k 3) ∷ []) 0
    ≡ add_round_key (mix_columns (shift_rows (sub_bytes (bytes_at s 0)))) (bytes_at k 0)
round_bytes s k w0 w1 w2 w3 e0 e1 e2 e3 =
    let at : ℕ → ℕ = λ i. slice_index s i in
    let b : (i r : ℕ) → ℕ = λ i r. subbed (slice_index s i) r in
    let lt : (i r : ℕ) → b i r < 256 = λ i r. subbed-lt (slice_index s i) r in
    column_bytes w0 (slice_index k 0) (b 0 0) (b 1 1) (b 2 2) (b 3 3) _ _ (lt 0 0) (lt 1 1) (lt 2 2) (lt 3 3) e0
    (column_bytes w1 (slice_index k 1) (b 1 0) (b 2 1) (b 3 2) (b 0 3) _ _ (lt 1 0) (lt 2 1) (lt 3 2) (lt 0 3) e1
    (column_bytes w2 (slice_index k 2) (b 2 0) (b 3 1) (b 0 2) (b 1 3) _ _ (lt 2 0) (lt 3 1) (lt 0 2) (lt 1 3) e2
    (column_bytes w3 (slice_index k 3) (b 3 0) (b 0 1) (b 1 2) (b 2 3) [] [] (lt 3 0) (lt 0 1) (lt 1 2) (lt 2 3) e3 refl)))

pub subbed_column-parts : (a b c d w x y z : ℕ)
    → w ≡ word (subbed a 0) 0 0 0 → x ≡ word 0 (subbed b 1) 0 0 → y ≡ word 0 0 (subbed c 2) 0 → z ≡ word 0 0 0 (subbed d 3)
    → bit_xor (bit_xor (bit_xor w x) y) z ≡ word (subbed a 0) (subbed b 1) (subbed c 2) (subbed d 3)
subbed_column-parts a b c d w x y z ew ex ey ez =
    (λ i. bit_xor (bit_xor (bit_xor (ew i) (ex i)) (ey i)) (ez i))
    ∙ word-parts (subbed a 0) (subbed b 1) (subbed c 2) (subbed d 3) (subbed-lt b 1) (subbed-lt c 2) (subbed-lt d 3)

abbrev pub subbed_of : List ℕ → ℕ → ℕ → ℕ → ℕ → ℕ
subbed_of s i j m n = word (subbed (slice_index s i) 0) (subbed (slice_index s j) 1) (subbed (slice_index s m) 2) (subbed (slice_index s n) 3)

-- the last round on words is the last round on bytes
pub last_round_bytes : (s k : List ℕ) (w0 w1 w2 w3 : ℕ)
    → w0 ≡ subbed_of s 0 1 2 3 → w1 ≡ subbed_of s 1 2 3 0 → w2 ≡ subbed_of s 2 3 0 1 → w3 ≡ subbed_of s 3 0 1 2
    → bytes_at (bit_xor w0 (slice_index k 0) ∷ bit_xor w1 (slice_index k 1) ∷ bit_xor w2 (slice_index k 2) ∷ bit_xor w3 (slice_index k 3) ∷ []) 0
    ≡ add_round_key (shift_rows (sub_bytes (bytes_at s 0))) (bytes_at k 0)
last_round_bytes s k w0 w1 w2 w3 e0 e1 e2 e3 =
    let b : (i r : ℕ) → ℕ = λ i r. subbed (slice_index s i) r in
    let lt : (i r : ℕ) → b i r < 256 = λ i r. subbed-lt (slice_index s i) r in
    subbed_bytes w0 (slice_index k 0) (b 0 0) (b 1 1) (b 2 2) (b 3 3) _ _ (lt 0 0) (lt 1 1) (lt 2 2) (lt 3 3) e0
    (subbed_bytes w1 (slice_index k 1) (b 1 0) (b 2 1) (b 3 2) (b 0 3) _ _ (lt 1 0) (lt 2 1) (lt 3 2) (lt 0 3) e1
    (subbed_bytes w2 (slice_index k 2) (b 2 0) (b 3 1) (b 0 2) (b 1 3) _ _ (lt 2 0) (lt 3 1) (lt 0 2) (lt 1 3) e2
    (subbed_bytes w3 (slice_index k 3) (b 3 0) (b 0 1) (b 1 2) (b 2 3) [] [] (lt 3 0) (lt 0 1) (lt 1 2) (lt 2 3) e3 refl)))

-- ---- one round after another

abbrev next : List ℕ → List ℕ → ℕ → List ℕ
next ws s r = add_round_key (mix_columns (shift_rows (sub_bytes s))) (bytes_at ws (4 * r))

-- the states s0 to s9 and the last, t, each made of the one before it
pub encrypted_is : (ws b s0 s1 s2 s3 s4 s5 s6 s7 s8 s9 t : List ℕ)
    → s0 ≡ add_round_key b (bytes_at ws 0) → s1 ≡ next ws s0 1 → s2 ≡ next ws s1 2 → s3 ≡ next ws s2 3 → s4 ≡ next ws s3 4 → s5 ≡ next ws s4 5
    → s6 ≡ next ws s5 6 → s7 ≡ next ws s6 7 → s8 ≡ next ws s7 8 → s9 ≡ next ws s8 9
    → t ≡ add_round_key (shift_rows (sub_bytes s9)) (bytes_at ws 40) → t ≡ encrypted_with 10 ws b
unfolding rounds
encrypted_is ws b s0 s1 s2 s3 s4 s5 s6 s7 s8 s9 t e0 e1 e2 e3 e4 e5 e6 e7 e8 e9 e =
    let then : (s u : List ℕ) (r : ℕ) → s ≡ u → next ws s r ≡ next ws u r = λ s u r e. ap (λ (x : List ℕ). next ws x r) e in
    let r0 : s0 ≡ rounds ws b 0 = e0 in
    let r1 : s1 ≡ rounds ws b 1 = e1 ∙ then s0 (rounds ws b 0) 1 r0 in
    let r2 : s2 ≡ rounds ws b 2 = e2 ∙ then s1 (rounds ws b 1) 2 r1 in
    let r3 : s3 ≡ rounds ws b 3 = e3 ∙ then s2 (rounds ws b 2) 3 r2 in
    let r4 : s4 ≡ rounds ws b 4 = e4 ∙ then s3 (rounds ws b 3) 4 r3 in
    let r5 : s5 ≡ rounds ws b 5 = e5 ∙ then s4 (rounds ws b 4) 5 r4 in
    let r6 : s6 ≡ rounds ws b 6 = e6 ∙ then s5 (rounds ws b 5) 6 r5 in
    let r7 : s7 ≡ rounds ws b 7 = e7 ∙ then s6 (rounds ws b 6) 7 r6 in
    let r8 : s8 ≡ rounds ws b 8 = e8 ∙ then s7 (rounds ws b 7) 8 r7 in
    let r9 : s9 ≡ rounds ws b 9 = e9 ∙ then s8 (rounds ws b 8) 9 r8 in
    e ∙ ap (λ (x : List ℕ). add_round_key (shift_rows (sub_bytes x)) (bytes_at ws 40)) r9
