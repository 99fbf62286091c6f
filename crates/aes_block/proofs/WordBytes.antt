-- Words of four bytes.
use Rattle.std.proofs.Common.{◌≡◌, ℕ, ◌+◌, ◌*◌, ◌/◌, ◌%◌, ◌^◌, ◌-◌, ◌<◌, bit_xor, List, [], ◌∷◌, ap, ◌∙◌, arith}
use Rattle.std.proofs.lemmas.Nat.{xor_shr, xor_mod, xor_block}
use lib.Bits.{xor_zero_r}
use Rattle.std.specs.Prelude.{slice_index}
use Rattle.cipher_model.specs.Aes.{word, byte_of, bytes_at, add_round_key}

pub word-xor : (a b c d p q r s : ℕ) → b < 256 → c < 256 → d < 256 → q < 256 → r < 256 → s < 256
    → bit_xor (word a b c d) (word p q r s) ≡ word (bit_xor a p) (bit_xor b q) (bit_xor c r) (bit_xor d s)
word-xor a b c d p q r s hb hc hd hq hr hs =
    xor_block 8 ((a * 2 ^ 8 + b) * 2 ^ 8 + c) ((p * 2 ^ 8 + q) * 2 ^ 8 + r) d s hd hs
    ∙ ap (λ (x : ℕ). x * 2 ^ 8 + bit_xor d s) (xor_block 8 (a * 2 ^ 8 + b) (p * 2 ^ 8 + q) c r hc hr
    ∙ ap (λ (x : ℕ). x * 2 ^ 8 + bit_xor c r) (xor_block 8 a p b q hb hq))

-- a word is the sum of its bytes, each alone at its place
pub word-parts : (a b c d : ℕ) → b < 256 → c < 256 → d < 256
    → bit_xor (bit_xor (bit_xor (word a 0 0 0) (word 0 b 0 0)) (word 0 0 c 0)) (word 0 0 0 d) ≡ word a b c d
word-parts a b c d hb hc hd =
    let z : 0 < 256 = omega arith in
    let two : bit_xor (word a 0 0 0) (word 0 b 0 0) ≡ word a b 0 0 =
    word-xor a 0 0 0 0 b 0 0 z z z hb z z ∙ (λ i. word (xor_zero_r a i) b 0 0) in
    let three : bit_xor (word a b 0 0) (word 0 0 c 0) ≡ word a b c 0 =
    word-xor a b 0 0 0 0 c 0 hb z z z hc z ∙ (λ i. word (xor_zero_r a i) (xor_zero_r b i) c 0) in
    ap (λ (w : ℕ). bit_xor (bit_xor w (word 0 0 c 0)) (word 0 0 0 d)) two
    ∙ ap (λ (w : ℕ). bit_xor w (word 0 0 0 d)) three
    ∙ word-xor a b c 0 0 0 0 d hb hc z z z hd ∙ (λ i. word (xor_zero_r a i) (xor_zero_r b i) (xor_zero_r c i) d)

pub byte_of-xor : (w k r : ℕ) → byte_of (bit_xor w k) r ≡ bit_xor (byte_of w r) (byte_of k r)
byte_of-xor w k r = ap (λ (x : ℕ). x % 2 ^ 8) (xor_shr w k (24 - 8 * r)) ∙ xor_mod (w / 2 ^ (24 - 8 * r)) (k / 2 ^ (24 - 8 * r)) 8

module _ (a b c d : ℕ) (ha : a < 256) (hb : b < 256) (hc : c < 256) (hd : d < 256) where
  pub byte_of-word0 : byte_of (word a b c d) 0 ≡ a
  byte_of-word0 = omega arith

  pub byte_of-word1 : byte_of (word a b c d) 1 ≡ b
  byte_of-word1 = omega arith

  pub byte_of-word2 : byte_of (word a b c d) 2 ≡ c
  byte_of-word2 = omega arith

  pub byte_of-word3 : byte_of (word a b c d) 3 ≡ d
  byte_of-word3 = omega arith

pub byte_of-lt : (w r : ℕ) → byte_of w r < 256
byte_of-lt w r = omega arith

-- the bytes of a word of four bytes under a word of the key, before those of further columns
pub subbed_bytes : (w k p q r s : ℕ) (xs ys : List ℕ) → p < 256 → q < 256 → r < 256 → s < 256 → w ≡ word p q r s → xs ≡ ys
    → byte_of (bit_xor w k) 0 ∷ byte_of (bit_xor w k) 1 ∷ byte_of (bit_xor w k) 2 ∷ byte_of (bit_xor w k) 3 ∷ xs
    ≡ bit_xor p (byte_of k 0) ∷ bit_xor q (byte_of k 1) ∷ bit_xor r (byte_of k 2) ∷ bit_xor s (byte_of k 3) ∷ ys
subbed_bytes w k p q r s xs ys hp hq hr hs e f =
    let e0 : byte_of (bit_xor w k) 0 ≡ bit_xor p (byte_of k 0) =
    byte_of-xor w k 0 ∙ ap (λ (x : ℕ). bit_xor x (byte_of k 0)) (ap (λ (v : ℕ). byte_of v 0) e ∙ byte_of-word0 p q r s hp hq hr hs) in
    let e1 : byte_of (bit_xor w k) 1 ≡ bit_xor q (byte_of k 1) =
    byte_of-xor w k 1 ∙ ap (λ (x : ℕ). bit_xor x (byte_of k 1)) (ap (λ (v : ℕ). byte_of v 1) e ∙ byte_of-word1 p q r s hp hq hr hs) in
    let e2 : byte_of (bit_xor w k) 2 ≡ bit_xor r (byte_of k 2) =
    byte_of-xor w k 2 ∙ ap (λ (x : ℕ). bit_xor x (byte_of k 2)) (ap (λ (v : ℕ). byte_of v 2) e ∙ byte_of-word2 p q r s hp hq hr hs) in
    let e3 : byte_of (bit_xor w k) 3 ≡ bit_xor s (byte_of k 3) =
    byte_of-xor w k 3 ∙ ap (λ (x : ℕ). bit_xor x (byte_of k 3)) (ap (λ (v : ℕ). byte_of v 3) e ∙ byte_of-word3 p q r s hp hq hr hs) in
    λ i. e0 i ∷ e1 i ∷ e2 i ∷ e3 i ∷ f i

pub xored_bytes : (s k : List ℕ)
    → bytes_at (bit_xor (slice_index s 0) (slice_index k 0) ∷ bit_xor (slice_index s 1) (slice_index k 1) ∷ bit_xor (slice_index s 2) (slice_index k 2) ∷ bit_xor (slice_index s 3) (slice_index k 3) ∷ []) 0
    ≡ add_round_key (bytes_at s 0) (bytes_at k 0)
xored_bytes s k =
    let e : (j r : ℕ) → byte_of (bit_xor (slice_index s j) (slice_index k j)) r ≡ bit_xor (byte_of (slice_index s j) r) (byte_of (slice_index k j) r) =
    λ j r. byte_of-xor (slice_index s j) (slice_index k j) r in
    λ i. e 0 0 i ∷ e 0 1 i ∷ e 0 2 i ∷ e 0 3 i ∷ e 1 0 i ∷ e 1 1 i ∷ e 1 2 i ∷ e 1 3 i
    ∷ e 2 0 i ∷ e 2 1 i ∷ e 2 2 i ∷ e 2 3 i ∷ e 3 0 i ∷ e 3 1 i ∷ e 3 2 i ∷ e 3 3 i ∷ []
