-- The four words of a block that comes as a number, its first octet the lowest.
use Rattle.std.proofs.Common.{◌≡◌, ℕ, ◌+◌, ◌*◌, ◌/◌, ◌%◌, ◌^◌, ◌<◌, List, [], ◌∷◌, refl, ap, ◌∙◌, arith}
use Rattle.std.specs.Prelude.{slice_index}
use Rattle.std.specs.Int.{w32, w64, w128, from_le_bytes, swap_bytes, to_le_bytes}
use Rattle.cipher_model.specs.Aes.{word, byte_of, bytes_at}
use Rattle.octet_model.specs.Octets.{AreOctets}
use Rattle.cipher_model.proofs.BlockNumbers.{AreOctets-eight, octets-of_halves}
use Rattle.aes_block.proofs.WordBytes.{byte_of-lt, byte_of-word0, byte_of-word1, byte_of-word2, byte_of-word3}

-- a word whose bytes are those of x from the lowest up
swapped : (x : ℕ) → swap_bytes w32 x ≡ word (x % 256) (x / 256 % 256) (x / 65536 % 256) (x / 16777216 % 256)
swapped x = omega arith

swapped0 : (x : ℕ) → byte_of (swap_bytes w32 x) 0 ≡ x % 256
swapped0 x = ap (λ (w : ℕ). byte_of w 0) (swapped x) ∙ byte_of-word0 (x % 256) (x / 256 % 256) (x / 65536 % 256) (x / 16777216 % 256) (omega arith) (omega arith) (omega arith) (omega arith)

swapped1 : (x : ℕ) → byte_of (swap_bytes w32 x) 1 ≡ x / 256 % 256
swapped1 x = ap (λ (w : ℕ). byte_of w 1) (swapped x) ∙ byte_of-word1 (x % 256) (x / 256 % 256) (x / 65536 % 256) (x / 16777216 % 256) (omega arith) (omega arith) (omega arith) (omega arith)

swapped2 : (x : ℕ) → byte_of (swap_bytes w32 x) 2 ≡ x / 65536 % 256
swapped2 x = ap (λ (w : ℕ). byte_of w 2) (swapped x) ∙ byte_of-word2 (x % 256) (x / 256 % 256) (x / 65536 % 256) (x / 16777216 % 256) (omega arith) (omega arith) (omega arith) (omega arith)

swapped3 : (x : ℕ) → byte_of (swap_bytes w32 x) 3 ≡ x / 16777216 % 256
swapped3 x = ap (λ (w : ℕ). byte_of w 3) (swapped x) ∙ byte_of-word3 (x % 256) (x / 256 % 256) (x / 65536 % 256) (x / 16777216 % 256) (omega arith) (omega arith) (omega arith) (omega arith)

-- the words that are made of a block keep its octets
pub words_bytes : (n w0 w1 w2 w3 : ℕ) → w0 ≡ swap_bytes w32 (n % 2 ^ 32) → w1 ≡ swap_bytes w32 (n / 2 ^ 32 % 2 ^ 32)
    → w2 ≡ swap_bytes w32 (n / 2 ^ 64 % 2 ^ 32) → w3 ≡ swap_bytes w32 (n / 2 ^ 96)
    → bytes_at (w0 ∷ w1 ∷ w2 ∷ w3 ∷ []) 0 ≡ to_le_bytes w128 n
words_bytes n w0 w1 w2 w3 e0 e1 e2 e3 =
    let x0 : ℕ = n % 2 ^ 32 in
    let x1 : ℕ = n / 2 ^ 32 % 2 ^ 32 in
    let x2 : ℕ = n / 2 ^ 64 % 2 ^ 32 in
    let x3 : ℕ = n / 2 ^ 96 in
    let a0 : byte_of w0 0 ≡ n % 256 = ap (λ (w : ℕ). byte_of w 0) e0 ∙ swapped0 x0 ∙ omega arith in
    let a1 : byte_of w0 1 ≡ n / 256 ^ 1 % 256 = ap (λ (w : ℕ). byte_of w 1) e0 ∙ swapped1 x0 ∙ omega arith in
    let a2 : byte_of w0 2 ≡ n / 256 ^ 2 % 256 = ap (λ (w : ℕ). byte_of w 2) e0 ∙ swapped2 x0 ∙ omega arith in
    let a3 : byte_of w0 3 ≡ n / 256 ^ 3 % 256 = ap (λ (w : ℕ). byte_of w 3) e0 ∙ swapped3 x0 ∙ omega arith in
    let b0 : byte_of w1 0 ≡ n / 256 ^ 4 % 256 = ap (λ (w : ℕ). byte_of w 0) e1 ∙ swapped0 x1 ∙ omega arith in
    let b1 : byte_of w1 1 ≡ n / 256 ^ 5 % 256 = ap (λ (w : ℕ). byte_of w 1) e1 ∙ swapped1 x1 ∙ omega arith in
    let b2 : byte_of w1 2 ≡ n / 256 ^ 6 % 256 = ap (λ (w : ℕ). byte_of w 2) e1 ∙ swapped2 x1 ∙ omega arith in
    let b3 : byte_of w1 3 ≡ n / 256 ^ 7 % 256 = ap (λ (w : ℕ). byte_of w 3) e1 ∙ swapped3 x1 ∙ omega arith in
    let c0 : byte_of w2 0 ≡ n / 256 ^ 8 % 256 = ap (λ (w : ℕ). byte_of w 0) e2 ∙ swapped0 x2 ∙ omega arith in
    let c1 : byte_of w2 1 ≡ n / 256 ^ 9 % 256 = ap (λ (w : ℕ). byte_of w 1) e2 ∙ swapped1 x2 ∙ omega arith in
    let c2 : byte_of w2 2 ≡ n / 256 ^ 10 % 256 = ap (λ (w : ℕ). byte_of w 2) e2 ∙ swapped2 x2 ∙ omega arith in
    let c3 : byte_of w2 3 ≡ n / 256 ^ 11 % 256 = ap (λ (w : ℕ). byte_of w 3) e2 ∙ swapped3 x2 ∙ omega arith in
    let d0 : byte_of w3 0 ≡ n / 256 ^ 12 % 256 = ap (λ (w : ℕ). byte_of w 0) e3 ∙ swapped0 x3 ∙ omega arith in
    let d1 : byte_of w3 1 ≡ n / 256 ^ 13 % 256 = ap (λ (w : ℕ). byte_of w 1) e3 ∙ swapped1 x3 ∙ omega arith in
    let d2 : byte_of w3 2 ≡ n / 256 ^ 14 % 256 = ap (λ (w : ℕ). byte_of w 2) e3 ∙ swapped2 x3 ∙ omega arith in
    let d3 : byte_of w3 3 ≡ n / 256 ^ 15 % 256 = ap (λ (w : ℕ). byte_of w 3) e3 ∙ swapped3 x3 ∙ omega arith in
    λ t. a0 t ∷ a1 t ∷ a2 t ∷ a3 t ∷ b0 t ∷ b1 t ∷ b2 t ∷ b3 t ∷ c0 t ∷ c1 t ∷ c2 t ∷ c3 t ∷ d0 t ∷ d1 t ∷ d2 t ∷ d3 t ∷ []

-- the bytes of two words
abbrev two : ℕ → ℕ → List ℕ
two a b = byte_of a 0 ∷ byte_of a 1 ∷ byte_of a 2 ∷ byte_of a 3 ∷ byte_of b 0 ∷ byte_of b 1 ∷ byte_of b 2 ∷ byte_of b 3 ∷ []

AreOctets-two : (a b : ℕ) → AreOctets (two a b)
AreOctets-two a b =
    AreOctets-eight (byte_of a 0) (byte_of a 1) (byte_of a 2) (byte_of a 3) (byte_of b 0) (byte_of b 1) (byte_of b 2) (byte_of b 3)
    (byte_of-lt a 0) (byte_of-lt a 1) (byte_of-lt a 2) (byte_of-lt a 3) (byte_of-lt b 0) (byte_of-lt b 1) (byte_of-lt b 2) (byte_of-lt b 3)

two_sum : (a b : ℕ) → swap_bytes w32 a + swap_bytes w32 b * 2 ^ 32 ≡ from_le_bytes w64 (two a b)
two_sum a b = omega arith

two-lt : (a b : ℕ) → swap_bytes w32 a + swap_bytes w32 b * 2 ^ 32 < 2 ^ 64
two-lt a b = omega arith

-- the number that is made of four words keeps their bytes
pub number_bytes : (ws : List ℕ) (s0 s1 s2 s3 : ℕ) → s0 ≡ swap_bytes w32 (slice_index ws 0) → s1 ≡ swap_bytes w32 (slice_index ws 1)
    → s2 ≡ swap_bytes w32 (slice_index ws 2) → s3 ≡ swap_bytes w32 (slice_index ws 3)
    → to_le_bytes w128 ((s2 + s3 * 2 ^ 32) * 2 ^ 64 + (s0 + s1 * 2 ^ 32)) ≡ bytes_at ws 0
number_bytes ws s0 s1 s2 s3 e0 e1 e2 e3 =
    let at : ℕ → ℕ = λ i. slice_index ws i in
    let low : ℕ = swap_bytes w32 (at 0) + swap_bytes w32 (at 1) * 2 ^ 32 in
    let high : ℕ = swap_bytes w32 (at 2) + swap_bytes w32 (at 3) * 2 ^ 32 in
    (λ t. to_le_bytes w128 ((e2 t + e3 t * 2 ^ 32) * 2 ^ 64 + (e0 t + e1 t * 2 ^ 32)))
    ∙ octets-of_halves (high * 2 ^ 64 + low) low high (two (at 0) (at 1)) (two (at 2) (at 3)) refl refl
    (AreOctets-two (at 0) (at 1)) (AreOctets-two (at 2) (at 3)) (two_sum (at 0) (at 1)) (two_sum (at 2) (at 3))
    (two-lt (at 0) (at 1)) (two-lt (at 2) (at 3)) refl
