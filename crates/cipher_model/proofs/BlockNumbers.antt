-- A block as one number of 128 bits, whose lowest octet is the block's first.
use Rattle.std.proofs.Common.{◌≡◌, ℕ, zero, suc, ◌+◌, ◌*◌, ◌/◌, ◌%◌, ◌^◌, ◌<◌, bit_xor, List, [], ◌∷◌, ◌++◌, length, refl, ap, ◌∙◌, arith}
use Rattle.std.proofs.lemmas.Nat.{le_bytes_8, xor_shr, xor_mod}
use Rattle.std.specs.Int.{w64, w128, byte_at, from_le_bytes, to_le_bytes}
use Rattle.std.specs.Prelude.{slice_index}
use Rattle.octet_model.specs.Octets.{AreOctets}
use Rattle.octet_model.proofs.Octets.{octet_at}
use Rattle.cipher_model.specs.Aes.{IsBlock, xor_blocks}
use Rattle.cipher_model.proofs.States.{block_byte, IsBlock-each_byte, each_byte_whole}

byte_at-lt : (i n : ℕ) → byte_at i n < 256
byte_at-lt zero n = omega arith
byte_at-lt (suc i) n = omega arith

-- the octets of a number are a block
pub IsBlock-octets : (n : ℕ) → IsBlock (to_le_bytes w128 n)
IsBlock-octets n = IsBlock-each_byte (λ i. byte_at i n) (λ i h. byte_at-lt i n)

-- the exclusive or of two numbers is that of their blocks
pub octets-xor : (a b : ℕ) → to_le_bytes w128 (bit_xor a b) ≡ xor_blocks (to_le_bytes w128 a) (to_le_bytes w128 b)
octets-xor a b =
    let at : (k : ℕ) → bit_xor a b / 2 ^ k % 256 ≡ bit_xor (a / 2 ^ k % 256) (b / 2 ^ k % 256) =
    λ k. ap (λ (x : ℕ). x % 2 ^ 8) (xor_shr a b k) ∙ xor_mod (a / 2 ^ k) (b / 2 ^ k) 8 in
    λ t. xor_mod a b 8 t ∷ at 8 t ∷ at 16 t ∷ at 24 t ∷ at 32 t ∷ at 40 t ∷ at 48 t ∷ at 56 t
    ∷ at 64 t ∷ at 72 t ∷ at 80 t ∷ at 88 t ∷ at 96 t ∷ at 104 t ∷ at 112 t ∷ at 120 t ∷ []

-- the octets of a number of two halves
pub octets-halves : (low high : ℕ) → low < 2 ^ 64 → high < 2 ^ 64 → to_le_bytes w128 (high * 2 ^ 64 + low) ≡ to_le_bytes w64 low ++ to_le_bytes w64 high
octets-halves low high hl hh =
    let n : ℕ = high * 2 ^ 64 + low in
    let e0 : n % 256 ≡ low % 256 = omega arith in
    let e1 : n / 256 ^ 1 % 256 ≡ low / 256 ^ 1 % 256 = omega arith in
    let e2 : n / 256 ^ 2 % 256 ≡ low / 256 ^ 2 % 256 = omega arith in
    let e3 : n / 256 ^ 3 % 256 ≡ low / 256 ^ 3 % 256 = omega arith in
    let e4 : n / 256 ^ 4 % 256 ≡ low / 256 ^ 4 % 256 = omega arith in
    let e5 : n / 256 ^ 5 % 256 ≡ low / 256 ^ 5 % 256 = omega arith in
    let e6 : n / 256 ^ 6 % 256 ≡ low / 256 ^ 6 % 256 = omega arith in
    let e7 : n / 256 ^ 7 % 256 ≡ low / 256 ^ 7 % 256 = omega arith in
    let f0 : n / 256 ^ 8 % 256 ≡ high % 256 = omega arith in
    let f1 : n / 256 ^ 9 % 256 ≡ high / 256 ^ 1 % 256 = omega arith in
    let f2 : n / 256 ^ 10 % 256 ≡ high / 256 ^ 2 % 256 = omega arith in
    let f3 : n / 256 ^ 11 % 256 ≡ high / 256 ^ 3 % 256 = omega arith in
    let f4 : n / 256 ^ 12 % 256 ≡ high / 256 ^ 4 % 256 = omega arith in
    let f5 : n / 256 ^ 13 % 256 ≡ high / 256 ^ 5 % 256 = omega arith in
    let f6 : n / 256 ^ 14 % 256 ≡ high / 256 ^ 6 % 256 = omega arith in
    let f7 : n / 256 ^ 15 % 256 ≡ high / 256 ^ 7 % 256 = omega arith in
    λ t. e0 t ∷ e1 t ∷ e2 t ∷ e3 t ∷ e4 t ∷ e5 t ∷ e6 t ∷ e7 t ∷ f0 t ∷ f1 t ∷ f2 t ∷ f3 t ∷ f4 t ∷ f5 t ∷ f6 t ∷ f7 t ∷ []

-- eight octets
pub AreOctets-eight : (a b c d e f g h : ℕ) → a < 256 → b < 256 → c < 256 → d < 256 → e < 256 → f < 256 → g < 256 → h < 256
    → AreOctets (a ∷ b ∷ c ∷ d ∷ e ∷ f ∷ g ∷ h ∷ [])
AreOctets-eight a b c d e f g h ha hb hc hd he hf hg hh = (ha, (hb, (hc, (hd, (he, (hf, (hg, (hh, tt))))))))

-- the octets of a number whose halves have the octets l and h
pub octets-of_halves : (n low high : ℕ) (l h : List ℕ) → length l ≡ 8 → length h ≡ 8 → AreOctets l → AreOctets h
    → low ≡ from_le_bytes w64 l → high ≡ from_le_bytes w64 h → low < 2 ^ 64 → high < 2 ^ 64 → n ≡ high * 2 ^ 64 + low
    → to_le_bytes w128 n ≡ l ++ h
octets-of_halves n low high l h longl longh octetsl octetsh el eh hl hh e =
    ap (λ (x : ℕ). to_le_bytes w128 x) e ∙ octets-halves low high hl hh
    ∙ (λ t. le_bytes_8 l low longl (λ i. octet_at l i octetsl) el t ++ le_bytes_8 h high longh (λ i. octet_at h i octetsh) eh t)

sum16 : (a0 a1 a2 a3 a4 a5 a6 a7 a8 a9 a10 a11 a12 a13 a14 a15 : ℕ)
    → from_le_bytes w128 (a0 ∷ a1 ∷ a2 ∷ a3 ∷ a4 ∷ a5 ∷ a6 ∷ a7 ∷ a8 ∷ a9 ∷ a10 ∷ a11 ∷ a12 ∷ a13 ∷ a14 ∷ a15 ∷ [])
    ≡ from_le_bytes w64 (a8 ∷ a9 ∷ a10 ∷ a11 ∷ a12 ∷ a13 ∷ a14 ∷ a15 ∷ []) * 2 ^ 64
    + from_le_bytes w64 (a0 ∷ a1 ∷ a2 ∷ a3 ∷ a4 ∷ a5 ∷ a6 ∷ a7 ∷ [])
sum16 a0 a1 a2 a3 a4 a5 a6 a7 a8 a9 a10 a11 a12 a13 a14 a15 = omega arith

sum8-lt : (a b c d e f g h : ℕ) → a < 256 → b < 256 → c < 256 → d < 256 → e < 256 → f < 256 → g < 256 → h < 256
    → from_le_bytes w64 (a ∷ b ∷ c ∷ d ∷ e ∷ f ∷ g ∷ h ∷ []) < 2 ^ 64
sum8-lt a b c d e f g h ha hb hc hd he hf hg hh = omega arith

abbrev eight : List ℕ → ℕ → List ℕ
eight b k =
    slice_index b k ∷ slice_index b (k + 1) ∷ slice_index b (k + 2) ∷ slice_index b (k + 3)
    ∷ slice_index b (k + 4) ∷ slice_index b (k + 5) ∷ slice_index b (k + 6) ∷ slice_index b (k + 7) ∷ []

eight-lt : (b : List ℕ) (k : ℕ) → IsBlock b → from_le_bytes w64 (eight b k) < 2 ^ 64
eight-lt b k block =
    let lt : (i : ℕ) → slice_index b i < 256 = λ i. block_byte b i block in
    sum8-lt (slice_index b k) (slice_index b (k + 1)) (slice_index b (k + 2)) (slice_index b (k + 3))
    (slice_index b (k + 4)) (slice_index b (k + 5)) (slice_index b (k + 6)) (slice_index b (k + 7))
    (lt k) (lt (k + 1)) (lt (k + 2)) (lt (k + 3)) (lt (k + 4)) (lt (k + 5)) (lt (k + 6)) (lt (k + 7))

AreOctets-eight_of : (b : List ℕ) (k : ℕ) → IsBlock b → AreOctets (eight b k)
AreOctets-eight_of b k block =
    let lt : (i : ℕ) → slice_index b i < 256 = λ i. block_byte b i block in
    AreOctets-eight (slice_index b k) (slice_index b (k + 1)) (slice_index b (k + 2)) (slice_index b (k + 3))
    (slice_index b (k + 4)) (slice_index b (k + 5)) (slice_index b (k + 6)) (slice_index b (k + 7))
    (lt k) (lt (k + 1)) (lt (k + 2)) (lt (k + 3)) (lt (k + 4)) (lt (k + 5)) (lt (k + 6)) (lt (k + 7))

-- the number that is read from a block has the block's octets
pub octets-from : (b : List ℕ) (n : ℕ) → IsBlock b → n ≡ from_le_bytes w128 b → to_le_bytes w128 n ≡ b
octets-from b n block e =
    let at : ℕ → ℕ = λ i. slice_index b i in
    octets-of_halves n (from_le_bytes w64 (eight b 0)) (from_le_bytes w64 (eight b 8)) (eight b 0) (eight b 8) refl refl
    (AreOctets-eight_of b 0 block) (AreOctets-eight_of b 8 block) refl refl (eight-lt b 0 block) (eight-lt b 8 block)
    (e ∙ sum16 (at 0) (at 1) (at 2) (at 3) (at 4) (at 5) (at 6) (at 7) (at 8) (at 9) (at 10) (at 11) (at 12) (at 13) (at 14) (at 15))
    ∙ each_byte_whole b block.long
