-- Bytes from their bits, and circuits on the bits of a byte.
use Rattle.std.proofs.Common.{◌≡◌, ℕ, ◌<◌, ◌%◌, ◌/◌, ◌^◌, ◌+◌, ◌*◌, List, [], ◌∷◌, map, bit_xor, refl, sym, ap, ◌∙◌, arith}
use Rattle.std.specs.List.{range_with_len}
use Rattle.std.proofs.lemmas.Nat.{xor_block}
use Rattle.cipher_model.proofs.Tables.{table_at}
use Rattle.aes_planes.specs.Planes.{from_bits}
use Rattle.aes_planes.proofs.Circuit.{Gate, run, Trace, pushed, traced}

-- the bits of x, the highest first
abbrev pub bits_of : ℕ → List ℕ
bits_of x = x / 128 % 2 ∷ x / 64 % 2 ∷ x / 32 % 2 ∷ x / 16 % 2 ∷ x / 8 % 2 ∷ x / 4 % 2 ∷ x / 2 % 2 ∷ x % 2 ∷ []

-- eight bits are those of the byte that they make
bits_from : (a b c d e f g h : ℕ) → a < 2 → b < 2 → c < 2 → d < 2 → e < 2 → f < 2 → g < 2 → h < 2
    → (h ∷ g ∷ f ∷ e ∷ d ∷ c ∷ b ∷ a ∷ []) ≡ bits_of (from_bits a b c d e f g h)
bits_from a b c d e f g h ha hb hc hd he hf hg hh =
    let x : ℕ = from_bits a b c d e f g h in
    let e0 : a ≡ x % 2 = omega arith in
    let e1 : b ≡ x / 2 % 2 = omega arith in
    let e2 : c ≡ x / 4 % 2 = omega arith in
    let e3 : d ≡ x / 8 % 2 = omega arith in
    let e4 : e ≡ x / 16 % 2 = omega arith in
    let e5 : f ≡ x / 32 % 2 = omega arith in
    let e6 : g ≡ x / 64 % 2 = omega arith in
    let e7 : h ≡ x / 128 % 2 = omega arith in
    λ i. e7 i ∷ e6 i ∷ e5 i ∷ e4 i ∷ e3 i ∷ e2 i ∷ e1 i ∷ e0 i ∷ []

pub from_bits-lt : (a b c d e f g h : ℕ) → a < 2 → b < 2 → c < 2 → d < 2 → e < 2 → f < 2 → g < 2 → h < 2 → from_bits a b c d e f g h < 256
from_bits-lt a b c d e f g h ha hb hc hd he hf hg hh = omega arith

-- a circuit that was tried on all bytes
pub circuit_at : (gs : List Gate) (out : List ℕ → ℕ) (fn : ℕ → ℕ)
    → map (λ (x : ℕ). out (run gs (bits_of x))) (range_with_len 0 256) ≡ map fn (range_with_len 0 256)
    → (a b c d e f g h : ℕ) (ts : List ℕ) → a < 2 → b < 2 → c < 2 → d < 2 → e < 2 → f < 2 → g < 2 → h < 2
    → Trace gs (h ∷ g ∷ f ∷ e ∷ d ∷ c ∷ b ∷ a ∷ []) ts → out (pushed gs (h ∷ g ∷ f ∷ e ∷ d ∷ c ∷ b ∷ a ∷ []) ts) ≡ fn (from_bits a b c d e f g h)
circuit_at gs out fn is a b c d e f g h ts ha hb hc hd he hf hg hh t =
    let x : ℕ = from_bits a b c d e f g h in
    let lt : x < 256 = from_bits-lt a b c d e f g h ha hb hc hd he hf hg hh in
    ap out (sym (traced gs (h ∷ g ∷ f ∷ e ∷ d ∷ c ∷ b ∷ a ∷ []) ts t))
    ∙ ap (λ (l : List ℕ). out (run gs l)) (bits_from a b c d e f g h ha hb hc hd he hf hg hh)
    ∙ sym (table_at (λ (x : ℕ). out (run gs (bits_of x))) (map fn (range_with_len 0 256)) 256 is x lt)
    ∙ table_at fn (map fn (range_with_len 0 256)) 256 refl x lt

bit_cons-xor : (a x b y : ℕ) → a < 2 → b < 2 → bit_xor (a + 2 * x) (b + 2 * y) ≡ bit_xor a b + 2 * bit_xor x y
bit_cons-xor a x b y ha hb =
    let p : x * 2 ^ 1 + a ≡ a + 2 * x = omega arith in
    let q : y * 2 ^ 1 + b ≡ b + 2 * y = omega arith in
    let r : bit_xor x y * 2 ^ 1 + bit_xor a b ≡ bit_xor a b + 2 * bit_xor x y = omega arith in
    sym (λ i. bit_xor (p i) (q i)) ∙ xor_block 1 x y a b ha hb ∙ r

-- the sum of two bytes, bit by bit
pub from_bits-xor : (a b c d e f g h a' b' c' d' e' f' g' h' : ℕ)
    → a < 2 → b < 2 → c < 2 → d < 2 → e < 2 → f < 2 → g < 2 → h < 2 → a' < 2 → b' < 2 → c' < 2 → d' < 2 → e' < 2 → f' < 2 → g' < 2 → h' < 2
    → from_bits (bit_xor a a') (bit_xor b b') (bit_xor c c') (bit_xor d d') (bit_xor e e') (bit_xor f f') (bit_xor g g') (bit_xor h h')
    ≡ bit_xor (from_bits a b c d e f g h) (from_bits a' b' c' d' e' f' g' h')
from_bits-xor a b c d e f g h a' b' c' d' e' f' g' h' ha hb hc hd he hf hg hh ha' hb' hc' hd' he' hf' hg' hh' =
    let e6 = bit_cons-xor g h g' h' hg hg' in
    let e5 = bit_cons-xor f (g + 2 * h) f' (g' + 2 * h') hf hf' in
    let e4 = bit_cons-xor e (f + 2 * (g + 2 * h)) e' (f' + 2 * (g' + 2 * h')) he he' in
    let e3 = bit_cons-xor d (e + 2 * (f + 2 * (g + 2 * h))) d' (e' + 2 * (f' + 2 * (g' + 2 * h'))) hd hd' in
    let e2 = bit_cons-xor c (d + 2 * (e + 2 * (f + 2 * (g + 2 * h)))) c' (d' + 2 * (e' + 2 * (f' + 2 * (g' + 2 * h')))) hc hc' in
    let e1 = bit_cons-xor b (c + 2 * (d + 2 * (e + 2 * (f + 2 * (g + 2 * h))))) b' (c' + 2 * (d' + 2 * (e' + 2 * (f' + 2 * (g' + 2 * h'))))) hb hb' in
    let e0 = bit_cons-xor a (b + 2 * (c + 2 * (d + 2 * (e + 2 * (f + 2 * (g + 2 * h)))))) a' (b' + 2 * (c' + 2 * (d' + 2 * (e' + 2 * (f' + 2 * (g' + 2 * h')))))) ha ha' in
    sym (e0 ∙ ap (λ (x : ℕ). bit_xor a a' + 2 * x) (e1 ∙ ap (λ (x : ℕ). bit_xor b b' + 2 * x) (e2 ∙ ap (λ (x : ℕ). bit_xor c c' + 2 * x)
    (e3 ∙ ap (λ (x : ℕ). bit_xor d d' + 2 * x) (e4 ∙ ap (λ (x : ℕ). bit_xor e e' + 2 * x) (e5 ∙ ap (λ (x : ℕ). bit_xor f f' + 2 * x) e6))))))
