-- Multiplication in the field goes through the sum, which is `bit_xor`.
use Rattle.std.proofs.Common.{◌≡◌, ℕ, zero, suc, ◌+◌, ◌*◌, ◌/◌, ◌%◌, ◌^◌, ◌<◌, ◌⊎◌, inl, inr, bit_xor, refl, sym, ap, subst, ◌∙◌, arith}
use Rattle.std.proofs.lemmas.Nat.{xor_comm, xor_shr, xor_mod, xor_block, xor_lt}
use lib.Bits.{xor_assoc}
use Rattle.cipher_model.specs.Field.{times_x, product_of_bits}

-- four terms, with the middle two exchanged
pub xor_exchange : (a b c d : ℕ) → bit_xor (bit_xor a b) (bit_xor c d) ≡ bit_xor (bit_xor a c) (bit_xor b d)
xor_exchange a b c d =
    xor_assoc a b (bit_xor c d)
    ∙ ap (bit_xor a) (sym (xor_assoc b c d) ∙ ap (λ (x : ℕ). bit_xor x d) (xor_comm b c) ∙ xor_assoc c b d)
    ∙ sym (xor_assoc a c (bit_xor b d))

xor_double : (a b : ℕ) → 2 * bit_xor a b ≡ bit_xor (2 * a) (2 * b)
xor_double a b =
    let e : bit_xor (a * 2 ^ 1 + 0) (b * 2 ^ 1 + 0) ≡ bit_xor a b * 2 ^ 1 + bit_xor 0 0 = xor_block 1 a b 0 0 (omega arith) (omega arith) in
    let p : a * 2 ^ 1 + 0 ≡ 2 * a = omega arith in
    let q : b * 2 ^ 1 + 0 ≡ 2 * b = omega arith in
    let r : bit_xor a b * 2 ^ 1 + bit_xor 0 0 ≡ 2 * bit_xor a b = omega arith in
    sym r ∙ sym e ∙ (λ i. bit_xor (p i) (q i))

-- a factor that is a bit
bit_cases : (c : ℕ) → c < 2 → (c ≡ 0) ⊎ (c ≡ 1)
bit_cases zero h = inl refl
bit_cases (suc zero) h = inr refl
bit_cases (suc (suc c)) h = absurd (omega arith)

bit_times : (c a b : ℕ) → c < 2 → c * bit_xor a b ≡ bit_xor (c * a) (c * b)
bit_times c a b h = elim (bit_cases c h) [
  | inl e ↦ subst (λ (c : ℕ). c * bit_xor a b ≡ bit_xor (c * a) (c * b)) (sym e) (
      let p : 0 * bit_xor a b ≡ 0 = omega arith in
      let q : 0 * a ≡ 0 = omega arith in
      let r : 0 * b ≡ 0 = omega arith in
      p ∙ (λ i. bit_xor (sym q i) (sym r i)))
  | inr e ↦ subst (λ (c : ℕ). c * bit_xor a b ≡ bit_xor (c * a) (c * b)) (sym e) (
      let p : 1 * bit_xor a b ≡ bit_xor a b = omega arith in
      let q : 1 * a ≡ a = omega arith in
      let r : 1 * b ≡ b = omega arith in
      p ∙ (λ i. bit_xor (sym q i) (sym r i)))
]

times_bit : (a b : ℕ) → a < 2 → b < 2 → 27 * bit_xor a b ≡ bit_xor (27 * a) (27 * b)
times_bit a b ha hb = elim (bit_cases a ha) [
  | inl e ↦ elim (bit_cases b hb) [
    | inl f ↦ rw (e, f) refl
    | inr f ↦ rw (e, f) refl
  ]
  | inr e ↦ elim (bit_cases b hb) [
    | inl f ↦ rw (e, f) refl
    | inr f ↦ rw (e, f) refl
  ]
]

-- x times a sum is the sum of the products
pub times_x-xor : (a b : ℕ) → a < 256 → b < 256 → times_x (bit_xor a b) ≡ bit_xor (times_x a) (times_x b)
times_x-xor a b ha hb =
    let low : 2 * bit_xor a b % 256 ≡ bit_xor (2 * a % 256) (2 * b % 256) = ap (λ (x : ℕ). x % 256) (xor_double a b) ∙ xor_mod (2 * a) (2 * b) 8 in
    let high : 27 * (bit_xor a b / 128) ≡ bit_xor (27 * (a / 128)) (27 * (b / 128)) =
    ap (λ (x : ℕ). 27 * x) (xor_shr a b 7) ∙ times_bit (a / 128) (b / 128) (omega arith) (omega arith) in
    (λ i. bit_xor (low i) (high i)) ∙ xor_exchange (2 * a % 256) (2 * b % 256) (27 * (a / 128)) (27 * (b / 128))

-- x times an element of the field is an element
pub times_x-lt : (a : ℕ) → a < 256 → times_x a < 256
times_x-lt a h = xor_lt 8 (2 * a % 256) (27 * (a / 128)) (omega arith) (omega arith)

pub product_of_bits-lt : (n a b : ℕ) → a < 256 → product_of_bits n a b < 256
unfolding product_of_bits
product_of_bits-lt zero a b h = omega arith
product_of_bits-lt (suc n) a b h =
    let one : b % 2 * a < 256 = elim (bit_cases (b % 2) (omega arith)) [ inl e ↦ rw e (omega arith) | inr e ↦ rw e (omega arith) ] in
    xor_lt 8 (b % 2 * a) (product_of_bits n (times_x a) (b / 2)) one (product_of_bits-lt n (times_x a) (b / 2) (times_x-lt a h))

-- the product goes through the sum in its first factor
pub product_of_bits-xor : (n a b c : ℕ) → a < 256 → b < 256
    → product_of_bits n (bit_xor a b) c ≡ bit_xor (product_of_bits n a c) (product_of_bits n b c)
unfolding product_of_bits
product_of_bits-xor zero a b c ha hb = refl
product_of_bits-xor (suc n) a b c ha hb =
    let first : c % 2 * bit_xor a b ≡ bit_xor (c % 2 * a) (c % 2 * b) = bit_times (c % 2) a b (omega arith) in
    let rest : product_of_bits n (times_x (bit_xor a b)) (c / 2)
    ≡ bit_xor (product_of_bits n (times_x a) (c / 2)) (product_of_bits n (times_x b) (c / 2)) =
    ap (λ (x : ℕ). product_of_bits n x (c / 2)) (times_x-xor a b ha hb)
    ∙ product_of_bits-xor n (times_x a) (times_x b) (c / 2) (times_x-lt a ha) (times_x-lt b hb) in
    (λ i. bit_xor (first i) (rest i))
    ∙ xor_exchange (c % 2 * a) (c % 2 * b) (product_of_bits n (times_x a) (c / 2)) (product_of_bits n (times_x b) (c / 2))
