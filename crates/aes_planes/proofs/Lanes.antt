-- The operations on vectors, at one bit of one lane.
use Rattle.std.proofs.Common.{◌≡◌, ℕ, zero, suc, cond, ltb, ◌+◌, ◌-◌, ◌*◌, ◌/◌, ◌%◌, ◌^◌, ◌<◌, List, [], ◌∷◌, length, w8, Fits, get_or, replicate, bit_and, bit_xor, refl, sym, ap, ◌∙◌, inl, inr, arith}
use Rattle.std.proofs.lemmas.Bool.{cases_lt, lt-ltb, le-ltb}
use Rattle.std.proofs.lemmas.List.{get_or_past}
use Rattle.std.proofs.lemmas.Nat.{and_shr, and_mod, xor_shr, xor_mod, shr-shr, shr_split, pow_pos, xor_comm, xor_lt}
use Rattle.std.proofs.lemmas.Nat.Bits.{bit_at_ones, bit_at-lt, bit_at_cat_low, bit_at_cat_high, bit_at-zero}
use Rattle.std.proofs.lemmas.Simd.{get_or-zip2, get_or-replicate, length-zip2}
use lib.Lanes.{zip2, Each1}
use Rattle.cipher_model.proofs.States.{IsBlock-from_each}
use Rattle.cipher_model.specs.Aes.{IsBlock}
use lib.Bits.{and_zero_r, xor_zero_r, xor_self, xor_assoc}
use Rattle.std.specs.Int.{bit_at}
use Rattle.std.specs.Prelude.{slice_index}
use Rattle.aes_planes.specs.Planes.{bit_of}

pub bit_xor_at : (a b k : ℕ) → bit_at (bit_xor a b) k ≡ bit_xor (bit_at a k) (bit_at b k)
bit_xor_at a b k = ap (λ (x : ℕ). x % 2 ^ 1) (xor_shr a b k) ∙ xor_mod (a / 2 ^ k) (b / 2 ^ k) 1

pub bit_and_at : (a b k : ℕ) → bit_at (bit_and a b) k ≡ bit_and (bit_at a k) (bit_at b k)
bit_and_at a b k = ap (λ (x : ℕ). x % 2 ^ 1) (and_shr a b k) ∙ and_mod (a / 2 ^ k) (b / 2 ^ k) 1

-- an operation that keeps 0, at a lane, also past the end
pub lane-zip2 : (f : ℕ → ℕ → ℕ) → f 0 0 ≡ 0 → (a b : List ℕ) (i : ℕ) → length a ≡ length b → get_or (zip2 f a b) i 0 ≡ f (get_or a i 0) (get_or b i 0)
lane-zip2 f z a b i same = elim (cases_lt i (length a)) [
  | inl within ↦ get_or-zip2 f a b i 0 0 0 within (omega arith)
  | inr past ↦ get_or_past (zip2 f a b) i 0 (omega (arith, length-zip2 f a b same))
      ∙ sym z ∙ sym (λ t. f (get_or_past a i 0 (omega arith) t) (get_or_past b i 0 (omega arith) t))
]

pub xor_lanes : (a b : List ℕ) (i m : ℕ) → length a ≡ length b → bit_of (zip2 bit_xor a b) i m ≡ bit_xor (bit_of a i m) (bit_of b i m)
xor_lanes a b i m same = ap (λ (x : ℕ). bit_at x m) (lane-zip2 bit_xor refl a b i same) ∙ bit_xor_at (get_or a i 0) (get_or b i 0) m

pub and_lanes : (a b : List ℕ) (i m : ℕ) → length a ≡ length b → bit_of (zip2 bit_and a b) i m ≡ bit_and (bit_of a i m) (bit_of b i m)
and_lanes a b i m same = ap (λ (x : ℕ). bit_at x m) (lane-zip2 bit_and refl a b i same) ∙ bit_and_at (get_or a i 0) (get_or b i 0) m

pub not_lanes : (a : List ℕ) (i m : ℕ) → length a ≡ 16 → i < 16 → m < 8 → bit_of (zip2 bit_xor a (replicate 16 255)) i m ≡ bit_xor (bit_of a i m) 1
not_lanes a i m long hi hm =
    xor_lanes a (replicate 16 255) i m long
    ∙ ap (λ (x : ℕ). bit_xor (bit_of a i m) (bit_at x m)) (get_or-replicate 16 i 255 0 hi)
    ∙ ap (bit_xor (bit_of a i m)) (bit_at_ones 8 m hm)

pub bit_of-lt : (p : List ℕ) (i m : ℕ) → bit_of p i m < 2
bit_of-lt p i m = bit_at-lt (slice_index p i) m

-- ---- shifts and masks

abbrev pub shr : ℕ → ℕ → ℕ
shr a n = a / 2 ^ n

abbrev pub shl : ℕ → ℕ → ℕ
shl a n = (a * 2 ^ n) % 2 ^ 8

lane-splat : (f : ℕ → ℕ → ℕ) (a : List ℕ) (n i : ℕ) → length a ≡ 16 → i < 16 → get_or (zip2 f a (replicate 16 n)) i 0 ≡ f (get_or a i 0) n
lane-splat f a n i long hi =
    get_or-zip2 f a (replicate 16 n) i 0 0 0 (omega arith) hi ∙ ap (f (get_or a i 0)) (get_or-replicate 16 i n 0 hi)

bit_at-shr : (x n m : ℕ) → bit_at (shr x n) m ≡ bit_at x (m + n)
bit_at-shr x n m = let e : n + m ≡ m + n = omega arith in ap (λ (y : ℕ). y % 2) (shr-shr x n m ∙ ap (λ (k : ℕ). x / 2 ^ k) e)

-- the low eight bits of x
bit_at-low : (x m : ℕ) → m < 8 → bit_at (x % 2 ^ 8) m ≡ bit_at x m
bit_at-low x m h = sym (bit_at_cat_low (x / 2 ^ 8) 8 (x % 2 ^ 8) m h) ∙ ap (λ (y : ℕ). bit_at y m) (shr_split x 8)

bit_at-shl : (x n m : ℕ) → m < 8 → bit_at (shl x n) m ≡ cond (ltb m n) 0 (bit_at x (m - n))
bit_at-shl x n m h =
    let z : x * 2 ^ n ≡ x * 2 ^ n + 0 = omega arith in
    bit_at-low (x * 2 ^ n) m h ∙ ap (λ (y : ℕ). bit_at y m) z
    ∙ elim (cases_lt m n) [
      | inl less ↦ bit_at_cat_low x n 0 m less ∙ bit_at-zero m ∙ sym (ap (λ b. cond b 0 (bit_at x (m - n))) (lt-ltb m n less))
      | inr more ↦ bit_at_cat_high x n 0 m (pow_pos n) more ∙ sym (ap (λ b. cond b 0 (bit_at x (m - n))) (le-ltb m n more))
    ]

pub right_lanes : (a : List ℕ) (n i m : ℕ) → length a ≡ 16 → i < 16 → bit_of (zip2 shr a (replicate 16 n)) i m ≡ bit_of a i (m + n)
right_lanes a n i m long hi = ap (λ (x : ℕ). bit_at x m) (lane-splat shr a n i long hi) ∙ bit_at-shr (get_or a i 0) n m

pub left_lanes : (a : List ℕ) (n i m : ℕ) → length a ≡ 16 → i < 16 → m < 8 → bit_of (zip2 shl a (replicate 16 n)) i m ≡ cond (ltb m n) 0 (bit_of a i (m - n))
left_lanes a n i m long hi hm = ap (λ (x : ℕ). bit_at x m) (lane-splat shl a n i long hi) ∙ bit_at-shl (get_or a i 0) n m hm

pub masked_lanes : (a : List ℕ) (n i m : ℕ) → length a ≡ 16 → i < 16 → bit_of (zip2 bit_and a (replicate 16 n)) i m ≡ bit_and (bit_of a i m) (bit_at n m)
masked_lanes a n i m long hi = ap (λ (x : ℕ). bit_at x m) (lane-splat bit_and a n i long hi) ∙ bit_and_at (get_or a i 0) n m

-- ---- an exchange of bits

pub below_eight : (P : ℕ → Type 0) → P 0 → P 1 → P 2 → P 3 → P 4 → P 5 → P 6 → P 7 → (m : ℕ) → m < 8 → P m
below_eight P a b c d e f g h zero lt = a
below_eight P a b c d e f g h (suc zero) lt = b
below_eight P a b c d e f g h (suc (suc zero)) lt = c
below_eight P a b c d e f g h (suc (suc (suc zero))) lt = d
below_eight P a b c d e f g h (suc (suc (suc (suc zero)))) lt = e
below_eight P a b c d e f g h (suc (suc (suc (suc (suc zero))))) lt = f
below_eight P a b c d e f g h (suc (suc (suc (suc (suc (suc zero)))))) lt = g
below_eight P a b c d e f g h (suc (suc (suc (suc (suc (suc (suc zero))))))) lt = h
below_eight P a b c d e f g h (suc (suc (suc (suc (suc (suc (suc (suc m)))))))) lt = absurd (omega arith)

pub off : (t u : ℕ) → t ≡ bit_and u 0 → t ≡ 0
off t u e = e ∙ and_zero_r u

pub stays : (o a s : ℕ) → o ≡ bit_xor a s → s ≡ 0 → o ≡ a
stays o a s e z = e ∙ ap (bit_xor a) z ∙ xor_zero_r a

mask_on : (u : ℕ) → u < 2 → bit_and u 1 ≡ u
mask_on zero h = refl
mask_on (suc zero) h = refl
mask_on (suc (suc u)) h = absurd (omega arith)

-- b plus the difference of a and b is a
pub takes : (a b r d t o : ℕ) → a < 2 → b < 2 → r ≡ a → d ≡ bit_xor r b → t ≡ bit_and d 1 → o ≡ bit_xor b t → o ≡ a
takes a b r d t o ha hb er ed et eo =
    let is : t ≡ bit_xor a b = et ∙ ap (λ (x : ℕ). bit_and x 1) (ed ∙ ap (λ (x : ℕ). bit_xor x b) er) ∙ mask_on (bit_xor a b) (xor_lt 1 a b ha hb) in
    eo ∙ ap (bit_xor b) (is ∙ xor_comm a b) ∙ sym (xor_assoc b b a) ∙ ap (λ (x : ℕ). bit_xor x a) (xor_self b)

pub gives : (a b r d t o : ℕ) → a < 2 → b < 2 → r ≡ a → d ≡ bit_xor r b → t ≡ bit_and d 1 → o ≡ bit_xor a t → o ≡ b
gives a b r d t o ha hb er ed et eo =
    let is : t ≡ bit_xor a b = et ∙ ap (λ (x : ℕ). bit_and x 1) (ed ∙ ap (λ (x : ℕ). bit_xor x b) er) ∙ mask_on (bit_xor a b) (xor_lt 1 a b ha hb) in
    eo ∙ ap (bit_xor a) is ∙ sym (xor_assoc a a b) ∙ ap (λ (x : ℕ). bit_xor x b) (xor_self a)

lane_fits : (v : List ℕ) (i : ℕ) → Each1 (Fits w8) v → get_or v i 0 < 256
lane_fits [] i h = omega arith
lane_fits (x ∷ xs) zero h = h.0.fits
lane_fits (x ∷ xs) (suc i) h = lane_fits xs i h.1

pub is_block : (v : List ℕ) → length v ≡ 16 → Each1 (Fits w8) v → IsBlock v
is_block v long fits = IsBlock-from_each v long (λ i. lane_fits v i fits)
