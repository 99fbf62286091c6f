-- Sums over the views of all holders.
use Rattle.std.proofs.Common.{◌≡◌, ℕ, zero, suc, ◌+◌, ◌≤◌, List, [], ◌∷◌, ◌++◌, set, sum_by, refl, ap, sym, arith}
use mathlib.Core.Option.{some, some-injective, some-ne-none}
use lib.ListN.{get_elem?}
use Rattle.std.proofs.lemmas.List.Sums.{sum_by-cons, sum_by-append}

module _ {A : Type 0} (f : A → ℕ) where
  -- the sum after one element changed
  pub sum_by_set : (xs : List A) (i : ℕ) (v w : A) → get_elem? xs i ≡ some v → sum_by f (set xs i w) + f v ≡ sum_by f xs + f w
  sum_by_set [] i v w at = absurd (some-ne-none v (sym at))
  sum_by_set (x ∷ xs) zero v w at =
      let same : f x ≡ f v = ap f (some-injective x v at) in
      let old = sum_by-cons f x xs in
      let new = sum_by-cons f w xs in
      omega arith
  sum_by_set (x ∷ xs) (suc i) v w at =
      let rest = sum_by_set xs i v w at in
      let old = sum_by-cons f x xs in
      let new = sum_by-cons f x (set xs i w) in
      omega arith

  -- the sum with one more element
  pub sum_by_push : (xs : List A) (w : A) → sum_by f (xs ++ w ∷ []) ≡ sum_by f xs + f w
  sum_by_push xs w = let one = sum_by-cons f w [] in let all = sum_by-append f xs (w ∷ []) in omega arith

  -- a sum of smaller numbers is smaller
  pub sum_by_le : (g : A → ℕ) (xs : List A) → ((i : ℕ) (v : A) → get_elem? xs i ≡ some v → f v ≤ g v) → sum_by f xs ≤ sum_by g xs
  sum_by_le g [] le = omega arith
  sum_by_le g (x ∷ xs) le =
      let here = le zero x refl in
      let rest = sum_by_le g xs (λ i v at. le (suc i) v at) in
      let a = sum_by-cons f x xs in
      let b = sum_by-cons g x xs in
      omega arith
