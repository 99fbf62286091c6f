-- The row of seats, as they are made.
use Rattle.std.proofs.Common.{◌≡◌, ℕ, zero, suc, ◌+◌, ◌-◌, List, [], ◌∷◌, ◌++◌, length, take, drop, refl, ap, sym, ◌∙◌, arith, length-append}
use Rattle.std.proofs.Math.Seq.{drop-append_seam, take-append_seam}
use Rattle.turn_lock.specs.Views.{LockView, SeatView}
use Rattle.turn_lock.specs.Turns.{new_seat, new_seats}

module _ (T E : Type 0) (lock : LockView T) where
  pub length_is : (n : ℕ) → length (new_seats {T = T} {E = E} lock n) ≡ n
  length_is zero = refl
  length_is (suc n) = length-append (new_seats {T = T} {E = E} lock n) (new_seat lock n ∷ []) ∙ (let rest = length_is n in omega arith)

-- how many were made
pub made_count : {T E : Type 0} (lock : LockView T) (n : ℕ) (made : List (SeatView T E)) → new_seat lock 0 ∷ made ≡ new_seats lock n → length made + 1 ≡ n
made_count {T} {E} lock n made is = let long = length_is T E lock n in let same = ap (length {A = SeatView T E}) is in omega arith

-- one more seat is made
pub more_seats : {T E : Type 0} (lock : LockView T) (n : ℕ) (made made' : List (SeatView T E)) → new_seat lock 0 ∷ made ≡ new_seats lock n → made' ≡ made ++ new_seat lock n ∷ [] → new_seat lock 0 ∷ made' ≡ new_seats lock (n + 1)
more_seats lock n made made' is next =
    let one : n + 1 ≡ suc n = omega arith in
    ap (λ l. new_seat lock 0 ∷ l) next ∙ (ap (λ l. l ++ new_seat lock n ∷ []) is ∙ ap (new_seats lock) (sym one))

-- the last one comes to the front
pub rotated : {A : Type 0} (xs ys zs : List A) (y : A) (n : ℕ) → ys ≡ xs ++ y ∷ [] → n ≡ length ys → zs ≡ drop (n - 1) ys ++ take (n - 1) ys → zs ≡ y ∷ xs
rotated xs ys zs y n is long after =
    let all = length-append xs (y ∷ []) in
    let same = ap length is in
    let m : n - 1 ≡ length xs = omega arith in
    after ∙ ((λ i. drop (m i) (is i) ++ take (m i) (is i)) ∙ (λ i. drop-append_seam xs (y ∷ []) i ++ take-append_seam xs (y ∷ []) i))
