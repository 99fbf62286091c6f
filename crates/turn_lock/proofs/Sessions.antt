-- For callers: the seats of a new lock, and the seats at the lock's end.
use Rattle.std.proofs.Common.{◌≡◌, ℕ, zero, suc, List, [], ◌∷◌, ◌++◌, length, refl, ap, sym, ◌∙◌, subst, arith, length-append}
use Rattle.std.specs.Prelude.{All, Any}
use mathlib.Core.Logic.{dite}
use native.Mathlib.Decide.{ℕ_discrete}
use Rattle.std.proofs.lemmas.List.Elements.{All-nil, All-push}
use Rattle.turn_lock.specs.Views.{LockView, SeatView}
use Rattle.turn_lock.specs.Turns.{new_seat, new_seats, HasEachSession}
use Rattle.turn_lock.proofs.Making.{length_is}

ends_alike : {A : Type 0} (xs ys : List A) (x y : A) → xs ++ x ∷ [] ≡ ys ++ y ∷ [] → (xs ≡ ys) × (x ≡ y)
ends_alike [] [] x y e = (refl, cc)
ends_alike [] (b ∷ ys) x y e = absurd (let long = ap length e in let all = length-append ys (y ∷ []) in omega arith)
ends_alike (a ∷ xs) [] x y e = absurd (let long = ap length e in let all = length-append xs (x ∷ []) in omega arith)
ends_alike (a ∷ xs) (b ∷ ys) x y e =
    let rest = ends_alike xs ys x y (cc) in
    let head : a ≡ b = cc in
    (cc (head, rest.0), rest.1)

-- the last of the new seats is that of the last session
pub last_new : {T E : Type 0} (lock : LockView T) (n : ℕ) (seats : List (SeatView T E)) (seat : SeatView T E) → seats ++ seat ∷ [] ≡ new_seats lock n → (seats ≡ new_seats lock (length seats)) × (seat ≡ new_seat lock (length seats))
last_new lock zero seats seat is = absurd (let long = ap length is in let all = length-append seats (seat ∷ []) in omega arith)
last_new {T} {E} lock (suc n) seats seat is =
    let both = ends_alike seats (new_seats lock n) seat (new_seat lock n) is in
    let long : length seats ≡ n = ap length both.0 ∙ length_is T E lock n in
    (both.0 ∙ ap (new_seats lock) (sym long), both.1 ∙ ap (new_seat lock) (sym long))

-- how many they are
pub new_count : {T E : Type 0} (lock : LockView T) (n : ℕ) (seats : List (SeatView T E)) → seats ≡ new_seats lock n → length seats ≡ n
new_count {T} {E} lock n seats is = ap length is ∙ length_is T E lock n

new-locks : {T E : Type 0} (lock : LockView T) (n : ℕ) → All (λ (seat : SeatView T E). seat.lock ≡ lock) (new_seats lock n)
new-locks lock zero = All-nil (λ seat. seat.lock ≡ lock)
new-locks lock (suc n) = All-push (λ seat. seat.lock ≡ lock) (new_seats lock n) (new_seat lock n) (new-locks lock n) refl

-- and all of them are of their lock
pub new_seats_locks : {T E : Type 0} (lock : LockView T) (n : ℕ) (seats : List (SeatView T E)) → seats ≡ new_seats lock n → All (λ (seat : SeatView T E). seat.lock ≡ lock) seats
new_seats_locks lock n seats is = subst (All (λ seat. seat.lock ≡ lock)) (sym is) (new-locks lock n)

-- two seats are those of both sessions
pub both_sessions : {T E : Type 0} (seats : List (SeatView T E)) (second first : SeatView T E) → seats ≡ second ∷ first ∷ [] → second.session ≡ 1 → first.session ≡ 0 → HasEachSession 2 seats
both_sessions seats second first is one zeroth t lt =
    subst (Any (λ seat. seat.session ≡ t)) (sym is) (dite (ℕ_discrete t 0)
    (λ e. (1, first, omega arith, refl, zeroth ∙ sym e))
    (λ ne. let e : t ≡ 1 = omega arith in (0, second, omega arith, refl, one ∙ sym e)))
