-- The value of an answer.
use Rattle.std.proofs.Common.{◌≡◌, Result, Ok, Err, refl}
use Rattle.std.specs.Prelude.{IsOkAnd}

-- the value that a definition gives, and what holds of it
pub value_of : {A E : Type 0} (given : Result A E) (P : A → Type 0) → IsOkAnd given P → (x : A) × (given ≡ Ok x) × P x
value_of (Ok x) P h = (x, refl, h)
value_of (Err e) P h = absurd h
