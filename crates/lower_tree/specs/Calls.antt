-- How calls on lower parts end.
use Rattle.std.specs.Prelude.{ℕ, ◌≡◌, Bool, true, false, Result, Ok, Err}
use Rattle.answer_model.specs.Count.{Rose}
use Rattle.lower_tree.specs.declared.error.LowerError.{LowerError}
use Rattle.lower_tree.specs.declared.error.LowerError.TheVariants.{Failed, Memory}
use Rattle.names_model.specs.Store.{Store}

-- The count of failed calls rises with a call that fails, and stays with any other.
abbrev pub HasCause : {T : Type 0} → ℕ → ℕ → Result T LowerError → Type 0
HasCause before after (Ok x) = after ≡ before
HasCause before after (Err Memory) = after ≡ before
HasCause before after (Err Failed) = Rose before after

-- At Ok the store has the change, and else it is as before.
abbrev pub Leaves : {T : Type 0} → Result T LowerError → Store → Store → Store → Type 0
Leaves (Ok x) old new change = (k : ℕ) → new k ≡ change k
Leaves (Err e) old new change = (k : ℕ) → new k ≡ old k

-- an answer that is a failure of the lower part, and not want of memory
abbrev pub is_fault : {T : Type 0} → Result T LowerError → Bool
is_fault (Ok x) = false
is_fault (Err Failed) = true
is_fault (Err Memory) = false
