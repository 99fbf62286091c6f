-- The rooms that the closes of open slots have.
use Rattle.std.specs.Prelude.{ℕ, ◌≡◌, true, List, Option, Some, None, slice_get}
use Rattle.session_model.specs.declared.session.Slot.{Slot}
use Rattle.session_model.specs.Runs.{is_open}

abbrev pub HasRoom : {L : Type 0} → Option (Option L) → Type 0
HasRoom (Some (Some link)) = Unit {0}
HasRoom (Some None) = ⊥
HasRoom None = ⊥

-- Each slot that is open, and no close of which was tried, has the room of its close.
abbrev pub Fits : {L : Type 0} → List Slot → List (Option L) → Type 0
Fits slots rooms = (slot : ℕ) → is_open (slice_get slots slot) ≡ true → HasRoom (slice_get rooms slot)
