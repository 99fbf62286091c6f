-- What calls on a store of bodies do, one after another.
use Rattle.std.specs.Prelude.{ℕ, ◌≡◌, ◌≤◌, Bool, true, false}
use Rattle.answer_model.specs.Count.{Rose}
use Rattle.body_model.specs.Bodies.{HeldBodies}
use Rattle.body_model.specs.BodyCalls.{KeepsFiles, KeepsOthers}

-- The count of faults rises where a call failed, and stays else. Rooms never shrink.
pub record AreCalls (failed : Bool) (old new : HeldBodies) : Type 0 where
  pub later : old.faults ≤ new.faults
  pub rose : failed ≡ true → Rose old.faults new.faults
  pub stays : failed ≡ false → new.faults ≡ old.faults
  pub told : new.told ≡ old.told
  pub body_room : (node : ℕ) → old.body_room node ≤ new.body_room node
  pub attribute_room : (node : ℕ) → old.attribute_room node ≤ new.attribute_room node

-- They changed no file.
pub record AreReads (failed : Bool) (old new : HeldBodies) : Type 0 where
  pub calls : AreCalls failed old new
  pub keeps : KeepsFiles old new

-- They changed no file but this node's.
pub record AreWrites (failed : Bool) (node : ℕ) (old new : HeldBodies) : Type 0 where
  pub calls : AreCalls failed old new
  pub others : KeepsOthers node old new
