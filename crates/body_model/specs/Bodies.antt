-- What a store of bodies holds, as far as it tells.
use Rattle.std.specs.Prelude.{ℕ, Bool}
use Rattle.body_model.specs.LowerFile.{LowerFile}

-- A store of bodies: whether it tells what it holds, the file of each node, how many calls were made and how many failed,
-- and the room of each node's body and attribute, in octets.
pub record HeldBodies : Type 0 where
  pub told : Bool
  pub files : ℕ → LowerFile
  pub calls : ℕ
  pub faults : ℕ
  pub body_room : ℕ → ℕ
  pub attribute_room : ℕ → ℕ
