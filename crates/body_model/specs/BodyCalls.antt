-- What the calls on a store of bodies do.
use Rattle.std.specs.Prelude.{ℕ, ◌⊎◌, ◌≡◌, ◌≢◌, ◌+◌, ◌≤◌, min, max, Bool, true, false, List, length, take, drop, Option, Some}
use Rattle.answer_model.specs.Count.{Rose, next_count}
use Rattle.body_model.specs.LowerFile.{LowerFile, IsOfOctets}
use Rattle.body_model.specs.Bodies.{HeldBodies}

-- Each call is counted. The count of faults rises with a call that fails, and stays with any other. Rooms never shrink.
pub record IsCall (failed : Bool) (old new : HeldBodies) : Type 0 where
  pub calls : new.calls ≡ next_count old.calls
  pub later : old.faults ≤ new.faults
  pub rose : failed ≡ true → Rose old.faults new.faults
  pub stays : failed ≡ false → new.faults ≡ old.faults
  pub told : new.told ≡ old.told
  pub body_room : (node : ℕ) → old.body_room node ≤ new.body_room node
  pub attribute_room : (node : ℕ) → old.attribute_room node ≤ new.attribute_room node

-- No file changed.
abbrev pub KeepsFiles : HeldBodies → HeldBodies → Type 0
KeepsFiles old new = old.told ≡ true → (node : ℕ) → new.files node ≡ old.files node

-- No file changed but this node's, and that holds octets.
pub record KeepsOthers (node : ℕ) (old new : HeldBodies) : Type 0 where
  pub others : old.told ≡ true → (other : ℕ) → other ≢ node → new.files other ≡ old.files other
  pub octets : old.told ≡ true → IsOfOctets (old.files node) → IsOfOctets (new.files node)

-- ---- what is told

abbrev pub TellsLength : HeldBodies → ℕ → ℕ → Type 0
TellsLength held node len = held.told ≡ true → len ≡ length (held.files node).body

-- these are the octets of the body from an offset on
abbrev pub TellsOctets : HeldBodies → ℕ → ℕ → List ℕ → Type 0
TellsOctets held node at octets = held.told ≡ true → octets ≡ take (length octets) (drop at (held.files node).body)

abbrev pub TellsAttribute : HeldBodies → ℕ → Option (List ℕ) → Type 0
TellsAttribute held node attribute = held.told ≡ true → attribute ≡ (held.files node).attribute

-- the rooms are at least so large
abbrev pub HasRooms : HeldBodies → ℕ → ℕ → ℕ → Type 0
HasRooms held node body attribute = (body ≤ held.body_room node) × (attribute ≤ held.attribute_room node)

-- ---- how a body changes

-- Octets stand at an offset, and the old ones elsewhere. Between the old end and the offset stand any octets.
pub record Writes (at : ℕ) (octets old new : List ℕ) : Type 0 where
  pub length_is : length new ≡ max (length old) (at + length octets)
  pub before : take (min at (length old)) new ≡ take at old
  pub here : take (length octets) (drop at new) ≡ octets
  pub behind : drop (at + length octets) new ≡ drop (at + length octets) old

-- A write of so many octets that failed: any octets in its range, and some length between the old one and that of the write.
pub record Tears (at count : ℕ) (old new : List ℕ) : Type 0 where
  pub no_shorter : length old ≤ length new
  pub no_longer : length new ≤ max (length old) (at + count)
  pub before : take (min at (length old)) new ≡ take at old
  pub behind : drop (at + count) new ≡ drop (at + count) old

-- A new length. The octets below both lengths stay, new ones are any.
pub record Resizes (len : ℕ) (old new : List ℕ) : Type 0 where
  pub length_is : length new ≡ len
  pub front : take (min len (length old)) new ≡ take len old

-- one that failed: the old length or the new one
abbrev pub HalfResizes : ℕ → List ℕ → List ℕ → Type 0
HalfResizes len old new = Resizes len old new ⊎ Resizes (length old) old new

-- ---- how a node's file changes

-- its body so, its attribute not at all
abbrev pub ChangesBody : (List ℕ → List ℕ → Type 0) → ℕ → HeldBodies → HeldBodies → Type 0
ChangesBody Change node old new = old.told ≡ true
    → Change (old.files node).body (new.files node).body × ((new.files node).attribute ≡ (old.files node).attribute)

abbrev pub KeepsBody : ℕ → HeldBodies → HeldBodies → Type 0
KeepsBody node old new = old.told ≡ true → (new.files node).body ≡ (old.files node).body

abbrev pub HasAttribute : ℕ → List ℕ → HeldBodies → Type 0
HasAttribute node octets held = held.told ≡ true → (held.files node).attribute ≡ Some octets
