-- What lower parts hold, as far as they tell it.
use Rattle.std.specs.Prelude.{ℕ, ◌≡◌, ◌%◌, Bool, true, List, Option, Some, None, slice_get}
use Rattle.lower_model.specs.declared.node.LowerNode.{LowerNode}
use Rattle.lower_model.specs.LowerTree.{IsLowerTree}
use Rattle.names_model.specs.Store.{Store, store_of}
use Rattle.names_model.specs.LowerPaths.{LowerPaths, paths_of, files_of}
use Rattle.body_model.specs.LowerFile.{LowerFile, no_octets}
use Rattle.body_model.specs.Bodies.{HeldBodies}

-- A store of names: whether it tells what it holds, the entries of its directories, and how many of its calls failed.
pub record HeldNames : Type 0 where
  pub told : Bool
  pub entries : Store
  pub faults : ℕ

-- The parts of a mount: its names, and its stores of bodies, of which the file of a node stands in that with the remainder of its number by 8.
pub record HeldParts : Type 0 where
  pub names : HeldNames
  pub bodies : List HeldBodies

abbrev pub stores : ℕ
stores = 8

abbrev pub file_by : Option HeldBodies → ℕ → LowerFile
file_by (Some held) node = held.files node
file_by None node = no_octets

abbrev pub file_at : List HeldBodies → ℕ → LowerFile
file_at bodies node = file_by (slice_get bodies (node % stores)) node

abbrev pub TellsFiles : Option HeldBodies → Type 0
TellsFiles (Some held) = held.told ≡ true
TellsFiles None = ⊥

-- All parts tell what they hold.
pub record TellAll (parts : HeldParts) : Type 0 where
  pub names : parts.names.told ≡ true
  pub bodies : (k : ℕ) → TellsFiles (slice_get parts.bodies (k % stores))

-- the paths of what they hold
abbrev pub paths_held : HeldParts → LowerPaths
paths_held parts = paths_of parts.names.entries (file_at parts.bodies)

-- They hold a lower tree, node by node.
pub record HoldTree (parts : HeldParts) (nodes : List LowerNode) : Type 0 where
  pub lawful : IsLowerTree nodes
  pub entries : (k : ℕ) → parts.names.entries k ≡ store_of nodes k
  pub files : (k : ℕ) → file_at parts.bodies k ≡ files_of nodes k
