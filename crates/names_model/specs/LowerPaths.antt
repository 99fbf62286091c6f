-- A lower tree by its paths of lower names: what each of them leads to.
use Rattle.std.specs.Prelude.{ℕ, List, [], ◌∷◌, Option, Some, None, slice_get}
use Rattle.std.specs.Option.{option_map, option_and_then}
use Rattle.lower_model.specs.declared.kind.Kind.{Kind}
use Rattle.lower_model.specs.declared.kind.Kind.TheVariants as kinds
use Rattle.lower_model.specs.declared.node.LowerNode.{LowerNode}
use Rattle.body_model.specs.LowerFile.{LowerFile, no_octets}
use Rattle.names_model.specs.declared.entry.Linked.{Linked}
use Rattle.names_model.specs.Store.{Store, linked_at, store_of}

-- a directory, or a file with its octets
pub data LowerThing : Type 0 where
  Directory : LowerThing
  Holds : LowerFile → LowerThing

abbrev pub kind_of_thing : LowerThing → Kind
kind_of_thing Directory = kinds.Dir
kind_of_thing (Holds file) = kinds.File

abbrev pub LowerPaths : Type 0
LowerPaths = List (List ℕ) → Option LowerThing

-- ---- of a store of names and the files of its nodes

abbrev pub root : Linked
root = record { kind = kinds.Dir; node = 0 }

-- what these names lead to, from an entry on
abbrev pub found : Store → Linked → List (List ℕ) → Option Linked
found store at [] = Some at
found store at (name ∷ names) = option_and_then (λ (l : Linked). found store l names) (linked_at (store at.node) name)

abbrev pub thing_of : Kind → LowerFile → LowerThing
thing_of kinds.Dir file = Directory
thing_of kinds.File file = Holds file

abbrev pub thing_at : (ℕ → LowerFile) → Linked → LowerThing
thing_at files l = thing_of l.kind (files l.node)

-- from an entry on, and from the root
abbrev pub paths_from : Store → (ℕ → LowerFile) → Linked → LowerPaths
paths_from store files at path = option_map (thing_at files) (found store at path)

abbrev pub paths_of : Store → (ℕ → LowerFile) → LowerPaths
paths_of store files = paths_from store files root

-- ---- of a lower tree

abbrev pub file_in : Option LowerNode → LowerFile
file_in (Some node) = record { attribute = node.attribute; body = node.body }
file_in None = no_octets

-- the file of each node; of a number that is none, no octets
abbrev pub files_of : List LowerNode → ℕ → LowerFile
files_of nodes number = file_in (slice_get nodes number)

abbrev pub tree_paths : List LowerNode → LowerPaths
tree_paths nodes = paths_of (store_of nodes) (files_of nodes)

-- from the entry on that leads to a node
abbrev pub entry_to : List LowerNode → ℕ → Option Linked
entry_to nodes number = option_map (λ (node : LowerNode). record { kind = node.kind; node = number }) (slice_get nodes number)

abbrev pub paths_below : List LowerNode → ℕ → LowerPaths
paths_below nodes number path = option_and_then (λ (l : Linked). paths_from (store_of nodes) (files_of nodes) l path) (entry_to nodes number)
