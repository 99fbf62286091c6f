-- What a store of lower names holds: for each node that is a directory its entries, in octet order of their names.
use Rattle.std.specs.Prelude.{ℕ, ◌≡◌, ◌+◌, ◌==◌, List, [], ◌∷◌, drop, Option, Some, None, slice_get, if◌then◌else◌}
use Rattle.lower_model.specs.declared.kind.Kind.{Kind}
use Rattle.lower_model.specs.declared.kind.Kind.TheVariants.{Dir, File}
use Rattle.lower_model.specs.declared.node.LowerNode.{LowerNode}
use Rattle.lower_model.specs.LowerTree.{IsLowerTree}
use Rattle.tree_model.specs.Names.{entry_at}
use Rattle.names_model.specs.declared.entry.Linked.{Linked}
use Rattle.names_model.specs.declared.entry.LowerName.{LowerName}

abbrev pub Entries : Type 0
Entries = List (List ℕ × Linked)

-- the entries of the directory with a number, none where that is no directory
abbrev pub Store : Type 0
Store = ℕ → Option Entries

-- what a name has in a directory
abbrev pub linked_at : Option Entries → List ℕ → Option Linked
linked_at (Some entries) name = entry_at name entries
linked_at None name = None

-- an entry as data
abbrev pub lower_name : List ℕ × Linked → LowerName
lower_name e = record { name = e.0; kind = e.1.kind; node = e.1.node }

-- ---- the store of a lower tree

-- the nodes whose directory has this number, out of nodes that are numbered from here on
abbrev pub entries_from : ℕ → List LowerNode → ℕ → Entries
entries_from number [] directory = []
entries_from number (node ∷ nodes) directory =
    if node.parent == directory then (node.name, record { kind = node.kind; node = number }) ∷ entries_from (number + 1) nodes directory else entries_from (number + 1) nodes directory

-- a directory begins empty, and a file has no entries
abbrev pub entries_if : Kind → Entries → Option Entries
entries_if Dir entries = Some entries
entries_if File entries = None

abbrev pub entries_of : Option LowerNode → Entries → Option Entries
entries_of (Some node) entries = entries_if node.kind entries
entries_of None entries = None

-- what a lower tree holds; its root is no entry
abbrev pub store_of : List LowerNode → Store
store_of nodes number = entries_of (slice_get nodes number) (entries_from 1 (drop 1 nodes) number)

-- The store is that of these nodes, which are a lower tree.
pub record IsStoreOf (nodes : List LowerNode) (store : Store) : Type 0 where
  pub lawful : IsLowerTree nodes
  pub entries : (k : ℕ) → store k ≡ store_of nodes k

-- The store is that of a lower tree.
pub record HoldsTree (store : Store) : Type 0 where
  pub nodes : List LowerNode
  pub is : IsStoreOf nodes store
