-- Stores that hold a lower tree, and how far they are opened.
use Rattle.std.specs.Prelude.{ℕ, ◌≡◌, ◌<◌, ◌≤◌, ◌-◌, ◌&&◌, nat_lt, List, length, get_or, [], Option, Some, None, slice_get, if◌then◌else◌}
use Rattle.lower_model.specs.declared.kind.Kind.TheVariants as kinds
use Rattle.lower_model.specs.declared.node.LowerNode.{LowerNode}
use Rattle.names_model.specs.declared.entry.LowerName.{LowerName}
use Rattle.names_model.specs.declared.entry.Linked.{Linked}
use Rattle.names_model.specs.Store.{Store, IsStoreOf}
use Rattle.names_model.specs.NameForm.{NameForm}
use Rattle.names_model.specs.ShownBy.{shown_of}
use Rattle.tree_model.specs.IsTree.{IsNode}
use Rattle.tree_model.specs.PlainTree.{PlainTree, most_nodes}
use Rattle.opening_model.specs.InTurn.{Opened}
use Rattle.opening_model.specs.Stage.{IsStage}

-- So many directories are listed, of whichever nodes the store is.
pub record IsOpenedTo (form : NameForm) (store : Store) (k : ℕ) (o : Opened) : Type 0 where
  pub stage : (nodes : List LowerNode) → IsStoreOf nodes store → IsStage form nodes k o

-- All nodes behind this directory are in it or below it, of whichever nodes the store is.
pub record EndsBelow (store : Store) (last : ℕ) : Type 0 where
  pub directory : (nodes : List LowerNode) → IsStoreOf nodes store → (x : LowerNode) × (slice_get nodes last ≡ Some x) × (x.kind ≡ kinds.Dir)
  pub below : (nodes : List LowerNode) → IsStoreOf nodes store → (c : ℕ) (y : LowerNode) → last < c → slice_get nodes c ≡ Some y → last ≤ y.parent

-- There are so many nodes, whichever they are.
pub record CountsNodes (store : Store) (count : ℕ) : Type 0 where
  pub counts : (nodes : List LowerNode) → IsStoreOf nodes store → count ≡ length nodes

-- The tree is what the nodes show, and the lower name of each node that is shown is its own.
pub record ShowsTree (form : NameForm) (store : Store) (t : PlainTree) (kept : List (List ℕ)) : Type 0 where
  pub tree : (nodes : List LowerNode) → IsStoreOf nodes store → t ≡ shown_of form nodes
  pub names : (nodes : List LowerNode) → IsStoreOf nodes store → (i : ℕ) (x : LowerNode) → 1 ≤ i → IsNode (slice_get t.places i) → slice_get nodes i ≡ Some x → get_or kept i [] ≡ x.name

-- an entry as it is listed
abbrev pub linked_of : LowerName → Linked
linked_of e = record { kind = e.kind; node = e.node }

abbrev pub told : LowerName → List ℕ × Linked
told e = (e.name, linked_of e)

-- what the last of the entries of a directory leads to: a node behind that directory, below the most that there may be
abbrev pub next_in : ℕ → Option LowerName → Option Linked
next_in last None = None
next_in last (Some e) = if nat_lt last e.node && nat_lt e.node most_nodes then Some (linked_of e) else None

abbrev pub next_node : ℕ → List LowerName → Option Linked
next_node last listed = next_in last (slice_get listed (length listed - 1))
