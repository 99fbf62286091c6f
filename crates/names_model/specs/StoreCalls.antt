-- What calls on lower names change, and when they may be made.
use Rattle.std.specs.Prelude.{ℕ, ◌≡◌, ◌≢◌, ◌==◌, ◌<◌, List, [], Option, Some, None, Bool, IsTrue, false, if◌then◌else◌}
use Rattle.std.specs.Option.{option_map}
use Rattle.lower_model.specs.declared.kind.Kind.{Kind}
use Rattle.lower_model.specs.declared.kind.Kind.TheVariants.{Dir, File}
use Rattle.lower_model.specs.Name.{is_name}
use Rattle.names_model.specs.declared.entry.Linked.{Linked}
use Rattle.tree_model.specs.Names.{entry_at, put_entry, without, RisesBehind}
use Rattle.tree_model.specs.PlainTree.{most_nodes}
use Rattle.names_model.specs.Store.{Entries, Store, linked_at, entries_if}

-- no directory has this number, and no entry
pub record IsNew (store : Store) (node : ℕ) : Type 0 where
  pub no_dir : store node ≡ None
  pub no_entry : (k : ℕ) (name : List ℕ) (l : Linked) → linked_at (store k) name ≡ Some l → l.node ≢ node

-- ---- the changes

abbrev pub with_name : List ℕ → Option Linked → Option Entries → Option Entries
with_name name (Some l) entries = option_map (λ es. put_entry es name l) entries
with_name name None entries = entries

abbrev pub without_name : List ℕ → Option Entries → Option Entries
without_name name entries = option_map (without name) entries

abbrev pub is_node : ℕ → Option Linked → Bool
is_node k (Some l) = k == l.node
is_node k None = false

abbrev pub created : Store → ℕ → List ℕ → Linked → Store
created store dir name l k = if k == dir then with_name name (Some l) (store k) else if k == l.node then entries_if l.kind [] else store k

-- a directory that is removed is empty, and is one no more
abbrev pub removed : Store → ℕ → List ℕ → Store
removed store dir name k = if k == dir then without_name name (store k) else if is_node k (linked_at (store dir) name) then None else store k

abbrev pub taken_from : Store → ℕ → List ℕ → Store
taken_from store dir name k = if k == dir then without_name name (store k) else store k

abbrev pub put_into : Store → ℕ → List ℕ → Option Linked → Store
put_into store dir name l k = if k == dir then with_name name l (store k) else store k

-- what had the new name is gone, and the entry has the new place
abbrev pub cleared : Store → ℕ → List ℕ → Option Linked → Store
cleared store to new (Some other) = removed store to new
cleared store to new None = store

abbrev pub renamed : Store → ℕ → List ℕ → ℕ → List ℕ → Store
renamed store dir name to new = put_into (taken_from (cleared store to new (linked_at (store to) new)) dir name) to new (linked_at (store dir) name)

-- ---- the conditions

-- A directory that has no such name, a name, and a number that no node has.
pub record CanCreate (store : Store) (dir : ℕ) (name : List ℕ) (node : ℕ) : Type 0 where
  pub entries : Entries
  pub is_dir : store dir ≡ Some entries
  pub absent : entry_at name entries ≡ None
  pub lawful : IsTrue (is_name name)
  pub new : IsNew store node
  pub few : node < most_nodes

-- a file, or a directory with no entries
abbrev pub IsBare : Store → Linked → Type 0
IsBare store l = (l.kind ≡ Dir) → store l.node ≡ Some []

-- An entry that is a file or an empty directory.
pub record CanRemove (store : Store) (dir : ℕ) (name : List ℕ) : Type 0 where
  pub entries : Entries
  pub linked : Linked
  pub is_dir : store dir ≡ Some entries
  pub there : entry_at name entries ≡ Some linked
  pub bare : IsBare store linked

-- a node and what is below it
pub data IsAtOrBelow (store : Store) (top : ℕ) : ℕ → Type 0 where
  at : IsAtOrBelow store top top
  below : {k : ℕ} → IsAtOrBelow store top k → (name : List ℕ) (l : Linked) → linked_at (store k) name ≡ Some l → IsAtOrBelow store top l.node

-- what a rename may replace: nothing, or another entry of the same kind, a directory with no entries
abbrev pub CanReplace : Store → Linked → Option Linked → Type 0
CanReplace store l None = Unit {0}
CanReplace store l (Some other) = (other.node ≢ l.node) × (other.kind ≡ l.kind) × IsBare store other

-- An entry, and a directory that isn't below it, where the new name may be had.
pub record CanRename (store : Store) (dir : ℕ) (name : List ℕ) (to : ℕ) (new : List ℕ) : Type 0 where
  pub entries : Entries
  pub linked : Linked
  pub goes_into : Entries
  pub is_dir : store dir ≡ Some entries
  pub there : entry_at name entries ≡ Some linked
  pub to_dir : store to ≡ Some goes_into
  pub lawful : IsTrue (is_name new)
  pub not_inside : IsAtOrBelow store linked.node to → ⊥
  pub replaces : CanReplace store linked (entry_at new goes_into)

-- ---- what of a store is a tree

-- whether this is a directory's entries
abbrev pub IsKind : Kind → Option Entries → Type 0
IsKind Dir (Some entries) = Unit {0}
IsKind Dir None = ⊥
IsKind File (Some entries) = ⊥
IsKind File None = Unit {0}

-- The root is a directory, and no entry leads to it. Names rise in octet order. Each entry leads to a node of its kind, and no two to one node. The numbers of nodes are below their most.
-- So what paths from the root lead to is a tree; directories that no path leads to may lie in one another.
pub record IsStoreTree (store : Store) : Type 0 where
  pub root : IsKind Dir (store 0)
  pub rising : (k : ℕ) (entries : Entries) → store k ≡ Some entries → RisesBehind [] entries
  pub no_root : (k : ℕ) (name : List ℕ) (l : Linked) → linked_at (store k) name ≡ Some l → l.node ≢ 0
  pub kinds : (k : ℕ) (name : List ℕ) (l : Linked) → linked_at (store k) name ≡ Some l → IsKind l.kind (store l.node)
  pub once : (j k : ℕ) (a b : List ℕ) (l m : Linked) → linked_at (store j) a ≡ Some l → linked_at (store k) b ≡ Some m → l.node ≡ m.node → (j ≡ k) × (a ≡ b)
  pub few : (k : ℕ) (name : List ℕ) (l : Linked) → linked_at (store k) name ≡ Some l → l.node < most_nodes
