-- What ties a plain tree, and the lower names that are kept for its nodes, to a store.
use Rattle.std.specs.Prelude.{ℕ, ◌≡◌, ◌≢◌, ◌<◌, ◌≤◌, ◌+◌, ◌==◌, ◌&&◌, ◌⊎◌, Bool, true, false, cond, List, [], ◌∷◌, length, get_or, Option, Some, None, IsTrue, slice_get, is_some}
use Rattle.lower_model.specs.declared.kind.Kind.{Kind}
use Rattle.lower_model.specs.declared.kind.Kind.TheVariants as kinds
use Rattle.lower_model.specs.Name.{is_name}
use Rattle.names_model.specs.declared.entry.Linked.{Linked}
use Rattle.names_model.specs.Store.{Store, Entries, linked_at}
use Rattle.names_model.specs.LowerPaths.{found}
use Rattle.names_model.specs.NameForm.{NameForm, IsWritten}
use Rattle.names_model.specs.CarriedBy.{Among}
use Rattle.tree_model.specs.declared.place.ForeignEntry.{ForeignEntry}
use Rattle.tree_model.specs.declared.place.Place.{Place}
use Rattle.tree_model.specs.Names.{is_named, RisesBehind}
use Rattle.tree_model.specs.IsTree.{node_in}
use Rattle.tree_model.specs.PlainTree.{is_dir, is_this, directory_in}

-- What is written is read again, and names stand for names and are written as names.
pub record IsForm (form : NameForm) : Type 0 where
  pub reads_written : (name : List ℕ) → IsTrue (is_name name) → length name ≤ form.longest → form.upper (form.written name) ≡ Some name
  pub reads_names : (lower name : List ℕ) → IsTrue (is_name lower) → form.upper lower ≡ Some name → IsTrue (is_name name)
  pub writes_names : (name : List ℕ) → IsTrue (is_name name) → length name ≤ form.longest → IsTrue (is_name (form.written name))

-- the foreign entries of a place
abbrev pub foreign_at : Option Place → List ForeignEntry
foreign_at place = (directory_in place).foreign

abbrev pub kind_by : Bool → Kind
kind_by true = kinds.Dir
kind_by false = kinds.File

-- A tree, the lower name of each node, and a store, seen number by number and name by name.
pub record View : Type 0 where
  pub count : ℕ
  pub is_dir : ℕ → Bool
  pub shown : ℕ → List ℕ → Option ℕ
  pub foreign : ℕ → List ForeignEntry
  pub keeps : ℕ → List ℕ
  pub dir : ℕ → Bool
  pub low : ℕ → List ℕ → Option Linked

abbrev pub view_of : List Place → List (List ℕ) → Store → View
view_of places kept store = record {
  count = length places;
  is_dir = λ k. is_dir (slice_get places k);
  shown = λ k name. node_in (slice_get places k) name;
  foreign = λ k. foreign_at (slice_get places k);
  keeps = λ n. get_or kept n [];
  dir = λ k. is_some (store k);
  low = λ k name. linked_at (store k) name;
}

-- A lower name is that of an entry that is shown, or of a foreign one.
abbrev pub IsShownAs : View → ℕ → List ℕ → Linked → Type 0
IsShownAs v k lower l = (name : List ℕ) × (v.shown k name ≡ Some l.node) × (v.keeps l.node ≡ lower)

abbrev pub IsForeignAs : View → ℕ → List ℕ → Type 0
IsForeignAs v k lower = (f : ForeignEntry) × Among f (v.foreign k) × (f.lower ≡ lower)

-- In each directory of the tree the lower entries are those of its names, each under the lower name that is kept for its node, and its foreign entries, and no others.
-- No two lower entries lead to one node, and none to the root.
pub record IsCarried (form : NameForm) (v : View) : Type 0 where
  pub dirs : (k : ℕ) → v.is_dir k ≡ true → v.dir k ≡ true
  pub held : (k : ℕ) (x : List ℕ) (n : ℕ) → v.shown k x ≡ Some n → v.is_dir k ≡ true
  pub down : (k : ℕ) (x : List ℕ) (n : ℕ) → v.shown k x ≡ Some n → v.low k (v.keeps n) ≡ Some (record { kind = kind_by (v.is_dir n); node = n })
  pub reads : (k : ℕ) (x : List ℕ) (n : ℕ) → v.shown k x ≡ Some n → form.upper (v.keeps n) ≡ Some x
  pub up : (k : ℕ) (y : List ℕ) (l : Linked) → v.is_dir k ≡ true → v.low k y ≡ Some l → IsShownAs v k y l ⊎ IsForeignAs v k y
  pub foreign : (k : ℕ) (f : ForeignEntry) → Among f (v.foreign k) → (l : Linked) × (v.low k f.lower ≡ Some l) × (l.node ≡ f.node)
  pub apart : (k : ℕ) (x : List ℕ) (n : ℕ) (f : ForeignEntry) → v.shown k x ≡ Some n → Among f (v.foreign k) → f.lower ≢ v.keeps n
  pub once : (k j : ℕ) (x y : List ℕ) (n : ℕ) → v.shown k x ≡ Some n → v.shown j y ≡ Some n → (k ≡ j) × (x ≡ y)
  pub root : (k : ℕ) (x : List ℕ) (n : ℕ) → v.shown k x ≡ Some n → n ≢ 0
  pub within : (k : ℕ) (x : List ℕ) (n : ℕ) → v.shown k x ≡ Some n → n < v.count
  pub alike : (k : ℕ) (x : List ℕ) (n : ℕ) → v.shown k x ≡ Some n → v.dir n ≡ v.is_dir n
  pub low_within : (k : ℕ) (y : List ℕ) (l : Linked) → v.low k y ≡ Some l → l.node < v.count
  pub low_dir : (k : ℕ) → v.dir k ≡ true → k < v.count
  pub low_once : (k j : ℕ) (y z : List ℕ) (l m : Linked) → v.low k y ≡ Some l → v.low j z ≡ Some m → l.node ≡ m.node → (k ≡ j) × (y ≡ z)
  pub low_root : (k : ℕ) (y : List ℕ) (l : Linked) → v.low k y ≡ Some l → l.node ≢ 0
  pub low_held : (k : ℕ) (y : List ℕ) (l : Linked) → v.low k y ≡ Some l → v.dir k ≡ true
  pub low_kinds : (k : ℕ) (y : List ℕ) (l : Linked) → v.low k y ≡ Some l → l.kind ≡ kind_by (v.dir l.node)

-- A foreign entry blocks the name whose written name it is.
abbrev pub Blocks : NameForm → View → Type 0
Blocks form v = (k : ℕ) (f : ForeignEntry) (name : List ℕ) → Among f (v.foreign k) → IsTrue (is_name name) → length name ≤ form.longest → f.lower ≡ form.written name → is_this name f.blocks ≡ true

-- The names of each directory rise in octet order.
pub record IsRising (store : Store) : Type 0 where
  pub rising : (k : ℕ) (entries : Entries) → store k ≡ Some entries → RisesBehind [] entries

-- What holds of a tree, the lower name that is kept for each of its nodes, and the store that carries it.
pub record Keeps (form : NameForm) (places : List Place) (kept : List (List ℕ)) (store : Store) : Type 0 where
  pub carries : IsCarried form (view_of places kept store)
  pub blocks : Blocks form (view_of places kept store)
  pub size : length kept ≡ length places
  pub root : is_dir (slice_get places 0) ≡ true
  pub rises : IsRising store

-- ---- what stays of an opening

-- Each lower name is the one that is written for its name, or the one that the opening kept under that name in the same directory.
pub record AreNamed (form : NameForm) (opening : List Place) (first : List (List ℕ)) (places : List Place) (kept : List (List ℕ)) : Type 0 where
  pub named : (k : ℕ) (x : List ℕ) (n : ℕ) → node_in (slice_get places k) x ≡ Some n
      → IsWritten form x (get_or kept n []) ⊎ ((m : ℕ) × (node_in (slice_get opening k) x ≡ Some m) × (get_or first m [] ≡ get_or kept n []))

-- Each foreign entry of a directory of the tree, and what lies below it, is as it was in the opening.
pub record AreBelow (opening : Store) (places : List Place) (store : Store) : Type 0 where
  pub below : (k : ℕ) (f : ForeignEntry) → Among f (foreign_at (slice_get places k))
      → (path : List (List ℕ)) → found store (record { kind = kinds.Dir; node = k }) (f.lower ∷ path) ≡ found opening (record { kind = kinds.Dir; node = k }) (f.lower ∷ path)

-- Whatever the opening was: where these facts stood before a change, they stand behind it. Foreign entries stay where they are.
pub record Stays (form : NameForm) (places : List Place) (kept : List (List ℕ)) (store : Store) (ps : List Place) (ks : List (List ℕ)) (later : Store) : Type 0 where
  pub named : (opening : List Place) (first : List (List ℕ)) → AreNamed form opening first places kept → AreNamed form opening first ps ks
  pub below : (opening : Store) → AreBelow opening places store → AreBelow opening ps later
  pub foreign : (k : ℕ) → foreign_at (slice_get ps k) ≡ foreign_at (slice_get places k)

-- ---- the changes, number by number

-- whether a place is this one
abbrev pub at_name : ℕ → List ℕ → ℕ → List ℕ → Bool
at_name at name k x = (k == at) && is_named name x

-- an entry is gone, and nothing more
abbrev pub unlinked : View → ℕ → List ℕ → List ℕ → View
unlinked v at name lower = record v {
  shown = λ k x. cond (at_name at name k x) None (v.shown k x);
  low = λ k y. cond (at_name at lower k y) None (v.low k y);
}

-- a node that no entry has gets an entry
abbrev pub linked : View → ℕ → List ℕ → ℕ → List ℕ → View
linked v at name n lower = record v {
  shown = λ k x. cond (at_name at name k x) (Some n) (v.shown k x);
  low = λ k y. cond (at_name at lower k y) (Some (record { kind = kind_by (v.is_dir n); node = n })) (v.low k y);
  keeps = λ m. cond (m == n) lower (v.keeps m);
}

-- a node that no entry has is gone
abbrev pub ended : View → ℕ → View
ended v n = record v {
  is_dir = λ k. cond (k == n) false (v.is_dir k);
  dir = λ k. cond (k == n) false (v.dir k);
}

-- a node begins
abbrev pub begun : View → Bool → View
begun v is = record v {
  count = v.count + 1;
  is_dir = λ k. cond (k == v.count) is (v.is_dir k);
  dir = λ k. cond (k == v.count) is (v.dir k);
}
