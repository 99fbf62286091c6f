-- Which lower trees carry a plain tree under a form of names, and what else they keep. A lower tree is seen by its paths.
use Rattle.std.specs.Prelude.{ℕ, ◌≡◌, ◌≢◌, ◌⊎◌, List, [], ◌∷◌, ◌++◌, Option, Some, Ok, slice_get, IsSome}
use Rattle.std.specs.Option.{option_map, option_map_or}
use Rattle.lower_model.specs.declared.node.LowerNode.{LowerNode}
use Rattle.lower_model.specs.LowerTree.{IsLowerTree}
use Rattle.body_model.specs.LowerFile.{LowerFile}
use Rattle.tree_model.specs.declared.place.ForeignEntry.{ForeignEntry}
use Rattle.tree_model.specs.declared.place.Directory.{Directory}
use Rattle.tree_model.specs.declared.place.Place.{Place}
use Rattle.tree_model.specs.declared.place.Place.TheVariants.{Dir, File}
use Rattle.tree_model.specs.Names.{node_of}
use Rattle.tree_model.specs.Walk.{walk, kind_of}
use Rattle.tree_model.specs.PlainTree.{PlainTree}
use Rattle.tree_model.specs.IsTree.{node_in}
use Rattle.names_model.specs.NameForm.{NameForm, IsWritten}
use Rattle.names_model.specs.LowerPaths.{LowerPaths, kind_of_thing, tree_paths, paths_below}
use Rattle.names_model.specs.LowerPaths.LowerThing.{Holds}
use Rattle.names_model.specs.ShownBy.{shown_of}

abbrev pub Among : {A : Type 0} → A → List A → Type 0
Among x [] = ⊥
Among x (y ∷ ys) = (x ≡ y) ⊎ Among x ys

-- The lower path of a path: the lower names of the nodes on it, each of which has one.
abbrev pub lower_path : (ℕ → List ℕ) → List Place → ℕ → List (List ℕ) → List (List ℕ)
lower_path names places at [] = []
lower_path names places at (name ∷ path) = option_map_or (λ n. names n ∷ lower_path names places n path) (node_in (slice_get places at) name) []

-- ---- a lower tree that carries a plain tree

-- The lower names of a directory are those of its entries, each of which stands for its upper name, those of its foreign entries, and no others.
pub record CarriesDirectory (form : NameForm) (names : ℕ → List ℕ) (lower : LowerPaths) (path : List (List ℕ)) (d : Directory) : Type 0 where
  pub stands : (name : List ℕ) (n : ℕ) → node_of name d.shown ≡ Some n → form.upper (names n) ≡ Some name
  pub foreign : (f : ForeignEntry) → Among f d.foreign → IsSome (lower (path ++ f.lower ∷ []))
  pub apart : (name : List ℕ) (n : ℕ) (f : ForeignEntry) → node_of name d.shown ≡ Some n → Among f d.foreign → f.lower ≢ names n
  pub no_other : (y : List ℕ) → IsSome (lower (path ++ y ∷ []))
      → ((name : List ℕ) × (n : ℕ) × (node_of name d.shown ≡ Some n) × (names n ≡ y)) ⊎ ((f : ForeignEntry) × Among f d.foreign × (f.lower ≡ y))

-- The lower tree carries the plain tree, each of whose nodes has one of these lower names: what a path leads to has the kind of what its lower path leads to.
pub record Carries (form : NameForm) (t : PlainTree) (names : ℕ → List ℕ) (lower : LowerPaths) : Type 0 where
  pub kinds : (path : List (List ℕ)) (n : ℕ) → walk t.places 0 path ≡ Ok n → option_map kind_of_thing (lower (lower_path names t.places 0 path)) ≡ kind_of (slice_get t.places n)
  pub directories : (path : List (List ℕ)) (k : ℕ) (d : Directory) → walk t.places 0 path ≡ Ok k → slice_get t.places k ≡ Some (Dir d)
      → CarriesDirectory form names lower (lower_path names t.places 0 path) d

-- ---- what is left of a lower tree before, whose nodes have the numbers of the plain tree's

-- Each file of the plain tree holds what may be left at its node. Below each foreign entry all is as it was.
pub record LeavesFiles (MayHold : ℕ → LowerFile → Type 0) (t : PlainTree) (names : ℕ → List ℕ) (before : List LowerNode) (lower : LowerPaths) : Type 0 where
  pub files : (path : List (List ℕ)) (n : ℕ) → walk t.places 0 path ≡ Ok n → slice_get t.places n ≡ Some File
      → (file : LowerFile) × (lower (lower_path names t.places 0 path) ≡ Some (Holds file)) × MayHold n file
  pub foreign : (path : List (List ℕ)) (k : ℕ) (d : Directory) (f : ForeignEntry) → walk t.places 0 path ≡ Ok k → slice_get t.places k ≡ Some (Dir d) → Among f d.foreign
      → (below : List (List ℕ)) → lower (lower_path names t.places 0 path ++ f.lower ∷ below) ≡ paths_below before f.node below

-- the lower name of a node
abbrev pub name_in : Option LowerNode → Option (List ℕ)
name_in place = option_map (λ (node : LowerNode). node.name) place

-- The lower name of each entry is the written one of its upper name, or that under which the lower tree before showed this upper name in the same directory.
abbrev pub AreNames : NameForm → PlainTree → (ℕ → List ℕ) → List LowerNode → Type 0
AreNames form t names before =
    (path : List (List ℕ)) (k : ℕ) (d : Directory) (name : List ℕ) (n : ℕ) → walk t.places 0 path ≡ Ok k → slice_get t.places k ≡ Some (Dir d) → node_of name d.shown ≡ Some n
    → IsWritten form name (names n) ⊎ ((m : ℕ) × (node_in (slice_get (shown_of form before).places k) name ≡ Some m) × (name_in (slice_get before m) ≡ Some (names n)))

-- ---- what a run leaves of a lower tree, with this plain tree at its end, whose files may hold this

pub record Leaves (form : NameForm) (MayHold : ℕ → LowerFile → Type 0) (before : List LowerNode) (end : PlainTree) (after : List LowerNode) : Type 0 where
  pub lawful : IsLowerTree after
  -- the lower name of each node
  pub names : ℕ → List ℕ
  pub carried : Carries form end names (tree_paths after)
  pub files : LeavesFiles MayHold end names before (tree_paths after)
  pub named : AreNames form end names before
