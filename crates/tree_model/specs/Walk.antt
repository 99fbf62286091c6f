-- What stands at the numbers of a plain tree, and which node a path leads to.
use Rattle.std.specs.Prelude.{ℕ, ◌-◌, List, [], ◌∷◌, length, take, Option, Some, None, Result, Ok, Err, Bool, true, false, slice_get, ◌||◌, ◌==◌}
use Rattle.lower_model.specs.declared.kind.Kind.{Kind}
use Rattle.lower_model.specs.declared.kind.Kind.TheVariants as kinds
use Rattle.tree_model.specs.declared.call.TreeRefusal.{TreeRefusal}
use Rattle.tree_model.specs.declared.call.TreeRefusal.TheVariants.{NotFound, NotDir}
use Rattle.tree_model.specs.declared.place.Directory.{Directory}
use Rattle.tree_model.specs.declared.place.Place.{Place}
use Rattle.tree_model.specs.declared.place.Place.TheVariants.{Dir, File, Nothing}
use Rattle.tree_model.specs.Names.{node_of}

-- The tests of a call, one behind another: the first refusal is the answer.
infixl 10 ◌>>=◌
abbrev pub ◌>>=◌ : {A B : Type 0} → Result A TreeRefusal → (A → Result B TreeRefusal) → Result B TreeRefusal
(Ok x) >>= f = f x
(Err e) >>= f = Err e

abbrev pub unless : Bool → TreeRefusal → Result (Unit {0}) TreeRefusal
unless true refusal = Err refusal
unless false refusal = Ok tt

-- the directory at a place
abbrev pub dir_of : Option Place → Result Directory TreeRefusal
dir_of (Some (Dir d)) = Ok d
dir_of (Some File) = Err NotDir
dir_of (Some Nothing) = Err NotFound
dir_of None = Err NotFound

abbrev pub found : Option ℕ → Result ℕ TreeRefusal
found (Some n) = Ok n
found None = Err NotFound

-- what has a name, which is looked up only in a directory
abbrev pub target_in : Option Place → List ℕ → Result (Option ℕ) TreeRefusal
target_in place name = dir_of place >>= λ d. Ok (node_of name d.shown)

-- the node of a name that is there
abbrev pub entry_of : Option Place → List ℕ → Result ℕ TreeRefusal
entry_of place name = target_in place name >>= found

-- the node that these names lead to, from a node on
abbrev pub walk : List Place → ℕ → List (List ℕ) → Result ℕ TreeRefusal
walk places at [] = Ok at
walk places at (name ∷ names) = entry_of (slice_get places at) name >>= λ n. walk places n names

-- whether a walk comes by a node, its end included
abbrev pub holds_then : (ℕ → Bool) → Result ℕ TreeRefusal → Bool
holds_then test (Ok n) = test n
holds_then test (Err e) = false

abbrev pub comes_by : List Place → ℕ → ℕ → List (List ℕ) → Bool
comes_by places node at [] = at == node
comes_by places node at (name ∷ names) = (at == node) || holds_then (λ n. comes_by places node n names) (entry_of (slice_get places at) name)

-- all names but the last, and the last, where there is one
abbrev pub front : List (List ℕ) → List (List ℕ)
front names = take (length names - 1) names

abbrev pub last : List (List ℕ) → Option (List ℕ)
last names = slice_get names (length names - 1)

abbrev pub kind_of : Option Place → Option Kind
kind_of (Some (Dir d)) = Some kinds.Dir
kind_of (Some File) = Some kinds.File
kind_of (Some Nothing) = None
kind_of None = None
