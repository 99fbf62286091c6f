-- The plain tree that lower names show under a form of names.
use Rattle.std.specs.Prelude.{ℕ, zero, suc, ◌+◌, ◌==◌, Bool, not, false, List, [], ◌∷◌, ◌++◌, length, Option, Some, None, if◌then◌else◌}
use Rattle.std.specs.List.{list_any}
use Rattle.std.specs.Option.{option_map_or}
use Rattle.lower_model.specs.declared.kind.Kind.{Kind}
use Rattle.lower_model.specs.declared.kind.Kind.TheVariants as kinds
use Rattle.lower_model.specs.declared.node.LowerNode.{LowerNode}
use Rattle.tree_model.specs.declared.place.Directory.{Directory}
use Rattle.tree_model.specs.declared.place.Place.{Place}
use Rattle.tree_model.specs.declared.place.Place.TheVariants.{Dir, File, Nothing}
use Rattle.tree_model.specs.Names.{put_entry}
use Rattle.tree_model.specs.PlainTree.{PlainTree, empty_directory}
use Rattle.names_model.specs.declared.entry.Linked.{Linked}
use Rattle.names_model.specs.Store.{Entries, Store, store_of}
use Rattle.names_model.specs.NameForm.{NameForm, is_upper, blocked_by}

-- ---- a directory

-- whether none of these lower names stands for an upper name
abbrev pub is_first : NameForm → Entries → List ℕ → Bool
is_first form before name = not (list_any (λ (e : List ℕ × Linked). is_upper name (form.upper e.0)) before)

abbrev pub with_shown : List ℕ → ℕ → Directory → Directory
with_shown name node d = record d { shown = put_entry d.shown name node }

abbrev pub with_foreign : NameForm → List ℕ → ℕ → Directory → Directory
with_foreign form lower node d = record d { foreign = record { lower = lower; node = node; blocks = blocked_by form (form.upper lower) lower } ∷ d.foreign }

-- Of the lower names of an upper name the first in octet order is shown. The others are foreign, and so are those that stand for no upper name.
abbrev pub with_entry : NameForm → Entries → List ℕ → ℕ → Option (List ℕ) → Directory → Directory
with_entry form before lower node (Some name) d = if is_first form before name then with_shown name node d else with_foreign form lower node d
with_entry form before lower node None d = with_foreign form lower node d

abbrev pub directory_behind : NameForm → Entries → Entries → Directory
directory_behind form before [] = empty_directory
directory_behind form before (e ∷ es) = with_entry form before e.0 e.1.node (form.upper e.0) (directory_behind form (before ++ e ∷ []) es)

-- the directory that these lower entries show
abbrev pub directory_of : NameForm → Entries → Directory
directory_of form entries = directory_behind form [] entries

-- ---- the tree, node by node: the number of an entry is greater than that of its directory

-- the kind of the node with this number, if this place shows it
abbrev pub kind_in : ℕ → Entries → Option Kind
kind_in number [] = None
kind_in number (e ∷ es) = if e.1.node == number then Some e.1.kind else kind_in number es

abbrev pub entries_in : Option Entries → Entries
entries_in (Some entries) = entries
entries_in None = []

abbrev pub shows : ℕ → Place → Bool
shows number (Dir d) = list_any (λ (e : List ℕ × ℕ). e.1 == number) d.shown
shows number File = false
shows number Nothing = false

-- by the places before it, the first of which has this number
abbrev pub kind_shown : Store → ℕ → ℕ → List Place → Option Kind
kind_shown store number at [] = None
kind_shown store number at (place ∷ places) = if shows number place then kind_in number (entries_in (store at)) else kind_shown store number (at + 1) places

abbrev pub place_of : NameForm → Store → ℕ → Kind → Place
place_of form store number kinds.Dir = Dir (directory_of form (entries_in (store number)))
place_of form store number kinds.File = File

-- What stands at a number: nothing, where no directory before it shows it. So what lies below a foreign entry isn't in the tree.
abbrev pub next_place : NameForm → Store → ℕ → List Place → Place
next_place form store zero before = place_of form store 0 kinds.Dir
next_place form store (suc n) before = option_map_or (place_of form store (suc n)) (kind_shown store (suc n) 0 before) Nothing

abbrev pub shown_places : NameForm → Store → ℕ → List Place
shown_places form store zero = []
shown_places form store (suc n) = let before = shown_places form store n in before ++ next_place form store n before ∷ []

-- the plain tree of a store with so many nodes, the root included; the next number is theirs
abbrev pub shown : NameForm → ℕ → Store → PlainTree
shown form count store = record { limit = form.longest; places = shown_places form store count }

-- the plain tree that a lower tree shows
abbrev pub shown_of : NameForm → List LowerNode → PlainTree
shown_of form nodes = shown form (length nodes) (store_of nodes)
