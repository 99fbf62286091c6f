-- How a call is prepared, and what a change wants of the tree and of spare room.
use Rattle.std.specs.Prelude.{ℕ, ◌≡◌, ◌<◌, ◌≤◌, true, false, List, length, Option, Some, None, Ok, slice_get, IsTrue}
use Rattle.lower_model.specs.Name.{is_name}
use Rattle.tree_model.specs.declared.call.TreeReply.TheVariants as replies
use Rattle.tree_model.specs.declared.change.Making.{Making}
use Rattle.tree_model.specs.declared.change.Removal.{Removal}
use Rattle.tree_model.specs.declared.change.Moving.{Moving}
use Rattle.tree_model.specs.declared.change.Change.{Change}
use Rattle.tree_model.specs.declared.change.Change.TheVariants.{Make, Remove, Move}
use Rattle.tree_model.specs.declared.change.Prepared.{Prepared}
use Rattle.tree_model.specs.declared.change.Prepared.TheVariants as prepared
use Rattle.tree_model.specs.declared.place.Place.{Place}
use Rattle.tree_model.specs.Walk.{walk, comes_by}
use Rattle.tree_model.specs.IsTree.{IsDirectory, node_in}
use Rattle.tree_model.specs.PlainTree.{PlainTree, Tested, most_nodes, is_dir, is_bare, is_blocked_at, shown_in, taken_out, cleared, or_refused}

-- what memory may be wanted for: a change, whose names are copied, and an answer with names
abbrev pub TakesMemory : Prepared → Type 0
TakesMemory (prepared.Change change) = Unit {0}
TakesMemory (prepared.Answer (replies.Names names)) = Unit {0}
TakesMemory (prepared.Answer reply) = ⊥

-- what the call comes to, or want of memory where it takes memory
abbrev pub PreparesFor : Prepared → Prepared → Type 0
PreparesFor (prepared.Answer replies.Memory) p = TakesMemory p
PreparesFor result p = result ≡ p

-- the answer of the tests, or want of memory where what they come to takes memory
abbrev pub TestsFor : Tested → Tested → Type 0
TestsFor (Ok (prepared.Answer replies.Memory)) tested = TakesMemory (or_refused tested)
TestsFor result tested = result ≡ tested

-- ---- a change that the tree may make

pub record CanMake (t : PlainTree) (m : Making) : Type 0 where
  pub directory : IsDirectory (slice_get t.places m.dir)
  pub absent : node_in (slice_get t.places m.dir) m.name ≡ None
  pub unblocked : is_blocked_at (slice_get t.places m.dir) m.name ≡ false
  pub few : length t.places < most_nodes
  pub fits : length m.name ≤ t.limit

pub record CanRemove (t : PlainTree) (r : Removal) : Type 0 where
  pub there : node_in (slice_get t.places r.dir) r.name ≡ Some r.node
  pub bare : is_bare (slice_get t.places r.node) ≡ true

-- what goes where an entry comes is another one of its kind, and bare
pub record CanReplace (t : PlainTree) (node target : ℕ) : Type 0 where
  pub other : target ≡ node → ⊥
  pub alike : is_dir (slice_get t.places target) ≡ is_dir (slice_get t.places node)
  pub bare : is_bare (slice_get t.places target) ≡ true

abbrev pub Replaces : PlainTree → ℕ → ℕ → List ℕ → Option ℕ → Type 0
Replaces t node to name (Some target) = CanReplace t node target
Replaces t node to name None = is_blocked_at (slice_get t.places to) name ≡ false

pub record CanMove (t : PlainTree) (m : Moving) : Type 0 where
  pub there : node_in (slice_get t.places m.from) m.was ≡ Some m.node
  pub directory : IsDirectory (slice_get t.places m.to)
  pub target : node_in (slice_get t.places m.to) m.name ≡ m.target
  pub replaces : Replaces t m.node m.to m.name m.target
  pub path : List (List ℕ)
  pub reached : walk t.places 0 path ≡ Ok m.to
  pub outside : is_dir (slice_get t.places m.node) ≡ true → comes_by t.places m.node 0 path ≡ false
  pub fits : length m.name ≤ t.limit

abbrev pub CanChange : PlainTree → Change → Type 0
CanChange t (Make m) = CanMake t m
CanChange t (Remove r) = CanRemove t r
CanChange t (Move m) = CanMove t m

-- ---- room for a change: the names of the directory that gets one, and one more

abbrev pub HasRoom : List Place → Change → ℕ → Type 0
HasRoom places (Make m) room = length (shown_in (slice_get places m.dir)) < room
HasRoom places (Remove r) room = Unit {0}
HasRoom places (Move m) room = length (shown_in (slice_get places m.to)) < room

abbrev pub IfChange : Prepared → (Change → Type 0) → Type 0
IfChange (prepared.Answer reply) test = Unit {0}
IfChange (prepared.Change change) test = test change

-- ---- the places alone

-- what a change of the places wants, so that each of its steps may be made
abbrev pub MayClear : List Place → ℕ → Option ℕ → Type 0
MayClear places at (Some node) = IsDirectory (slice_get places at) × (node < length places)
MayClear places at None = Unit {0}

pub record MayMove (places : List Place) (m : Moving) : Type 0 where
  pub clears : MayClear places m.to m.target
  pub from : IsDirectory (slice_get (cleared places m.to m.name m.target) m.from)
  pub to : IsDirectory (slice_get (taken_out (cleared places m.to m.name m.target) m.from m.was) m.to)
  pub shorter : length (shown_in (slice_get (taken_out (cleared places m.to m.name m.target) m.from m.was) m.to)) ≤ length (shown_in (slice_get places m.to))

abbrev pub MayChange : List Place → Change → Type 0
MayChange places (Make m) = IsDirectory (slice_get places m.dir) × (length places < most_nodes)
MayChange places (Remove r) = IsDirectory (slice_get places r.dir) × (r.node < length places)
MayChange places (Move m) = MayMove places m

abbrev pub IsLawful : Change → Type 0
IsLawful (Make m) = IsTrue (is_name m.name)
IsLawful (Remove r) = Unit {0}
IsLawful (Move m) = IsTrue (is_name m.name)
