-- The plain tree, and its step.
use Rattle.std.specs.Prelude.{ℕ, ◌≡◌, Bool, true, false, not, ◌||◌, ◌&&◌, ◌==◌, List, [], ◌∷◌, ◌++◌, length, map, Option, Some, None, Result, Ok, Err, nat_lt, is_some, is_none, slice_get, slice_set, if◌then◌else◌}
use Rattle.std.specs.List.{list_any}
use Rattle.lower_model.specs.declared.kind.Kind.{Kind}
use Rattle.lower_model.specs.declared.kind.Kind.TheVariants as kinds
use Rattle.tree_model.specs.declared.call.TreeCall.{TreeCall}
use Rattle.tree_model.specs.declared.call.TreeCall.TheVariants as calls
use Rattle.tree_model.specs.declared.call.TreeReply.{TreeReply}
use Rattle.tree_model.specs.declared.call.TreeReply.TheVariants as replies
use Rattle.tree_model.specs.declared.call.TreeRefusal.{TreeRefusal}
use Rattle.tree_model.specs.declared.call.TreeRefusal.TheVariants.{NameLong, NotFound, NotDir, IsRoot, Exists, IsDir, Inside, NotEmpty, NoNodes}
use Rattle.tree_model.specs.declared.change.Moving.{Moving}
use Rattle.tree_model.specs.declared.change.Change.{Change}
use Rattle.tree_model.specs.declared.change.Change.TheVariants.{Make, Remove, Move}
use Rattle.tree_model.specs.declared.change.Prepared.{Prepared}
use Rattle.tree_model.specs.declared.change.Prepared.TheVariants as prepared
use Rattle.tree_model.specs.declared.place.ForeignEntry.{ForeignEntry}
use Rattle.tree_model.specs.declared.place.Directory.{Directory}
use Rattle.tree_model.specs.declared.place.Place.{Place}
use Rattle.tree_model.specs.declared.place.Place.TheVariants.{Dir, File, Nothing}
use Rattle.tree_model.specs.Names.{node_of, is_named, put_entry, without}
use Rattle.tree_model.specs.DirListing.{Shown}
use Rattle.tree_model.specs.Walk.{◌>>=◌, unless, dir_of, target_in, entry_of, walk, comes_by, front, last, kind_of}
use Rattle.tree_model.specs.declared.limits.TheConstants.{MOST_NODES}

-- A tree: how long a name may be, and what stands at each node number, the root at 0. The next new node gets the number behind the last place.
pub record PlainTree : Type 0 where
  pub limit : ℕ
  pub places : List Place

-- the most nodes that a tree may have, the root included
abbrev pub most_nodes : ℕ
most_nodes = MOST_NODES

-- ---- what stands at a number

abbrev pub is_dir : Option Place → Bool
is_dir (Some (Dir d)) = true
is_dir (Some File) = false
is_dir (Some Nothing) = false
is_dir None = false

abbrev pub is_file : Option Place → Bool
is_file (Some (Dir d)) = false
is_file (Some File) = true
is_file (Some Nothing) = false
is_file None = false

-- a file, where one is asked for
abbrev pub file_of : Option Place → Result (Unit {0}) TreeRefusal
file_of (Some (Dir d)) = Err IsDir
file_of (Some File) = Ok tt
file_of (Some Nothing) = Err NotFound
file_of None = Err NotFound

abbrev pub empty_directory : Directory
empty_directory = record { shown = []; foreign = [] }

-- the directory at a place; where none stands, one without entries
abbrev pub directory_in : Option Place → Directory
directory_in (Some (Dir d)) = d
directory_in (Some File) = empty_directory
directory_in (Some Nothing) = empty_directory
directory_in None = empty_directory

-- the entries that are shown at a place
abbrev pub shown_in : Option Place → List (List ℕ × ℕ)
shown_in place = (directory_in place).shown

abbrev pub is_empty : {A : Type 0} → List A → Bool
is_empty [] = true
is_empty (x ∷ xs) = false

-- neither entries nor foreign entries
abbrev pub has_nothing : Directory → Bool
has_nothing d = is_empty d.shown && is_empty d.foreign

-- no directory with entries or foreign entries
abbrev pub is_bare : Option Place → Bool
is_bare place = has_nothing (directory_in place)

-- what stands at the number of an entry, where there is one
abbrev pub place_there : List Place → Option ℕ → Option Place
place_there places (Some node) = slice_get places node
place_there places None = None

abbrev pub is_same : Option ℕ → ℕ → Bool
is_same (Some target) node = target == node
is_same None node = false

-- whether a foreign entry blocks a name
abbrev pub is_this : List ℕ → Option (List ℕ) → Bool
is_this name (Some blocked) = is_named name blocked
is_this name None = false

abbrev pub blocks_name : List ℕ → ForeignEntry → Bool
blocks_name name entry = is_this name entry.blocks

abbrev pub is_blocked : Directory → List ℕ → Bool
is_blocked d name = list_any (blocks_name name) d.foreign

abbrev pub is_blocked_at : Option Place → List ℕ → Bool
is_blocked_at place name = is_blocked (directory_in place) name

-- a directory takes no new entry under a name that it shows or that is blocked
abbrev pub is_taken : Directory → List ℕ → Bool
is_taken d name = is_some (node_of name d.shown) || is_blocked d name

-- ---- the changes

-- what stands at the number of a new node
abbrev pub begun : Kind → Place
begun kinds.Dir = Dir empty_directory
begun kinds.File = File

-- a place with an entry, and without one, if it is a directory
abbrev pub place_with : List ℕ → ℕ → Option Place → Place
place_with name node (Some (Dir d)) = Dir (record d { shown = put_entry d.shown name node })
place_with name node (Some File) = File
place_with name node (Some Nothing) = Nothing
place_with name node None = Nothing

abbrev pub place_without : List ℕ → Option Place → Place
place_without name (Some (Dir d)) = Dir (record d { shown = without name d.shown })
place_without name (Some File) = File
place_without name (Some Nothing) = Nothing
place_without name None = Nothing

-- the places with an entry in the directory at a number, and without one
abbrev pub placed : List Place → ℕ → List ℕ → ℕ → List Place
placed places at name node = slice_set places at (place_with name node (slice_get places at))

abbrev pub taken_out : List Place → ℕ → List ℕ → List Place
taken_out places at name = slice_set places at (place_without name (slice_get places at))

-- a new entry, whose node has the next number
abbrev pub added : List Place → ℕ → List ℕ → Place → List Place
added places at name place = placed places at name (length places) ++ place ∷ []

-- an entry is gone, and its node with it
abbrev pub removed : List Place → ℕ → List ℕ → ℕ → List Place
removed places at name node = slice_set (taken_out places at name) node Nothing

-- what has the new name is gone, and the entry has the new place
abbrev pub cleared : List Place → ℕ → List ℕ → Option ℕ → List Place
cleared places to name (Some target) = removed places to name target
cleared places to name None = places

abbrev pub moved : List Place → Moving → List Place
moved places m = placed (taken_out (cleared places m.to m.name m.target) m.from m.was) m.to m.name m.node

abbrev pub changed_places : List Place → Change → List Place
changed_places places (Make m) = added places m.dir m.name (begun m.kind)
changed_places places (Remove r) = removed places r.dir r.name r.node
changed_places places (Move m) = moved places m

abbrev pub changed : PlainTree → Change → PlainTree
changed t change = record t { places = changed_places t.places change }

-- ---- the calls: what each comes to, by the tests in their order

abbrev pub Tested : Type 0
Tested = Result Prepared TreeRefusal

abbrev pub answers : TreeReply → Tested
answers reply = Ok (prepared.Answer reply)

abbrev pub changes : Change → Tested
changes change = Ok (prepared.Change change)

-- a directory may get an entry of this name
abbrev pub allows : List Place → Directory → List ℕ → Result (Unit {0}) TreeRefusal
allows places d name = unless (is_taken d name) Exists >>= λ u. unless (not (nat_lt (length places) most_nodes)) NoNodes

-- the directory at a number, which may get an entry of this name
abbrev pub may_get : List Place → List ℕ → ℕ → Result ℕ TreeRefusal
may_get places name at = dir_of (slice_get places at) >>= λ d. allows places d name >>= λ u. Ok at

-- the directory that a new entry goes to
abbrev pub room_for : ℕ → List Place → List (List ℕ) → List ℕ → Result ℕ TreeRefusal
room_for limit places parents name = unless (nat_lt limit (length name)) NameLong >>= λ u. walk places 0 parents >>= may_get places name

-- Create and Mkdir
abbrev pub make : PlainTree → Kind → List (List ℕ) → Option (List ℕ) → Tested
make t kind parents None = Err IsRoot
make t kind parents (Some name) = room_for t.limit t.places parents name >>= λ at. changes (Make (record { dir = at; name = name; kind = kind }))

-- an entry that may go
abbrev pub goes : ℕ → List ℕ → ℕ → Tested
goes dir name node = changes (Remove (record { dir = dir; name = name; node = node }))

abbrev pub empty_at : List Place → ℕ → Result (Unit {0}) TreeRefusal
empty_at places node = dir_of (slice_get places node) >>= λ d. unless (not (has_nothing d)) NotEmpty

-- Rmdir and Unlink: the root is a directory, and isn't an entry
abbrev pub rmdir : List Place → List (List ℕ) → Option (List ℕ) → Tested
rmdir places parents None = Err IsRoot
rmdir places parents (Some name) = walk places 0 parents >>= λ dir. entry_of (slice_get places dir) name >>= λ node. empty_at places node >>= λ u. goes dir name node

abbrev pub unlink : List Place → List (List ℕ) → Option (List ℕ) → Tested
unlink places parents None = Err IsDir
unlink places parents (Some name) = walk places 0 parents >>= λ dir. entry_of (slice_get places dir) name >>= λ node. file_of (slice_get places node) >>= λ u. goes dir name node

-- Rename, in the order of its tests. A directory doesn't go onto a file;
abbrev pub fits_file : List Place → ℕ → Option ℕ → Result (Unit {0}) TreeRefusal
fits_file places node target = unless (is_dir (slice_get places node) && is_file (place_there places target)) NotDir

-- then, for an entry: no name is taken that is blocked, and a file doesn't go onto a directory;
abbrev pub fits_name : List Place → ℕ → List ℕ → ℕ → Option ℕ → Result (Unit {0}) TreeRefusal
fits_name places to name node target =
    unless (is_none target && is_blocked_at (slice_get places to) name) Exists >>= λ u. unless (is_file (slice_get places node) && is_dir (place_there places target)) IsDir

-- then, for a new place: a directory doesn't go below itself, and goes onto empty ones alone.
abbrev pub fits_place : List Place → ℕ → Bool → Option ℕ → Result (Unit {0}) TreeRefusal
fits_place places node below target =
    unless (is_dir (slice_get places node) && below) Inside >>= λ u. unless (not (is_bare (place_there places target))) NotEmpty

abbrev pub lands : List Place → List (List ℕ) → List ℕ → ℕ → List (List ℕ) → List ℕ → ℕ → Option ℕ → Tested
lands places above was node parents name to target =
    if is_same target node then answers replies.Done else
    (fits_place places node (comes_by places node 0 parents) target >>= λ u. walk places 0 above >>= λ from.
    changes (Move (record { from = from; was = was; node = node; to = to; name = name; target = target })))

abbrev pub leaves : List Place → List (List ℕ) → Option (List ℕ) → ℕ → List (List ℕ) → List ℕ → ℕ → Option ℕ → Tested
leaves places above None node parents name to target = Err IsRoot
leaves places above (Some was) node parents name to target = fits_name places to name node target >>= λ u. lands places above was node parents name to target

abbrev pub goes_to : List Place → List (List ℕ) → Option (List ℕ) → ℕ → List (List ℕ) → Option (List ℕ) → Tested
goes_to places above was node parents None = Err IsRoot
goes_to places above was node parents (Some name) =
    walk places 0 parents >>= λ to. target_in (slice_get places to) name >>= λ target.
    fits_file places node target >>= λ u. leaves places above was node parents name to target

abbrev pub is_long : ℕ → Option (List ℕ) → Bool
is_long limit (Some name) = nat_lt limit (length name)
is_long limit None = false

abbrev pub rename : PlainTree → List (List ℕ) → List (List ℕ) → Tested
rename t old new =
    unless (is_long t.limit (last new)) NameLong >>= λ u. walk t.places 0 old >>= λ node. goes_to t.places (front old) (last old) node (front new) (last new)

-- an entry as a list tells it
abbrev pub kind_or_file : Option Kind → Kind
kind_or_file (Some kind) = kind
kind_or_file None = kinds.File

abbrev pub shown_entry : List Place → List ℕ × ℕ → Shown
shown_entry places e = record { kind = kind_or_file (kind_of (slice_get places e.1)); name = e.0 }

abbrev pub names_in : List Place → List (List ℕ) → Tested
names_in places parts = walk places 0 parts >>= λ at. dir_of (slice_get places at) >>= λ d. answers (replies.Names (map (shown_entry places) d.shown))

abbrev pub resolve : List Place → List (List ℕ) → Tested
resolve places parts = walk places 0 parts >>= λ at. file_of (slice_get places at) >>= λ u. answers (replies.Node at)

abbrev pub stat : List Place → List (List ℕ) → Tested
stat places parts = walk places 0 parts >>= λ at. answers (replies.Info (kind_or_file (kind_of (slice_get places at))) at)

abbrev pub tested : PlainTree → TreeCall → Tested
tested t (calls.Resolve p) = resolve t.places p
tested t (calls.Create p) = make t kinds.File (front p) (last p)
tested t (calls.Mkdir p) = make t kinds.Dir (front p) (last p)
tested t (calls.Rmdir p) = rmdir t.places (front p) (last p)
tested t (calls.Unlink p) = unlink t.places (front p) (last p)
tested t (calls.Rename paths) = rename t paths.old paths.new
tested t (calls.List p) = names_in t.places p
tested t (calls.Stat p) = stat t.places p

-- what a call comes to: an answer that changes nothing, or a change
abbrev pub or_refused : Tested → Prepared
or_refused (Ok p) = p
or_refused (Err refusal) = prepared.Answer (replies.Refused refusal)

abbrev pub comes_to : PlainTree → TreeCall → Prepared
comes_to t call = or_refused (tested t call)

-- what a change answers: the node of a new file, else that it is done
abbrev pub made_reply : ℕ → Kind → TreeReply
made_reply next kinds.Dir = replies.Done
made_reply next kinds.File = replies.Node next

abbrev pub reply_of : PlainTree → Change → TreeReply
reply_of t (Make m) = made_reply (length t.places) m.kind
reply_of t (Remove r) = replies.Done
reply_of t (Move m) = replies.Done

-- A step: the reply, and the tree behind it.
pub record Stepped : Type 0 where
  pub reply : TreeReply
  pub tree : PlainTree

abbrev pub stepped : PlainTree → Prepared → Stepped
stepped t (prepared.Answer reply) = record { reply = reply; tree = t }
stepped t (prepared.Change change) = record { reply = reply_of t change; tree = changed t change }

abbrev pub step : PlainTree → TreeCall → Stepped
step t call = stepped t (comes_to t call)

-- a reply in whose place want of memory or a fault of the lower names may stand: any but a refusal
abbrev pub IsNoRefusal : TreeReply → Type 0
IsNoRefusal (replies.Node node) = Unit {0}
IsNoRefusal replies.Done = Unit {0}
IsNoRefusal (replies.Names names) = Unit {0}
IsNoRefusal (replies.Info kind node) = Unit {0}
IsNoRefusal (replies.Refused refusal) = ⊥
IsNoRefusal replies.LowerFault = ⊥
IsNoRefusal replies.Memory = ⊥

-- What a call on a tree in memory answers and leaves: the step's reply and tree, or, in place of a reply that is no refusal, want of memory, which leaves the tree.
abbrev pub StepsOrMemory : TreeReply → PlainTree → PlainTree → Stepped → Type 0
StepsOrMemory replies.Memory old new stepped = (new ≡ old) × IsNoRefusal stepped.reply
StepsOrMemory replies.LowerFault old new stepped = ⊥
StepsOrMemory reply old new stepped = stepped ≡ record { reply = reply; tree = new }
