-- What bodies in memory hold.
use Rattle.std.specs.Prelude.{ℕ, ◌≡◌, ◌==◌, ◌<◌, ◌+◌, ◌-◌, ◌/◌, ◌%◌, ◌++◌, if◌then◌else◌, true, List, [], length, map, filter, replicate, Option, Some, None, slice_get, slice_set, unwrap_or}
use Rattle.answer_model.specs.Count.{next_count}
use Rattle.lower_model.specs.declared.kind.Kind.TheVariants as kinds
use Rattle.lower_model.specs.LowerTree.{HoldsOctets}
use Rattle.lower_model.specs.declared.node.LowerNode.{LowerNode}
use Rattle.names_model.specs.LowerPaths.{file_in}
use Rattle.body_model.specs.LowerFile.{LowerFile}
use Rattle.body_model.specs.Bodies.{HeldBodies}
use Rattle.lower_tree.specs.Held.{stores}
use Rattle.lower_tree.specs.Making.{sum_of_counts}
use Rattle.lower_mem.specs.Plan.{Plan, first_plan, behind_call}
use Rattle.lower_mem.specs.Files.{FileInMemory, nothing, stored, with_rooms}

-- The number of the store, the files of its nodes, which are those with this remainder by 8, which of its changing and of its
-- reading calls fail, and how many calls were made.
pub record BodiesInMemory : Type 0 where
  pub number : ℕ
  pub files : List FileInMemory
  pub changes : Plan
  pub reads : Plan
  pub calls : ℕ

-- the place of a node's file; that of another store's node is past all places
abbrev pub place_of : BodiesInMemory → ℕ → ℕ
place_of bodies node = if node % stores == bodies.number then node / stores else length bodies.files

abbrev pub file_at_node : BodiesInMemory → ℕ → FileInMemory
file_at_node bodies node = unwrap_or (slice_get bodies.files (place_of bodies node)) nothing

abbrev pub bodies_held : BodiesInMemory → HeldBodies
bodies_held bodies = record {
  told = true;
  files = λ node. (file_at_node bodies node).file;
  calls = bodies.calls;
  faults = sum_of_counts bodies.changes.faults bodies.reads.faults;
  body_room = λ node. (file_at_node bodies node).body_room;
  attribute_room = λ node. (file_at_node bodies node).attribute_room;
}

-- ---- what calls leave

abbrev pub with_files : List FileInMemory → BodiesInMemory → BodiesInMemory
with_files files bodies = record bodies { files = files }

-- behind a call that never fails, one that reads octets, and one that changes them
abbrev pub behind_any : BodiesInMemory → BodiesInMemory
behind_any bodies = record bodies { calls = next_count bodies.calls }

abbrev pub behind_read : BodiesInMemory → BodiesInMemory
behind_read bodies = record bodies { calls = next_count bodies.calls; reads = behind_call bodies.reads }

abbrev pub behind_change : BodiesInMemory → BodiesInMemory
behind_change bodies = record bodies { calls = next_count bodies.calls; changes = behind_call bodies.changes }

-- with another file of a node, if there is a place for it
abbrev pub with_file : ℕ → FileInMemory → BodiesInMemory → BodiesInMemory
with_file node file bodies = with_files (slice_set bodies.files (place_of bodies node) file) bodies

-- with places for so many files at least, by empty ones
abbrev pub padded : ℕ → List FileInMemory → List FileInMemory
padded count files = files ++ replicate (count - length files) nothing

-- with a place for a node, and this room at least
abbrev pub with_rooms_at : ℕ → ℕ → ℕ → BodiesInMemory → BodiesInMemory
with_rooms_at node body attribute bodies =
    with_file node (with_rooms body attribute (file_at_node bodies node)) (with_files (padded (node / stores + 1) bodies.files) bodies)

-- ---- eight stores

-- the numbers of the calls of a store, among those of all
abbrev pub calls_of : List (ℕ × ℕ) → ℕ → List ℕ
calls_of calls number = map (λ (c : ℕ × ℕ). c.1) (filter (λ (c : ℕ × ℕ). c.0 == number) calls)

-- a store with no files, of whose calls those fail
abbrev pub first_bodies : List (ℕ × ℕ) → List (ℕ × ℕ) → ℕ → BodiesInMemory
first_bodies changes reads number = record { number = number; files = []; changes = first_plan (calls_of changes number); reads = first_plan (calls_of reads number); calls = 0 }

abbrev pub files_in : Option BodiesInMemory → List FileInMemory
files_in (Some bodies) = bodies.files
files_in None = []

-- The files of nodes stand in eight stores, on which no call was made. Those fail that have these numbers.
pub record Stored (changes reads : List (ℕ × ℕ)) (nodes : List LowerNode) (bodies : List BodiesInMemory) : Type 0 where
  pub count : length bodies ≡ stores
  pub fresh : (j : ℕ) → j < stores → slice_get bodies j ≡ Some (with_files (files_in (slice_get bodies j)) (first_bodies changes reads j))
  pub lengths : (j : ℕ) → j < stores → length (files_in (slice_get bodies j)) ≡ (length nodes + (7 - j)) / 8
  pub files : (k : ℕ) (node : LowerNode) → slice_get nodes k ≡ Some node → slice_get (files_in (slice_get bodies (k % 8))) (k / 8) ≡ Some (stored (file_in (Some node)))

-- The octets of each file fit an image.
abbrev pub AllFit : (ℕ → LowerFile) → Type 0
AllFit files = (k : ℕ) → HoldsOctets kinds.File (files k).attribute (files k).body
