-- What contracts see of a shard.
use Rattle.std.specs.Prelude.{ℕ, ◌+◌, ◌*◌, ◌≤◌, ◌==◌, ◌/◌, ◌%◌, List, [], length, Option, Some, None, slice_get, if◌then◌else◌}
use Rattle.lower_tree.specs.Held.{stores}
use Rattle.session_model.specs.declared.file.FileCall.{FileCall}
use Rattle.session_model.specs.declared.file.FileCall.TheVariants.{Read}
use Rattle.session_model.specs.declared.file.FileReply.{FileReply}
use Rattle.session_model.specs.declared.file.FileReply.TheVariants.{Octets}
use Rattle.session_model.specs.declared.entry.FileEntry.{FileEntry}
use Rattle.file_model.specs.declared.open_slot.OpenSlot.{OpenSlot}
use Rattle.file_model.specs.LaidOut.{Working}
use Rattle.file_model.specs.Shard.{Shard}
use Rattle.open_file.specs.Buffered.{working_of}
use Rattle.lower_inode.specs.declared.node.OpenNode.{OpenNode}

-- The number of a shard, its store and its format, its open files by the numbers of their nodes divided by eight, and its log.
pub record ShardOver (B F K : Type 0) : Type 0 where
  pub index : ℕ
  pub bodies : B
  pub format : F
  pub nodes : List (Option (OpenNode K))
  pub log : List FileEntry

abbrev pub working_at : {K : Type 0} → Option (OpenNode K) → Option (Working K)
working_at (Some opened) = Some (working_of opened.file)
working_at None = None

abbrev pub slots_at : {K : Type 0} → Option (OpenNode K) → List OpenSlot
slots_at (Some opened) = opened.slots.items
slots_at None = []

abbrev pub flat : {T : Type 0} → Option (Option T) → Option T
flat (Some entry) = entry
flat None = None

-- the open file of a node of this shard
abbrev pub node_in : {K : Type 0} → ℕ → List (Option (OpenNode K)) → ℕ → Option (OpenNode K)
node_in index nodes node = if node % stores == index then flat (slice_get nodes (node / stores)) else None

-- a shard by its log, its index and its open files
abbrev pub shard_with : {K : Type 0} → List FileEntry → ℕ → List (Option (OpenNode K)) → Shard K
shard_with log index nodes = record { log = log; working = λ node. working_at (node_in index nodes node); slots = λ node. slots_at (node_in index nodes node) }

abbrev pub shard_of : {B F K : Type 0} → ShardOver B F K → Shard K
shard_of shard = shard_with shard.log shard.index shard.nodes

-- the node of this shard with this place in the table of its open files
abbrev pub node_of : ℕ → ℕ → ℕ
node_of index place = stores * place + index

-- the room that a call takes
abbrev pub HasRoomFor : FileCall → ℕ → Type 0
HasRoomFor (Read slot at len) room = len ≤ room
HasRoomFor call room = Unit {0}

-- a reply whose octets have room
abbrev pub IsReplyIn : FileReply → ℕ → Type 0
IsReplyIn (Octets octets) room = length octets ≤ room
IsReplyIn reply room = Unit {0}
