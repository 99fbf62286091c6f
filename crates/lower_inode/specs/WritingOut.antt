-- What writing out does to the files of a shard.
use Rattle.std.specs.Prelude.{ℕ, ◌≡◌, ◌≤◌, Bool, true, false, List, Option, None, length}
use Rattle.session_model.specs.declared.entry.FileEntry.{FileEntry}
use Rattle.body_model.specs.LowerFile.{LowerFile}
use Rattle.body_model.specs.Bodies.{HeldBodies}
use Rattle.body_model.specs.Format.{Format}
use Rattle.file_model.specs.ByteFile.{FileState}
use Rattle.file_model.specs.Shard.{IsClean, IsOutBelow, IsOutIfOpen, IsWriteOut, StandsBy}
use Rattle.open_file.specs.Calling.{AreCalls, AreWrites}
use Rattle.lower_inode.specs.declared.node.OpenNode.{OpenNode}
use Rattle.lower_inode.specs.Shards.{node_of, node_in, shard_with, slots_at, working_at}
use Rattle.lower_inode.specs.NodeTurn.{AreNodes, IsNode}

-- A write-out of one node's file, which failed or not, and which no other file notices.
pub record IsNodeWriteOut {K : Type 0} (format : Format K) (failed : Bool) (before after : HeldBodies) (node : ℕ) (old new : Option (OpenNode K)) : Type 0 where
  pub writes : AreWrites failed node before after
  pub shape : IsNode after node new
  pub slots : slots_at new ≡ slots_at old
  pub states : before.told ≡ true → (first : LowerFile) (opened : Bool) (state : FileState) → StandsBy format first before node opened (working_at old) (slots_at old) state
      → StandsBy format first after node opened (working_at new) (slots_at new) state
  pub closed : working_at old ≡ None → working_at new ≡ None
  pub idle : IsClean (working_at old) → (after ≡ before) × (failed ≡ false)
  pub clean : failed ≡ false → IsClean (working_at new)
  pub out : failed ≡ false → before.told ≡ true → (first : LowerFile) (opened : Bool) (state : FileState) → StandsBy format first before node opened (working_at old) (slots_at old) state
      → IsOutIfOpen format first node (after.files node) (working_at new) state

-- A write-out of the files of a shard, whatever its log, which failed or not. Each open file goes on having its room.
pub record IsTableWriteOut {K : Type 0} (format : Format K) (failed : Bool) (index : ℕ) (before after : HeldBodies) (old new : List (Option (OpenNode K))) : Type 0 where
  pub calls : AreCalls failed before after
  pub len : length new ≡ length old
  pub nodes : AreNodes after index new
  pub writes : (log : List FileEntry) → IsWriteOut format before after (shard_with log index old) (shard_with log index new)

-- One that came as far as this place in the table without a failure: the files from there on are as they were.
pub record IsOutUpTo {K : Type 0} (format : Format K) (index place : ℕ) (before after : HeldBodies) (old new : List (Option (OpenNode K))) : Type 0 where
  pub table : IsTableWriteOut format false index before after old new
  pub below : (log : List FileEntry) → IsOutBelow format before after (shard_with log index old) (shard_with log index new) (node_of index place)
  pub above : (node : ℕ) → node_of index place ≤ node → node_in index new node ≡ node_in index old node
  pub files : before.told ≡ true → (node : ℕ) → node_of index place ≤ node → after.files node ≡ before.files node
