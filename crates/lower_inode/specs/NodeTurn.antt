-- What a turn does to the file of one node.
use Rattle.std.specs.Prelude.{ℕ, ◌≡◌, ◌≢◌, ◌≤◌, ◌||◌, Bool, true, List, [], Option, Some, None, Result, Ok, Err}
use Rattle.session_model.specs.declared.file.FileCall.{FileCall}
use Rattle.session_model.specs.declared.file.FileReply.{FileReply}
use Rattle.session_model.specs.declared.file.FileReply.TheVariants.{Done, LowerFault, Memory}
use Rattle.lower_tree.specs.declared.error.LowerError.{LowerError}
use Rattle.lower_tree.specs.declared.error.LowerError.TheVariants as lower
use Rattle.session_model.specs.declared.entry.FileEntry.{FileEntry}
use Rattle.body_model.specs.LowerFile.{LowerFile}
use Rattle.body_model.specs.Bodies.{HeldBodies}
use Rattle.body_model.specs.BodyCalls.{KeepsOthers}
use Rattle.body_model.specs.Format.{Format}
use Rattle.file_model.specs.declared.open_slot.OpenSlot.{OpenSlot}
use Rattle.file_model.specs.ByteFile.{FileState, with_slot}
use Rattle.file_model.specs.FileLog.{Turns}
use Rattle.file_model.specs.Shard.{HasFileCause, IsClean, IsSync, SyncWrites, StandsBy, opens, slots_behind}
use Rattle.open_file.specs.Buffered.{HasItsRoom}
use Rattle.lower_inode.specs.declared.node.OpenNode.{OpenNode}
use Rattle.lower_inode.specs.Shards.{node_in, slots_at, working_at}

-- An open file is open for some slot, and the store has its room.
abbrev pub IsNode : {K : Type 0} → HeldBodies → ℕ → Option (OpenNode K) → Type 0
IsNode held node (Some opened) = HasItsRoom held node opened.file.opened × (opened.slots.items ≢ [])
IsNode held node None = Unit {0}

-- each open file of a shard
abbrev pub AreNodes : {K : Type 0} → HeldBodies → ℕ → List (Option (OpenNode K)) → Type 0
AreNodes held index nodes = (node : ℕ) → IsNode held node (node_in index nodes node)

-- Calls on the store touched one node alone.
pub record Touches (node : ℕ) (old new : HeldBodies) : Type 0 where
  pub later : old.faults ≤ new.faults
  pub told : new.told ≡ old.told
  pub body_room : (other : ℕ) → old.body_room other ≤ new.body_room other
  pub attribute_room : (other : ℕ) → old.attribute_room other ≤ new.attribute_room other
  pub others : KeepsOthers node old new

-- the entry of a call
abbrev pub entry_of : HeldBodies → HeldBodies → ℕ → ℕ → ℕ → FileCall → FileReply → FileEntry
entry_of before after session op node call reply = record { session = session; op = op; node = node; call = call; reply = reply; before = before.faults; after = after.faults }

-- A turn of one node's file, which no other file notices.
pub record IsNodeTurn {K : Type 0} (format : Format K) (before after : HeldBodies) (node : ℕ) (old new : Option (OpenNode K)) (session : ℕ) (call : FileCall) (reply : FileReply) : Type 0 where
  pub touches : Touches node before after
  pub shape : IsNode after node new
  pub cause : (op : ℕ) → HasFileCause (slots_at old) (entry_of before after session op node call reply)
  pub slots : slots_at new ≡ slots_behind call reply session (slots_at old)
  pub turn : before.told ≡ true → (first : LowerFile) (opened : Bool) (state : FileState) → StandsBy format first before node opened (working_at old) (slots_at old) state
      → (next : FileState) × Turns reply session call before.faults after.faults state next
      × StandsBy format first after node (opened || opens call reply) (working_at new) (slots_at new) next × SyncWrites format first node call reply (after.files node) next
  pub closed : before.told ≡ true → working_at old ≡ None → working_at new ≡ None → after.files node ≡ before.files node
  pub idle : IsSync call → IsClean (working_at old) → after.calls ≡ before.calls
  pub synced : IsSync call → reply ≡ Done → IsClean (working_at new)

-- A slot is added, or there is no memory for it.
abbrev pub AddsSlot : List OpenSlot → List OpenSlot → ℕ → ℕ → FileReply → Type 0
AddsSlot old new session slot Done = new ≡ with_slot old session slot
AddsSlot old new session slot Memory = new ≡ old
AddsSlot old new session slot reply = ⊥

-- what a change of the octets answers
abbrev pub reply_to_change : Result (Unit {0}) LowerError → FileReply
reply_to_change (Ok done) = Done
reply_to_change (Err lower.Failed) = LowerFault
reply_to_change (Err lower.Memory) = Memory
