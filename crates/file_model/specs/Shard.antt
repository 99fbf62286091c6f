-- What a shard keeps of the files of its nodes, and what its calls do to them.
use Rattle.std.specs.Prelude.{ℕ, ◌≡◌, ◌≢◌, ◌<◌, ◌≤◌, ◌↔◌, ◌==◌, ◌&&◌, Bool, true, false, List, [], ◌∷◌, ◌++◌, length, Option, Some, None, Result, Ok, Err}
use Rattle.std.specs.List.{list_any}
use Rattle.answer_model.specs.Count.{Rose}
use Rattle.packet_model.specs.declared.cause.BadCause.{BadCause}
use Rattle.packet_model.specs.declared.layout.TheConstants.{MAX_SIZE}
use Rattle.session_model.specs.declared.file.FileCall.{FileCall}
use Rattle.session_model.specs.declared.file.FileCall.TheVariants.{Attach, Read, Write, Truncate, Size, Sync, Detach}
use Rattle.session_model.specs.declared.file.FileReply.{FileReply}
use Rattle.session_model.specs.declared.file.FileReply.TheVariants.{Done, Octets, Length, Refused, LowerFault, Memory, NotOpen, TooBig}
use Rattle.session_model.specs.declared.entry.FileEntry.{FileEntry}
use Rattle.body_model.specs.declared.opened.Opened.{Opened}
use Rattle.body_model.specs.declared.content.Content.{Content}
use Rattle.body_model.specs.declared.content.Content.TheVariants as contents
use Rattle.body_model.specs.LowerFile.{LowerFile, IsOfOctets}
use Rattle.body_model.specs.Bodies.{HeldBodies}
use Rattle.body_model.specs.Format.{Format, content, opening}
use Rattle.file_model.specs.declared.mark.MetadataMark.TheVariants.{Clean}
use Rattle.file_model.specs.declared.open_slot.OpenSlot.{OpenSlot}
use Rattle.file_model.specs.ByteFile.{FileState, Bad, Good, end_of, is_attached, slot_of, with_slot, without_slot}
use Rattle.file_model.specs.FileLog.{IsTurn, TakesMemory}
use Rattle.file_model.specs.LaidOut.{IsUnmarked, IsWrittenOut, LaidOut, Origin, Working, metadata_found}

-- What contracts see of a shard: its log, and by the number of a node what is kept of its file while it is open, and the slots
-- that have it open.
pub record Shard (K : Type 0) : Type 0 where
  pub log : List FileEntry
  pub working : ℕ → Option (Working K)
  pub slots : ℕ → List OpenSlot

-- ---- the file of a node, open or not

-- the state of a file that isn't open
abbrev pub state_by : Content → FileState
state_by contents.Empty = Good (record { octets = []; slots = [] })
state_by (contents.Good octets) = Good (record { octets = octets; slots = [] })
state_by (contents.Bad cause) = Bad cause

-- A lower file as its first opening finds it. One with neither body nor attribute gets the metadata of a new file.
abbrev pub origin_by : {K : Type 0} → Opened K → LowerFile → Result (Opened K) BadCause → Option Origin
origin_by new file (Ok o) = Some (record { meta_place = o.meta_place; size = o.size; body = file.body; metadata = metadata_found o.meta_place Clean o file })
origin_by new file (Err cause) = None

abbrev pub origin_with : {K : Type 0} → Opened K → LowerFile → List ℕ → Option (List ℕ) → Result (Opened K) BadCause → Option Origin
origin_with new file [] None read = Some (record { meta_place = new.meta_place; size = 0; body = []; metadata = new.metadata })
origin_with new file (first ∷ rest) None read = origin_by new file read
origin_with new file body (Some attribute) read = origin_by new file read

abbrev pub origin_in : {K : Type 0} → Format K → ℕ → LowerFile → Option Origin
origin_in format node file = origin_with (format.new_file node) file file.body file.attribute (opening format file)

-- a turn that opened the file of this node
abbrev pub opens : FileCall → FileReply → Bool
opens (Attach slot) Done = true
opens call reply = false

abbrev pub was_opened : ℕ → List FileEntry → Bool
was_opened node log = list_any (λ (e : FileEntry). (e.node == node) && opens e.call e.reply) log

-- A file that isn't open: as it was at first, or written out since it was opened.
abbrev pub IsLeft : {K : Type 0} → Format K → ℕ → LowerFile → Bool → LowerFile → Type 0
IsLeft format node first false file = file ≡ first
IsLeft {K} format node first true file = (origin : Origin) × (o : Opened K) × (origin_in format node first ≡ Some origin) × IsWrittenOut format origin file o

-- The file of a node is in this state: by what is kept of it while it is open, and else by its lower file alone. At first its lower file was this.
abbrev pub StandsBy : {K : Type 0} → Format K → LowerFile → HeldBodies → ℕ → Bool → Option (Working K) → List OpenSlot → FileState → Type 0
StandsBy format first held node opened (Some w) slots state = (origin : Origin) × (octets : List ℕ) × (origin_in format node first ≡ Some origin) × LaidOut format origin held node w octets
    × (opened ≡ true) × (slots ≢ []) × (state ≡ Good (record { octets = octets; slots = slots }))
StandsBy format first held node opened None slots state = (slots ≡ []) × (state ≡ state_by (content format (held.files node))) × IsLeft format node first opened (held.files node)

abbrev pub Stands : {K : Type 0} → Format K → (ℕ → LowerFile) → HeldBodies → Shard K → ℕ → FileState → Type 0
Stands format first held shard node state = StandsBy format (first node) held node (was_opened node shard.log) (shard.working node) (shard.slots node) state

-- ---- a step

abbrev pub IsClean : {K : Type 0} → Option (Working K) → Type 0
IsClean (Some w) = IsUnmarked w
IsClean None = Unit {0}

abbrev pub IsSync : FileCall → Type 0
IsSync (Sync slot) = Unit {0}
IsSync call = ⊥

-- the slots behind a turn
abbrev pub slots_behind : FileCall → FileReply → ℕ → List OpenSlot → List OpenSlot
slots_behind (Attach slot) Done session slots = with_slot slots session slot
slots_behind (Detach slot) Done session slots = without_slot slots session slot
slots_behind call reply session slots = slots

-- the slot has the file open, or the call opens it
abbrev pub is_let_in : List OpenSlot → ℕ → FileCall → Bool
is_let_in slots session (Attach slot) = true
is_let_in slots session call = is_attached slots session (slot_of call)

-- a reply that the call may have
abbrev pub IsReplyTo : FileCall → FileReply → Type 0
IsReplyTo call NotOpen = Unit {0}
IsReplyTo call TooBig = Unit {0}
IsReplyTo call LowerFault = Unit {0}
IsReplyTo call Memory = Unit {0}
IsReplyTo (Attach slot) (Refused cause) = Unit {0}
IsReplyTo (Read slot at len) (Octets octets) = length octets ≤ len
IsReplyTo (Size slot) (Length size) = size ≤ MAX_SIZE
IsReplyTo (Attach slot) Done = Unit {0}
IsReplyTo (Write slot at octets) Done = Unit {0}
IsReplyTo (Truncate slot size) Done = Unit {0}
IsReplyTo (Sync slot) Done = Unit {0}
IsReplyTo (Detach slot) Done = Unit {0}
IsReplyTo call reply = ⊥

-- What a reply says whether or not the store tells what it holds.
pub record HasFileCause (slots : List OpenSlot) (e : FileEntry) : Type 0 where
  pub kind : IsReplyTo e.call e.reply
  pub fault : e.reply ≡ LowerFault → Rose e.before e.after
  pub memory : e.reply ≡ Memory → TakesMemory e.call
  pub not_open : (e.reply ≡ NotOpen) ↔ (is_let_in slots e.session e.call ≡ false)
  pub too_big : (e.reply ≡ TooBig) ↔ ((is_let_in slots e.session e.call ≡ true) × (MAX_SIZE < end_of e.call))

-- A turn as far as it is known whether or not the store tells: it has its cause, and these slots have the file open before it and behind it.
pub record IsCausedTurn (old : List OpenSlot) (e : FileEntry) (new : List OpenSlot) : Type 0 where
  pub later : e.before ≤ e.after
  pub cause : HasFileCause old e
  pub slots : new ≡ slots_behind e.call e.reply e.session old

-- The lower file alone stands for an open file's octets.
pub record StandsAlone {K : Type 0} (format : Format K) (first : LowerFile) (node : ℕ) (file : LowerFile) (octets : List ℕ) : Type 0 where
  pub content_is : content format file ≡ contents.Good octets
  pub left : IsLeft format node first true file

-- behind a call that writes out, the lower file alone stands for the octets
abbrev pub SyncWrites : {K : Type 0} → Format K → LowerFile → ℕ → FileCall → FileReply → LowerFile → FileState → Type 0
SyncWrites format first node (Sync slot) Done file (Good f) = StandsAlone format first node file f.octets
SyncWrites format first node call reply file state = Unit {0}

-- A step adds one entry, which is a turn of its node's file; all other files stay in their states, and the lower files of nodes that
-- are open neither before nor after stay as they are.
pub record IsShardStep {K : Type 0} (format : Format K) (before after : HeldBodies) (old new : Shard K) (e : FileEntry) : Type 0 where
  pub log : new.log ≡ old.log ++ e ∷ []
  pub first_count : e.before ≡ before.faults
  pub last_count : e.after ≡ after.faults
  pub later : before.faults ≤ after.faults
  pub told : after.told ≡ before.told
  pub cause : HasFileCause (old.slots e.node) e
  pub slots : new.slots e.node ≡ slots_behind e.call e.reply e.session (old.slots e.node)
  pub other_slots : (node : ℕ) → node ≢ e.node → new.slots node ≡ old.slots node
  pub turn : before.told ≡ true → (first : ℕ → LowerFile) (state : FileState) → Stands format first before old e.node state
      → (next : FileState) × IsTurn state e next × Stands format first after new e.node next × SyncWrites format (first e.node) e.node e.call e.reply (after.files e.node) next
  pub others : before.told ≡ true → (first : ℕ → LowerFile) (node : ℕ) (state : FileState) → node ≢ e.node → Stands format first before old node state → Stands format first after new node state
  pub closed : before.told ≡ true → (node : ℕ) → old.working node ≡ None → new.working node ≡ None → after.files node ≡ before.files node
  pub octets : before.told ≡ true → (node : ℕ) → IsOfOctets (before.files node) → IsOfOctets (after.files node)
  pub idle : IsSync e.call → IsClean (old.working e.node) → after.calls ≡ before.calls
  pub synced : IsSync e.call → e.reply ≡ Done → IsClean (new.working e.node)

-- ---- writing out

-- A write-out leaves log, states and slots, whatever it answers, and the lower files of nodes that aren't open.
pub record IsWriteOut {K : Type 0} (format : Format K) (before after : HeldBodies) (old new : Shard K) : Type 0 where
  pub log : new.log ≡ old.log
  pub slots : (node : ℕ) → new.slots node ≡ old.slots node
  pub told : after.told ≡ before.told
  pub later : before.faults ≤ after.faults
  pub states : before.told ≡ true → (first : ℕ → LowerFile) (node : ℕ) (state : FileState) → Stands format first before old node state → Stands format first after new node state
  pub closed : before.told ≡ true → (node : ℕ) → old.working node ≡ None → (new.working node ≡ None) × (after.files node ≡ before.files node)
  pub octets : before.told ≡ true → (node : ℕ) → IsOfOctets (before.files node) → IsOfOctets (after.files node)
  pub idle : ((node : ℕ) → IsClean (old.working node)) → after.calls ≡ before.calls

-- The lower file of a node alone stands for its octets, open or not.
abbrev pub IsOutIfOpen : {K : Type 0} → Format K → LowerFile → ℕ → LowerFile → Option (Working K) → FileState → Type 0
IsOutIfOpen format first node file (Some w) (Good f) = StandsAlone format first node file f.octets
IsOutIfOpen format first node file w state = Unit {0}

-- Of the nodes below this one nothing is marked, and the lower file of each that is open alone stands for its octets.
pub record IsOutBelow {K : Type 0} (format : Format K) (before after : HeldBodies) (old new : Shard K) (stop : ℕ) : Type 0 where
  pub clean : (node : ℕ) → node < stop → IsClean (new.working node)
  pub out : before.told ≡ true → (first : ℕ → LowerFile) (node : ℕ) (state : FileState) → node < stop → Stands format first before old node state → IsOutIfOpen format (first node) node (after.files node) (new.working node) state

-- one that answered Ok: no call failed, nothing is marked, and each open file's lower file alone stands for its octets
pub record IsWholeWriteOut {K : Type 0} (format : Format K) (before after : HeldBodies) (old new : Shard K) : Type 0 where
  pub calm : after.faults ≡ before.faults
  pub clean : (node : ℕ) → IsClean (new.working node)
  pub out : before.told ≡ true → (first : ℕ → LowerFile) (node : ℕ) (state : FileState) → Stands format first before old node state → IsOutIfOpen format (first node) node (after.files node) (new.working node) state

-- One that failed, at a node with something marked: those below it are written out, and those above it are as they were.
pub record IsCutWriteOut {K : Type 0} (format : Format K) (before after : HeldBodies) (old new : Shard K) : Type 0 where
  pub node : ℕ
  pub marked : IsClean (old.working node) → ⊥
  pub below : IsOutBelow format before after old new node
  pub above : (other : ℕ) → node < other → new.working other ≡ old.working other
  pub files : before.told ≡ true → (other : ℕ) → node < other → after.files other ≡ before.files other

-- ---- what may be left of a file

-- Where the file of a node was opened, its lower file alone stands for the octets of its last state. Elsewhere it is as it was.
abbrev pub MayBeLeft : {K : Type 0} → Format K → LowerFile → ℕ → Bool → FileState → LowerFile → Type 0
MayBeLeft format first node true (Good f) file = StandsAlone format first node file f.octets
MayBeLeft format first node true (Bad cause) file = ⊥
MayBeLeft format first node false state file = file ≡ first
