-- Which logs of turns byte files could have had.
use Rattle.std.specs.Prelude.{ℕ, ◌≡◌, ◌==◌, ◌%◌, ◌<◌, ◌≤◌, ◌⊎◌, List, [], length, filter, Some, slice_get}
use Rattle.answer_model.specs.Count.{Rose}
use Rattle.lower_tree.specs.Held.{stores}
use Rattle.session_model.specs.declared.file.FileCall.{FileCall}
use Rattle.session_model.specs.declared.file.FileCall.TheVariants.{Attach, Write, Truncate}
use Rattle.session_model.specs.declared.file.FileReply.{FileReply}
use Rattle.session_model.specs.declared.file.FileReply.TheVariants.{Refused, NotOpen, TooBig, LowerFault, Memory}
use Rattle.session_model.specs.declared.entry.FileEntry.{FileEntry}
use Rattle.session_model.specs.Legal.{Counts}
use Rattle.file_model.specs.ByteFile.{FileState, Bad, Good, step}

-- the calls for which memory is taken
abbrev pub TakesMemory : FileCall → Type 0
TakesMemory (Attach slot) = Unit {0}
TakesMemory (Write slot at octets) = Unit {0}
TakesMemory (Truncate slot size) = Unit {0}
TakesMemory call = ⊥

abbrev pub IsAttach : FileCall → Type 0
IsAttach (Attach slot) = Unit {0}
IsAttach call = ⊥

abbrev pub IsNoRefusal : FileReply → Type 0
IsNoRefusal (Refused cause) = ⊥
IsNoRefusal NotOpen = ⊥
IsNoRefusal TooBig = ⊥
IsNoRefusal reply = Unit {0}

-- No slot has it open.
abbrev pub IsUnattached : FileState → Type 0
IsUnattached (Bad cause) = Unit {0}
IsUnattached (Good file) = file.slots ≡ []

-- Memory may run out, or the lower bodies fail, in place of a reply that is no refusal, and of any reply of the first open, which has to read the file.
abbrev pub MayFail : FileState → ℕ → FileCall → Type 0
MayFail old session call = IsNoRefusal (step old session call).reply ⊎ (IsAttach call × IsUnattached old)

-- The call may answer this, and the file goes on from old to new: by the step, or unchanged for want of memory or for a fault that the count shows.
abbrev pub Turns : FileReply → ℕ → FileCall → ℕ → ℕ → FileState → FileState → Type 0
Turns Memory session call before after old new = TakesMemory call × MayFail old session call × (new ≡ old)
Turns LowerFault session call before after old new = Rose before after × MayFail old session call × (new ≡ old)
Turns reply session call before after old new = step old session call ≡ record { reply = reply; state = new }

pub record IsTurn (old : FileState) (e : FileEntry) (new : FileState) : Type 0 where
  pub later : e.before ≤ e.after
  pub turns : Turns e.reply e.session e.call e.before e.after old new

abbrev pub counts_of : FileEntry → Counts
counts_of e = record { before = e.before; after = e.after }

-- the entries of one node
abbrev pub entries_at : ℕ → List FileEntry → List FileEntry
entries_at node log = filter (λ e. e.node == node) log

-- the entries of one shard, which has every eighth node
abbrev pub entries_in : ℕ → List FileEntry → List FileEntry
entries_in shard log = filter (λ e. e.node % stores == shard) log

-- The logs of all shards, each of which has its entries of one log.
pub record AreShardLogs (logs : List (List FileEntry)) (log : List FileEntry) : Type 0 where
  pub all : length logs ≡ stores
  pub each : (shard : ℕ) → shard < stores → slice_get logs shard ≡ Some (entries_in shard log)
