-- What a script may hold.
use Rattle.std.specs.Prelude.{ℕ, ◌<◌, ◌≤◌, List, length}
use Rattle.std.specs.List.{AllByRecursion}
use Rattle.octet_model.specs.Octets.{AreOctets}
use Rattle.tree_model.specs.Path.{IsPath}
use Rattle.script_model.specs.declared.limits.TheConstants.{MOST_OPERATIONS, SLOTS, OFFSET_LIMIT, LONGEST_TRANSFER}
use Rattle.script_model.specs.declared.op.Op.{Op}
use Rattle.script_model.specs.declared.op.Op.TheVariants as ops

abbrev pub IsSlot : ℕ → Type 0
IsSlot slot = slot < SLOTS

-- an offset in a file, or a size
abbrev pub IsOffset : ℕ → Type 0
IsOffset offset = offset < OFFSET_LIMIT

-- how many octets are read or written at once
abbrev pub IsTransfer : ℕ → Type 0
IsTransfer len = (1 ≤ len) × (len ≤ LONGEST_TRANSFER)

-- the octets of a write
abbrev pub AreWritten : List ℕ → Type 0
AreWritten octets = IsTransfer (length octets) × AreOctets octets

abbrev pub IsOp : Op → Type 0
IsOp (ops.Mkdir path) = IsPath path
IsOp (ops.Rmdir path) = IsPath path
IsOp (ops.Unlink path) = IsPath path
IsOp (ops.Rename paths) = IsPath paths.old × IsPath paths.new
IsOp (ops.List path) = IsPath path
IsOp (ops.Stat path) = IsPath path
IsOp (ops.Open slot path) = IsSlot slot × IsPath path
IsOp (ops.Create slot path) = IsSlot slot × IsPath path
IsOp (ops.Read slot offset len) = IsSlot slot × IsOffset offset × IsTransfer len
IsOp (ops.Write slot offset octets) = IsSlot slot × IsOffset offset × AreWritten octets
IsOp (ops.Truncate slot size) = IsSlot slot × IsOffset size
IsOp (ops.Size slot) = IsSlot slot
IsOp (ops.Sync slot) = IsSlot slot
IsOp (ops.Close slot) = IsSlot slot

pub record IsScript (script : List Op) : Type 0 where
  pub few : length script ≤ MOST_OPERATIONS
  pub ops : AllByRecursion IsOp script
