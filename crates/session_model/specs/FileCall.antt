-- Which calls on a file may be made.
use Rattle.script_model.specs.Script.{IsSlot, IsOffset, IsTransfer, AreWritten}
use Rattle.session_model.specs.declared.file.FileCall.{FileCall}
use Rattle.session_model.specs.declared.file.FileCall.TheVariants.{Attach, Read, Write, Truncate, Size, Sync, Detach}

-- the condition of a call
abbrev pub IsFileCall : FileCall → Type 0
IsFileCall (Attach slot) = IsSlot slot
IsFileCall (Read slot offset len) = IsSlot slot × IsOffset offset × IsTransfer len
IsFileCall (Write slot offset octets) = IsSlot slot × IsOffset offset × AreWritten octets
IsFileCall (Truncate slot size) = IsSlot slot × IsOffset size
IsFileCall (Size slot) = IsSlot slot
IsFileCall (Sync slot) = IsSlot slot
IsFileCall (Detach slot) = IsSlot slot
