-- The byte file: octets and the slots that have it open, and the step of each call.
use Rattle.std.specs.Prelude.{ℕ, ◌+◌, ◌-◌, Bool, not, ◌&&◌, ◌==◌, nat_lt, if◌then◌else◌, List, [], ◌∷◌, ◌++◌, length, take, drop, replicate, filter}
use Rattle.std.specs.List.{list_any}
use Rattle.packet_model.specs.declared.cause.BadCause.{BadCause}
use Rattle.packet_model.specs.declared.layout.TheConstants.{MAX_SIZE}
use Rattle.session_model.specs.declared.file.FileCall.{FileCall}
use Rattle.session_model.specs.declared.file.FileCall.TheVariants.{Attach, Read, Write, Truncate, Size, Sync, Detach}
use Rattle.session_model.specs.declared.file.FileReply.{FileReply}
use Rattle.session_model.specs.declared.file.FileReply.TheVariants.{Done, Octets, Length, Refused, NotOpen, TooBig}
use Rattle.file_model.specs.declared.open_slot.OpenSlot.{OpenSlot}

-- The octets of a file, and the slots that have it open.
pub record ByteFile : Type 0 where
  pub octets : List ℕ
  pub slots : List OpenSlot

-- A file that can't be decoded stays as it is.
pub data FileState : Type 0 where
  Bad : BadCause → FileState
  Good : ByteFile → FileState

-- Octets at an offset take the place of the old ones, behind zeros where the old ones end before.
abbrev pub written : ℕ → List ℕ → List ℕ → List ℕ
written at octets old = take at old ++ replicate (at - length old) 0 ++ octets ++ drop (at + length octets) old

-- cut, or filled up with zeros
abbrev pub resized : ℕ → List ℕ → List ℕ
resized size old = take size old ++ replicate (size - length old) 0

abbrev pub is_open_slot : ℕ → ℕ → OpenSlot → Bool
is_open_slot session slot open_slot = (open_slot.session == session) && (open_slot.slot == slot)

abbrev pub is_attached : List OpenSlot → ℕ → ℕ → Bool
is_attached slots session slot = list_any (is_open_slot session slot) slots

abbrev pub with_slot : List OpenSlot → ℕ → ℕ → List OpenSlot
with_slot slots session slot = if is_attached slots session slot then slots else slots ++ record { session = session; slot = slot } ∷ []

abbrev pub without_slot : List OpenSlot → ℕ → ℕ → List OpenSlot
without_slot slots session slot = filter (λ open_slot. not (is_open_slot session slot open_slot)) slots

abbrev pub slot_of : FileCall → ℕ
slot_of (Attach slot) = slot
slot_of (Read slot at len) = slot
slot_of (Write slot at octets) = slot
slot_of (Truncate slot size) = slot
slot_of (Size slot) = slot
slot_of (Sync slot) = slot
slot_of (Detach slot) = slot

-- where the octets of a call that may make the file longer end
abbrev pub end_of : FileCall → ℕ
end_of (Write slot at octets) = at + length octets
end_of (Truncate slot size) = size
end_of call = 0

-- A step: the reply, and the file after it.
pub record Stepped : Type 0 where
  pub reply : FileReply
  pub state : FileState

abbrev pub replies : ByteFile → FileReply → Stepped
replies file reply = record { reply = reply; state = Good file }

-- a call that isn't refused
abbrev pub effect : ByteFile → ℕ → FileCall → Stepped
effect file session (Attach slot) = replies (record file { slots = with_slot file.slots session slot }) Done
effect file session (Read slot at len) = replies file (Octets (take len (drop at file.octets)))
effect file session (Write slot at octets) = replies (record file { octets = written at octets file.octets }) Done
effect file session (Truncate slot size) = replies (record file { octets = resized size file.octets }) Done
effect file session (Size slot) = replies file (Length (length file.octets))
effect file session (Sync slot) = replies file Done
effect file session (Detach slot) = replies (record file { slots = without_slot file.slots session slot }) Done

-- a call of a slot: not open, then too big, then done
abbrev pub step_open : ByteFile → ℕ → FileCall → Stepped
step_open file session call =
    if not (is_attached file.slots session (slot_of call)) then replies file NotOpen else
    if nat_lt MAX_SIZE (end_of call) then replies file TooBig else effect file session call

abbrev pub refuses : BadCause → FileReply → Stepped
refuses cause reply = record { reply = reply; state = Bad cause }

abbrev pub step_bad : BadCause → FileCall → Stepped
step_bad cause (Attach slot) = refuses cause (Refused cause)
step_bad cause call = refuses cause NotOpen

abbrev pub step_good : ByteFile → ℕ → FileCall → Stepped
step_good file session (Attach slot) = effect file session (Attach slot)
step_good file session call = step_open file session call

abbrev pub step : FileState → ℕ → FileCall → Stepped
step (Bad cause) session call = step_bad cause call
step (Good file) session call = step_good file session call
