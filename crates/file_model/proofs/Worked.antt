-- Worked values of the byte file's step and of its logs.
use Rattle.std.proofs.Common.{ℕ, ◌≡◌, List, [], ◌∷◌, refl, arith, inl, inr}
use Rattle.answer_model.specs.Count.{Rose}
use Rattle.packet_model.specs.declared.cause.BadCause.TheVariants.{NoPacket}
use Rattle.session_model.specs.declared.file.FileCall.{FileCall}
use Rattle.session_model.specs.declared.file.FileCall.TheVariants.{Attach, Read, Write, Truncate, Size, Sync, Detach}
use Rattle.session_model.specs.declared.file.FileReply.{FileReply}
use Rattle.session_model.specs.declared.file.FileReply.TheVariants.{Done, Octets, Length, Refused, NotOpen, TooBig, LowerFault, Memory}
use Rattle.file_model.specs.declared.open_slot.OpenSlot.{OpenSlot}
use Rattle.file_model.specs.ByteFile.{FileState, Bad, Good, step, written, resized}
use Rattle.file_model.specs.FileLog.{Turns}
use Rattle.file_model.specs.Resizing.{part_in, sized}

-- ---- octets

inside : written 1 (7 ∷ 8 ∷ []) (1 ∷ 2 ∷ 3 ∷ 4 ∷ []) ≡ 1 ∷ 7 ∷ 8 ∷ 4 ∷ []
inside = refl

across_the_end : written 3 (7 ∷ 8 ∷ []) (1 ∷ 2 ∷ 3 ∷ 4 ∷ []) ≡ 1 ∷ 2 ∷ 3 ∷ 7 ∷ 8 ∷ []
across_the_end = refl

behind_a_gap : written 4 (7 ∷ []) (1 ∷ 2 ∷ []) ≡ 1 ∷ 2 ∷ 0 ∷ 0 ∷ 7 ∷ []
behind_a_gap = refl

into_nothing : written 2 (65 ∷ []) [] ≡ 0 ∷ 0 ∷ 65 ∷ []
into_nothing = refl

cut : resized 2 (1 ∷ 2 ∷ 3 ∷ []) ≡ 1 ∷ 2 ∷ []
cut = refl

filled_up : resized 4 (1 ∷ 2 ∷ []) ≡ 1 ∷ 2 ∷ 0 ∷ 0 ∷ []
filled_up = refl

part_before_an_end : part_in 4094 (7 ∷ 8 ∷ 9 ∷ []) 0 ≡ 7 ∷ 8 ∷ []
part_before_an_end = refl

part_behind_it : part_in 4094 (7 ∷ 8 ∷ 9 ∷ []) 1 ≡ 9 ∷ []
part_behind_it = refl

part_elsewhere : part_in 4094 (7 ∷ 8 ∷ 9 ∷ []) 2 ≡ []
part_elsewhere = refl

size_of_metadata : sized 258 (9 ∷ 9 ∷ 9 ∷ 9 ∷ 9 ∷ 9 ∷ 9 ∷ 9 ∷ 5 ∷ []) ≡ 0 ∷ 0 ∷ 0 ∷ 0 ∷ 0 ∷ 0 ∷ 1 ∷ 2 ∷ 5 ∷ []
size_of_metadata = refl

-- ---- steps, of a file that slot 2 of session 0 has open

abbrev open_slot : ℕ → ℕ → OpenSlot
open_slot session slot = record { session = session; slot = slot }

abbrev file : List ℕ → List OpenSlot → FileState
file octets slots = Good (record { octets = octets; slots = slots })

abbrev gives : FileState → ℕ → FileCall → FileReply → FileState → Type 0
gives old session call reply new = step old session call ≡ record { reply = reply; state = new }

abbrev abc : List ℕ
abc = 97 ∷ 98 ∷ 99 ∷ []

abbrev opened : FileState
opened = file abc (open_slot 0 2 ∷ [])

opens : gives (file abc []) 0 (Attach 2) Done opened
opens = refl

opens_again : gives opened 0 (Attach 2) Done opened
opens_again = refl

opens_elsewhere : gives opened 1 (Attach 2) Done (file abc (open_slot 0 2 ∷ open_slot 1 2 ∷ []))
opens_elsewhere = refl

reads : gives opened 0 (Read 2 1 10) (Octets (98 ∷ 99 ∷ [])) opened
reads = refl

reads_past_the_end : gives opened 0 (Read 2 7 10) (Octets []) opened
reads_past_the_end = refl

reads_another_slot : gives opened 0 (Read 1 0 1) NotOpen opened
reads_another_slot = refl

reads_of_another_session : gives opened 1 (Read 2 0 1) NotOpen opened
reads_of_another_session = refl

writes : gives opened 0 (Write 2 2 (120 ∷ 121 ∷ [])) Done (file (97 ∷ 98 ∷ 120 ∷ 121 ∷ []) (open_slot 0 2 ∷ []))
writes = refl

too_big : gives opened 0 (Write 2 67108864 (65 ∷ [])) TooBig opened
too_big = refl

too_big_and_not_open : gives opened 0 (Write 3 67108864 (65 ∷ [])) NotOpen opened
too_big_and_not_open = refl

size_too_big : gives opened 0 (Truncate 2 67108865) TooBig opened
size_too_big = refl

tells_the_size : gives opened 0 (Size 2) (Length 3) opened
tells_the_size = refl

writes_out : gives opened 0 (Sync 2) Done opened
writes_out = refl

closes : gives opened 0 (Detach 2) Done (file abc [])
closes = refl

closes_one_of_two : gives (file abc (open_slot 0 2 ∷ open_slot 1 2 ∷ [])) 0 (Detach 2) Done (file abc (open_slot 1 2 ∷ []))
closes_one_of_two = refl

closes_what_is_closed : gives (file abc []) 0 (Detach 2) NotOpen (file abc [])
closes_what_is_closed = refl

bad_opens : gives (Bad NoPacket) 0 (Attach 0) (Refused NoPacket) (Bad NoPacket)
bad_opens = refl

bad_reads : gives (Bad NoPacket) 0 (Read 0 0 1) NotOpen (Bad NoPacket)
bad_reads = refl

-- ---- faults

rose_to_one : Rose 0 1
rose_to_one = omega arith

rose_to_five : Rose 4 5
rose_to_five = omega arith

-- the first opening has to read the file, so that a fault may stand in place of any reply
fault_before_a_cause : Turns LowerFault 0 (Attach 0) 0 1 (Bad NoPacket) (Bad NoPacket)
fault_before_a_cause = (rose_to_one, inr (tt, tt), refl)

fault_of_a_read : Turns LowerFault 0 (Read 2 0 1) 4 5 opened opened
fault_of_a_read = (rose_to_five, inl tt, refl)

-- ---- what is no turn

no_fault_without_a_count : Turns LowerFault 0 (Read 2 0 1) 4 4 opened opened → ⊥
no_fault_without_a_count t = omega arith

no_fault_for_a_refusal : Turns LowerFault 0 (Read 1 0 1) 4 5 opened opened → ⊥
no_fault_for_a_refusal (rose, inl never, same) = never
no_fault_for_a_refusal (rose, inr (never, none), same) = never

no_memory_in_a_read : Turns Memory 0 (Read 2 0 1) 0 0 opened opened → ⊥
no_memory_in_a_read (never, may, same) = never
