-- What packet stands at the front of some octets, and how many octets it has.
use Rattle.std.specs.Prelude.{ℕ, ◌+◌, ◌-◌, Bool, List, [], ◌∷◌, length, take, drop, slice_index, slice_range, Option, Some, None, Result, Ok, Err, nat_le, ◌==◌, ◌&&◌, if◌then◌else◌, IsTrue, is_some}
use Rattle.std.specs.Option.{ok_or}
use Rattle.answer_model.specs.Answer.{GivesAs}
use Rattle.packet_model.specs.declared.length.LengthFault.{LengthFault}
use Rattle.packet_model.specs.declared.packet.Tag3.{Tag3}
use Rattle.packet_model.specs.declared.packet.Tag11.{Tag11}
use Rattle.packet_model.specs.declared.packet.PacketError.{PacketError}
use Rattle.packet_model.specs.declared.packet.PacketError.TheVariants.{Bad, Memory}
use Rattle.packet_model.specs.declared.packet.TheConstants.{MAX_WRAPPED}
use Rattle.packet_model.specs.declared.tag.TheConstants.{TAG3, TAG11}
use Rattle.packet_model.specs.Length.{length_at}

-- the body behind a tag and a length, if all of it is there, and how many octets the packet has
abbrev pub body_behind : List ℕ → Result (ℕ × ℕ) LengthFault → Option (List ℕ × ℕ)
body_behind rest (Err fault) = None
body_behind rest (Ok (n, used)) = if nat_le (used + n) (length rest) then Some (take n (drop used rest), 1 + used + n) else None

-- the body of the packet with this tag at the front, and how many octets the packet has
unfoldable pub body_at : ℕ → List ℕ → Option (List ℕ × ℕ)
body_at tag [] = None
body_at tag (first ∷ rest) = if first == tag then body_behind rest (length_at rest) else None

-- whether a body is that of a tag 3 packet: it has the three fixed octets, and behind its 13 fixed fields at most so many of a wrapped key
abbrev pub is_tag3_body : List ℕ → Bool
is_tag3_body body =
    nat_le 13 (length body) && nat_le (length body) (13 + MAX_WRAPPED) && (slice_index body 0 == 4) && (slice_index body 2 == 3) && (slice_index body 3 == 1)

abbrev pub tag3_fields : List ℕ → Tag3
tag3_fields body = record { cipher = slice_index body 1; salt = slice_range body 4 12; count = slice_index body 12; wrapped = drop 13 body }

-- whether a body is that of a tag 11 packet: behind its name there are 12 octets
abbrev pub is_tag11_body : List ℕ → Bool
is_tag11_body body = nat_le 14 (length body) && (length body == 14 + slice_index body 1)

-- the last 8 octets
abbrev pub tag11_fields : List ℕ → Tag11
tag11_fields body = record { signature = drop (length body - 8) body }

-- the fields of a body of which a test holds
abbrev pub fields_if : {A : Type 0} → (List ℕ → Bool) → (List ℕ → A) → Option (List ℕ × ℕ) → Option (A × ℕ)
fields_if test fields None = None
fields_if test fields (Some (body, used)) = if test body then Some (fields body, used) else None

unfoldable pub tag3_at : List ℕ → Option (Tag3 × ℕ)
tag3_at octets = fields_if is_tag3_body tag3_fields (body_at TAG3 octets)

unfoldable pub tag11_at : List ℕ → Option (Tag11 × ℕ)
tag11_at octets = fields_if is_tag11_body tag11_fields (body_at TAG11 octets)

-- the fault that an error tells: none where memory ran out
abbrev pub fault_of : PacketError → Option PacketError
fault_of Bad = Some Bad
fault_of Memory = None

-- What a reader answered is the packet that stands at the front. Memory runs out only where one stands there.
abbrev pub GivesPacket : {A : Type 0} → Result A PacketError → Option A → Type 0
GivesPacket result front = GivesAs (λ p. p) fault_of (IsTrue (is_some front)) result (ok_or front Bad)
