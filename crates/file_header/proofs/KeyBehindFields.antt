-- The reading of metadata, once its fields before the packets are known to be right or wrong.
use Rattle.std.proofs.Common.{◌≡◌, ℕ, ◌+◌, ◌-◌, List, ◌++◌, length, replicate, Some, None, Result, Ok, Err, refl, ap, ◌∙◌, append_assoc, arith}
use Rattle.lower_model.specs.declared.meta_place.MetaPlace.{MetaPlace}
use Rattle.lower_model.specs.declared.meta_place.MetaPlace.TheVariants.{Header}
use Rattle.answer_model.specs.Answer.{◌>>=◌, FailsAs}
use Rattle.packet_model.specs.declared.cause.BadCause.{BadCause}
use Rattle.packet_model.specs.declared.error.MetadataError.{MetadataError}
use Rattle.packet_model.specs.declared.error.MetadataError.TheVariants as errors
use Rattle.packet_model.specs.MetadataError.{cause_of}
use Rattle.packet_model.specs.PacketSet.{WrappedKey, SetTakesMemory, key_at}
use Rattle.packet_model.specs.Metadata.{NewHeader, HeaderTakesMemory, fixed_part, new_pair, new_metadata, fields_fault, packets_in, header_with, header_at}

pub refused : (meta_place : MetaPlace) (ours : List (List ℕ)) (octets : List ℕ) (cause : BadCause) → fields_fault meta_place octets ≡ Some cause → header_at meta_place ours octets ≡ Err cause
unfolding header_at
refused meta_place ours octets cause e = rw e refl

pub passed : (meta_place : MetaPlace) (ours : List (List ℕ)) (octets : List ℕ) → fields_fault meta_place octets ≡ None → header_at meta_place ours octets ≡ (key_at ours (packets_in octets) >>= header_with octets)
unfolding header_at
passed meta_place ours octets e = rw e refl

pub key_fails : (e : MetadataError) (meta_place : MetaPlace) (ours : List (List ℕ)) (octets packets : List ℕ) → fields_fault meta_place octets ≡ None → packets ≡ packets_in octets
    → FailsAs (cause_of e) (SetTakesMemory packets) (key_at ours packets) → FailsAs (cause_of e) (HeaderTakesMemory meta_place octets) (header_at meta_place ours octets)
key_fails errors.Memory meta_place ours octets packets none is h = record { no_fault = none; set = rw (← is) h }
key_fails (errors.Bad cause) meta_place ours octets packets none is h =
    let key : key_at ours (packets_in octets) ≡ Err cause = rw (← is) h in
    passed meta_place ours octets none ∙ ap (λ (r : Result WrappedKey BadCause). r >>= header_with octets) key

pub key_found : (meta_place : MetaPlace) (ours : List (List ℕ)) (octets packets : List ℕ) (key : WrappedKey) → fields_fault meta_place octets ≡ None → packets ≡ packets_in octets → key_at ours packets ≡ Ok key
    → header_at meta_place ours octets ≡ header_with octets key
key_found meta_place ours octets packets key none is h =
    let found : key_at ours (packets_in octets) ≡ Ok key = rw (← is) h in
    passed meta_place ours octets none ∙ ap (λ (r : Result WrappedKey BadCause). r >>= header_with octets) found

-- the zeros behind the packets of a new header
pub filled : (new : NewHeader) → (fixed_part new ++ new_pair new) ++ replicate (8192 - length (fixed_part new ++ new_pair new)) 0 ≡ new_metadata Header new
filled new =
    let k : 8192 - length (fixed_part new ++ new_pair new) ≡ 8192 - (26 + length (new_pair new)) = omega arith in
    rw k (append_assoc (fixed_part new) (new_pair new) (replicate (8192 - (26 + length (new_pair new))) 0))
