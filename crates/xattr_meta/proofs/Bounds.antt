-- How great the numbers of a good header are.
use Rattle.std.proofs.Common.{◌≡◌, ℕ, ◌≤◌, Bool, true, false, cond, List, Option, Some, None, Result, Ok, Err, refl, subst}
use Rattle.std.specs.Prelude.{length, not, nat_lt, bit_xor, ◌==◌}
use Rattle.std.proofs.lemmas.Bool.{ltb-false}
use Rattle.lower_model.specs.declared.meta_place.MetaPlace.{MetaPlace}
use Rattle.packet_model.specs.declared.cause.BadCause.{BadCause}
use Rattle.packet_model.specs.declared.cause.BadCause.TheVariants.{TooLarge}
use Rattle.packet_model.specs.declared.layout.TheConstants.{ENCRYPTED_FLAG, HMAC_FLAG, MARKER, MAX_SIZE}
use Rattle.answer_model.specs.Answer.{◌>>=◌}
use Rattle.packet_model.specs.PacketSet.{WrappedKey, key_at}
use Rattle.packet_model.specs.Metadata.{FileHeader, size_in, mark_in, second_mark_in, version_in, flags_in, has_flag, meta_size_in, is_meta_size, header_fields, packets_in, header_with, fields_fault, unless, header_at}

abbrev some : BadCause → Option BadCause
some cause = Some cause

abbrev ok : FileHeader → Result FileHeader BadCause
ok header = Ok header

no_fault : (b : Bool) (cause : BadCause) (rest : Option BadCause) → cond b (some cause) rest ≡ None → (b ≡ false) × (rest ≡ None)
no_fault true cause rest e = absurd cc
no_fault false cause rest e = (refl, e)

no_last_fault : (b : Bool) (cause : BadCause) → cond b (some cause) None ≡ None → b ≡ false
no_last_fault true cause e = absurd cc
no_last_fault false cause e = refl

passed : (fault : Option BadCause) (read : Result FileHeader BadCause) (header : FileHeader) → unless fault read ≡ ok header → (fault ≡ None) × (read ≡ ok header)
passed None read header e = (refl, e)
passed (Some cause) read header e = absurd cc

behind_key : (key : Result WrappedKey BadCause) (read : WrappedKey → Result FileHeader BadCause) (header : FileHeader) → (key >>= read) ≡ ok header → (k : WrappedKey) × (read k ≡ ok header)
behind_key (Ok k) read header e = (k, e)
behind_key (Err cause) read header e = absurd cc

within : (b : Bool) (cause : BadCause) (read header : FileHeader) → cond b (Err cause) (ok read) ≡ ok header → (b ≡ false) × (read ≡ header)
within true cause read header e = absurd cc
within false cause read header e = (refl, cc)

is_passed : (b : Bool) → not b ≡ false → b ≡ true
is_passed true e = refl
is_passed false e = absurd cc

good_fields : (meta_place : MetaPlace) (octets : List ℕ) → fields_fault meta_place octets ≡ None → is_meta_size meta_place (meta_size_in octets) ≡ true
unfolding fields_fault
good_fields meta_place octets e =
    let marker = no_fault (nat_lt (length octets) 26) _ _ e in
    let version = no_fault (not (bit_xor (mark_in octets) (second_mark_in octets) == MARKER)) _ _ marker.1 in
    let hmac = no_fault (not (version_in octets == 3)) _ _ version.1 in
    let encrypted = no_fault (has_flag HMAC_FLAG (flags_in octets)) _ _ hmac.1 in
    let header_size = no_fault (not (has_flag ENCRYPTED_FLAG (flags_in octets))) _ _ encrypted.1 in
    is_passed (is_meta_size meta_place (meta_size_in octets)) (no_last_fault (not (is_meta_size meta_place (meta_size_in octets))) _ header_size.1)

-- the numbers of a good header
pub record IsGood (meta_place : MetaPlace) (header : FileHeader) : Type 0 where
  pub size : header.size ≤ MAX_SIZE
  pub meta_size : is_meta_size meta_place header.meta_size ≡ true

pub good_header : (meta_place : MetaPlace) (ours : List (List ℕ)) (octets : List ℕ) (header : FileHeader) → header_at meta_place ours octets ≡ Ok header → IsGood meta_place header
unfolding header_at
good_header meta_place ours octets header e =
    let fields = passed (fields_fault meta_place octets) _ header e in
    let key = behind_key (key_at ours (packets_in octets)) (header_with octets) header fields.1 in
    let size = within (nat_lt MAX_SIZE (size_in octets)) (TooLarge (size_in octets)) (header_fields octets key.0) header key.1 in
    record {
      size = subst (λ (h : FileHeader). h.size ≤ MAX_SIZE) size.1 (ltb-false MAX_SIZE (size_in octets) size.0);
      meta_size = subst (λ (h : FileHeader). is_meta_size meta_place h.meta_size ≡ true) size.1 (good_fields meta_place octets fields.0);
    }
