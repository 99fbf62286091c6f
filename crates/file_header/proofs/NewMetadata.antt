-- New metadata is read as it was made, and metadata with another size with that size.
use Rattle.std.proofs.Common.{◌≡◌, ◌<◌, ◌≤◌, ◌^◌, ◌+◌, ◌-◌, ◌*◌, ◌/◌, ◌%◌, inl, inr, ℕ, zero, suc, Bool, true, false, not, ltb, List, [], ◌∷◌, ◌++◌, length, take, drop, replicate, Option, Some, None, Result, Ok, Err, refl, sym, ap, ◌∙◌, append_assoc, arith}
use Rattle.std.specs.Prelude.{IsTrue, bit_xor}
use Rattle.std.specs.Int.{w64, to_be_bytes}
use Rattle.std.specs.Int.Bits.{xor_assoc, xor_self, xor_zero_l}
use Rattle.std.proofs.Math.Seq.{take-append-add}
use Rattle.std.proofs.lemmas.Bool.{cases_Bool, le-ltb, lt-ltb, ltb-false, eq-eqb, eqb-true, and_parts}
use Rattle.std.proofs.lemmas.List.{append-nil, length-append, length-replicate}
use Rattle.std.proofs.lemmas.Nat.{xor_lt, from_be_bytes-to_be_bytes_4, from_be_bytes-to_be_bytes_8}
use Rattle.lower_model.specs.declared.meta_place.MetaPlace.{MetaPlace}
use Rattle.lower_model.specs.declared.meta_place.MetaPlace.TheVariants.{Header, Attribute}
use Rattle.packet_model.specs.declared.cause.BadCause.{BadCause}
use Rattle.packet_model.specs.declared.cause.BadCause.TheVariants.{TooLarge, Short}
use Rattle.packet_model.specs.declared.layout.TheConstants.{ENCRYPTED_FLAG, HMAC_FLAG, MARKER, MAX_SIZE, SET_OFFSET}
use Rattle.packet_model.specs.declared.packet.Tag3.{Tag3}
use Rattle.packet_model.specs.declared.packet.Tag11.{Tag11}
use Rattle.packet_model.specs.declared.packet.Pair.{Pair}
use Rattle.packet_model.specs.declared.tag.TheConstants.{TAG3, TAG11}
use Rattle.packet_model.specs.Packet.{packet, tag3_body, tag3, tag11_body, tag11, console, IsTag3, IsTag11}
use Rattle.answer_model.specs.Answer.{◌>>=◌}
use Rattle.packet_model.specs.PacketSet.{WrappedKey, begins_pair, pairs_from, is_among, key_among, key_at, IsSet}
use Rattle.packet_model.specs.Metadata.{FileHeader, NewHeader, size_in, mark_in, second_mark_in, version_in, flags_in, has_flag, meta_size_in, packets_in, is_meta_size, header_fields, header_with, fields_fault, unless, header_at, fixed_part, new_pair, new_metadata}
use Rattle.packet_model.proofs.Found.{chosen}
use Rattle.packet_model.proofs.Sets.{ok, pairs_again}
use Rattle.file_header.specs.NewMetadata.{IsNewHeader, header_of}
use Rattle.file_header.proofs.KeyBehindFields.{key_found}

-- ---- the fields before the packets

-- what the fields before the packets are read as
record HasFields (octets : List ℕ) (new : NewHeader) : Type 0 where
  long : 26 ≤ length octets
  size : size_in octets ≡ new.size
  mark : mark_in octets ≡ new.mark
  second_mark : second_mark_in octets ≡ bit_xor new.mark MARKER
  version : version_in octets ≡ 3
  flags : flags_in octets ≡ new.flags
  meta_size : meta_size_in octets ≡ 8192

version_of : (flags : ℕ) → flags < 2 ^ 24 → (3 * 2 ^ 24 + flags) / 256 ^ 3 % 256 ≡ 3
version_of flags h = omega arith

low_bits : (flags : ℕ) → flags < 2 ^ 24 → (3 * 2 ^ 24 + flags) % 2 ^ 24 ≡ flags
low_bits flags h = omega arith

fields_of : (new : NewHeader) (rest : List ℕ) → IsNewHeader new → HasFields (fixed_part new ++ rest) new
fields_of new rest h =
    let word : 3 * 2 ^ 24 + new.flags < 2 ^ 32 = omega (arith, h.flags) in
    record {
      long = omega arith;
      size = from_be_bytes-to_be_bytes_8 new.size (omega (arith, h.size));
      mark = from_be_bytes-to_be_bytes_4 new.mark h.mark;
      second_mark = from_be_bytes-to_be_bytes_4 (bit_xor new.mark MARKER) (xor_lt 32 new.mark MARKER h.mark (omega arith));
      version = version_of new.flags h.flags;
      flags = ap (λ (n : ℕ). n % 2 ^ 24) (from_be_bytes-to_be_bytes_4 (3 * 2 ^ 24 + new.flags) word) ∙ low_bits new.flags h.flags;
      meta_size = refl;
    }

two_extents : (meta_place : MetaPlace) → is_meta_size meta_place 8192 ≡ true
two_extents Header = refl
two_extents Attribute = refl

back : (mark : ℕ) → bit_xor mark (bit_xor mark MARKER) ≡ MARKER
back mark = sym (xor_assoc mark mark MARKER) ∙ ap (λ (n : ℕ). bit_xor n MARKER) (xor_self mark) ∙ xor_zero_l MARKER

not_true : (b : Bool) → not b ≡ true → b ≡ false
not_true true e = absurd cc
not_true false e = refl

no_fault : (meta_place : MetaPlace) (octets : List ℕ) (new : NewHeader) → IsNewHeader new → HasFields octets new → fields_fault meta_place octets ≡ None
unfolding fields_fault
no_fault meta_place octets new h r =
    let marker : bit_xor (mark_in octets) (second_mark_in octets) ≡ MARKER = rw (r.mark, r.second_mark) (back new.mark) in
    let no_hmac : not (has_flag HMAC_FLAG (flags_in octets)) ≡ true = rw r.flags h.no_hmac in
    let encrypted : has_flag ENCRYPTED_FLAG (flags_in octets) ≡ true = rw r.flags h.encrypted in
    let extents : is_meta_size meta_place (meta_size_in octets) ≡ true = rw r.meta_size (two_extents meta_place) in
    rw (le-ltb (length octets) 26 r.long, eq-eqb (bit_xor (mark_in octets) (second_mark_in octets)) MARKER marker, eq-eqb (version_in octets) 3 r.version, not_true (has_flag HMAC_FLAG (flags_in octets)) no_hmac, encrypted, extents) refl

size_read : (octets : List ℕ) (new : NewHeader) → IsNewHeader new → HasFields octets new → header_with octets new.key ≡ ok (header_of new)
size_read octets new h r =
    let most : ltb MAX_SIZE (size_in octets) ≡ false = le-ltb MAX_SIZE (size_in octets) (omega (arith, r.size, h.size)) in
    let fields : header_fields octets new.key ≡ header_of new = λ i. record { size = r.size i; mark = r.mark i; flags = r.flags i; meta_size = r.meta_size i; key = new.key } in
    rw most (ap ok fields)

-- ---- the packets

abbrev key_packet : NewHeader → Tag3
key_packet new = record { cipher = new.key.cipher; salt = new.salt; count = 0x60; wrapped = new.key.wrapped }

abbrev signature_packet : NewHeader → Tag11
signature_packet new = record { signature = new.key.signature }

abbrev pair_of : NewHeader → Pair
pair_of new = record { tag3 = key_packet new; tag11 = signature_packet new }

wrapped_long : (new : NewHeader) → IsNewHeader new → length new.key.wrapped ≡ 16
wrapped_long new h = let parts = and_parts _ _ h.usable in eqb-true (length new.key.wrapped) 16 parts.1

packet_long : (tag : ℕ) (content : List ℕ) → length content < 192 → length (packet tag content) ≡ 2 + length content
packet_long tag content h = rw (lt-ltb (length content) 192 h) (omega arith)

pair_long : (new : NewHeader) → IsNewHeader new → length (new_pair new) ≡ 55
pair_long new h =
    let key : length (tag3_body (key_packet new)) ≡ 29 = omega (arith, length-append new.salt (0x60 ∷ new.key.wrapped), h.salt, wrapped_long new h) in
    let signature : length (tag11_body console (signature_packet new)) ≡ 22 = omega (arith, h.signature) in
    omega (
      arith,
      length-append (tag3 (key_packet new)) (tag11 console (signature_packet new)),
      key,
      signature,
      packet_long TAG3 (tag3_body (key_packet new)) (omega (arith, key)),
      packet_long TAG11 (tag11_body console (signature_packet new)) (omega (arith, signature)),
    )

found : (ours : List (List ℕ)) (new : NewHeader) → IsNewHeader new → is_among new.key.signature ours ≡ true → key_among ours (pair_of new ∷ []) ≡ ok new.key
found ours new h own = rw (own, h.usable) refl

key_read : (ours : List (List ℕ)) (new : NewHeader) (behind : List ℕ) → IsNewHeader new → is_among new.key.signature ours ≡ true → begins_pair behind ≡ false
    → key_at ours (new_pair new ++ behind) ≡ ok new.key
unfolding key_at
key_read ours new behind h own ends =
    let octets = new_pair new ++ behind in
    let joined : octets ≡ tag3 (key_packet new) ++ (tag11 console (signature_packet new) ++ behind) = append_assoc (tag3 (key_packet new)) (tag11 console (signature_packet new)) behind in
    let key : IsTag3 (key_packet new) = record { salt = h.salt; wrapped = omega (arith, wrapped_long new h) } in
    let signature : IsTag11 console (signature_packet new) = record { name = omega arith; date = refl; signature = h.signature } in
    let set : IsSet (pair_of new ∷ []) octets = (console, behind, key, signature, joined, ends) in
    let pairs : pairs_from SET_OFFSET octets ≡ ok (pair_of new ∷ []) = pairs_again (pair_of new ∷ []) (length octets) SET_OFFSET octets set (omega arith) in
    ap (λ (r : Result (List Pair) BadCause). r >>= key_among ours) pairs ∙ found ours new h own

-- ---- new metadata

-- the pair, and what of the octets behind it can be read
in_front : (pair tail : List ℕ) → length pair ≡ 55 → pair ++ take 4015 tail ≡ take 4070 (pair ++ tail)
in_front pair tail long =
    let most : 4070 ≡ length pair + 4015 = omega (arith, long) in
    sym (ap (λ (n : ℕ). take n (pair ++ tail)) most ∙ take-append-add pair tail 4015)

read_again : (meta_place : MetaPlace) (ours : List (List ℕ)) (new : NewHeader) (tail : List ℕ) → IsNewHeader new → is_among new.key.signature ours ≡ true → begins_pair (take 4015 tail) ≡ false
    → header_at meta_place ours (fixed_part new ++ (new_pair new ++ tail)) ≡ ok (header_of new)
read_again meta_place ours new tail h own ends =
    let octets = fixed_part new ++ (new_pair new ++ tail) in
    let fields : HasFields octets new = fields_of new (new_pair new ++ tail) h in
    let key = key_read ours new (take 4015 tail) h own ends in
    key_found meta_place ours octets (new_pair new ++ take 4015 tail) new.key (no_fault meta_place octets new h fields) (in_front (new_pair new) tail (pair_long new h)) key ∙ size_read octets new h fields

zeros_end : (n m k : ℕ) (behind : List ℕ) → n ≡ suc m → begins_pair (take k (replicate n 0 ++ behind)) ≡ false
zeros_end n m zero behind e = refl
zeros_end n m (suc k) behind e = rw e refl

pub header_again : (new : NewHeader) (ours : List (List ℕ)) (behind : List ℕ) → IsNewHeader new → IsTrue (is_among new.key.signature ours)
    → header_at Header ours (new_metadata Header new ++ behind) ≡ ok (header_of new)
header_again new ours behind h own =
    let zeros : List ℕ = replicate (8192 - (26 + length (new_pair new))) 0 in
    let joined : new_metadata Header new ++ behind ≡ fixed_part new ++ (new_pair new ++ (zeros ++ behind)) =
    append_assoc (fixed_part new) (new_pair new ++ zeros) behind ∙ ap (λ (r : List ℕ). fixed_part new ++ r) (append_assoc (new_pair new) zeros behind) in
    let ends = zeros_end (8192 - (26 + length (new_pair new))) 8110 4015 behind (omega (arith, pair_long new h)) in
    ap (header_at Header ours) joined ∙ read_again Header ours new (zeros ++ behind) h own ends

pub attribute_again : (new : NewHeader) (ours : List (List ℕ)) → IsNewHeader new → IsTrue (is_among new.key.signature ours) → header_at Attribute ours (new_metadata Attribute new) ≡ ok (header_of new)
attribute_again new ours h own =
    let whole : fixed_part new ++ new_pair new ≡ fixed_part new ++ (new_pair new ++ []) = ap (λ (r : List ℕ). fixed_part new ++ r) (sym (append-nil (new_pair new))) in
    ap (header_at Attribute ours) whole ∙ read_again Attribute ours new [] h own refl

pub lengths : (new : NewHeader) → IsNewHeader new → (length (new_metadata Header new) ≡ 8192) × (length (new_metadata Attribute new) ≡ 81)
lengths new h =
    let pair = pair_long new h in
    let zeros : List ℕ = replicate (8192 - (26 + length (new_pair new))) 0 in (
      omega (arith, length-append (fixed_part new) (new_pair new ++ zeros), length-append (new_pair new) zeros, length-replicate {A = ℕ} (8192 - (26 + length (new_pair new))) 0, pair),
      omega (arith, length-append (fixed_part new) (new_pair new), pair),
    )

-- ---- another size

-- what a reading without a fault tells
record Tells (meta_place : MetaPlace) (ours : List (List ℕ)) (octets : List ℕ) (header : FileHeader) : Type 0 where
  none : fields_fault meta_place octets ≡ None
  key : WrappedKey
  is_key : key_at ours (packets_in octets) ≡ ok key
  fields : header_fields octets key ≡ header

ok_is : {A : Type 0} (x y : A) → ok x ≡ ok y → x ≡ y
ok_is x y e = cc

tells_from : (meta_place : MetaPlace) (ours : List (List ℕ)) (octets : List ℕ) (header : FileHeader) (f : Option BadCause) (k : Result WrappedKey BadCause)
    → fields_fault meta_place octets ≡ f → key_at ours (packets_in octets) ≡ k → unless f (k >>= header_with octets) ≡ ok header → Tells meta_place ours octets header
tells_from meta_place ours octets header (Some cause) k none is e = absurd cc
tells_from meta_place ours octets header None (Err cause) none is e = absurd cc
tells_from meta_place ours octets header None (Ok key) none is e = elim (chosen (ltb MAX_SIZE (size_in octets)) (Err (TooLarge (size_in octets))) (ok (header_fields octets key)) (ok header) e) [
  | inl t ↦ absurd (let g : Err (TooLarge (size_in octets)) ≡ ok header = t.1 in cc)
  | inr f ↦ record { none = none; key = key; is_key = is; fields = ok_is (header_fields octets key) header f.1 }
]

tells : (meta_place : MetaPlace) (ours : List (List ℕ)) (octets : List ℕ) (header : FileHeader) → header_at meta_place ours octets ≡ ok header → Tells meta_place ours octets header
unfolding header_at
tells meta_place ours octets header e = tells_from meta_place ours octets header (fields_fault meta_place octets) (key_at ours (packets_in octets)) refl refl e

whole_fields : (meta_place : MetaPlace) (octets : List ℕ) → fields_fault meta_place octets ≡ None → 26 ≤ length octets
unfolding fields_fault
whole_fields meta_place octets e = elim (cases_Bool (ltb (length octets) 26)) [
  | inl t ↦ absurd (let g : Some (Short (length octets)) ≡ None = rw t at e in cc)
  | inr f ↦ ltb-false (length octets) 26 f
]

-- the size is no part of a fault before the packets
same_fault : (meta_place : MetaPlace) (size a b c d e f g h : ℕ) (rest : List ℕ) → fields_fault meta_place (to_be_bytes w64 size ++ rest) ≡ fields_fault meta_place (a ∷ b ∷ c ∷ d ∷ e ∷ f ∷ g ∷ h ∷ rest)
unfolding fields_fault
same_fault meta_place size a b c d e f g h rest = refl

size_again : (size : ℕ) (octets : List ℕ) (key : WrappedKey) → size_in octets ≡ size → size ≤ MAX_SIZE → header_with octets key ≡ ok (record (header_fields octets key) { size = size })
size_again size octets key is le =
    let most : ltb MAX_SIZE (size_in octets) ≡ false = le-ltb MAX_SIZE (size_in octets) (omega (arith, is, le)) in
    rw most (ap (λ (n : ℕ). ok (record (header_fields octets key) { size = n })) is)

resized : (meta_place : MetaPlace) (ours : List (List ℕ)) (octets : List ℕ) (header : FileHeader) (size : ℕ) → size ≤ MAX_SIZE → 26 ≤ length octets → Tells meta_place ours octets header
    → header_at meta_place ours (to_be_bytes w64 size ++ drop 8 octets) ≡ ok (record header { size = size })
resized meta_place ours (a ∷ b ∷ c ∷ d ∷ e ∷ f ∷ g ∷ h ∷ rest) header size le long t =
    let octets : List ℕ = a ∷ b ∷ c ∷ d ∷ e ∷ f ∷ g ∷ h ∷ rest in
    let next : List ℕ = to_be_bytes w64 size ++ rest in
    let none : fields_fault meta_place next ≡ None = same_fault meta_place size a b c d e f g h rest ∙ t.none in
    key_found meta_place ours next (packets_in octets) t.key none refl t.is_key
    ∙ size_again size next t.key (from_be_bytes-to_be_bytes_8 size (omega (arith, le))) le
    ∙ ap (λ (r : FileHeader). ok (record r { size = size })) t.fields
resized meta_place ours octets header size le long t = absurd (omega (arith, long))

pub size_again_read : (meta_place : MetaPlace) (ours : List (List ℕ)) (octets : List ℕ) (header : FileHeader) (size : ℕ) → size ≤ MAX_SIZE → header_at meta_place ours octets ≡ ok header
    → header_at meta_place ours (to_be_bytes w64 size ++ drop 8 octets) ≡ ok (record header { size = size })
size_again_read meta_place ours octets header size le e =
    let t = tells meta_place ours octets header e in
    resized meta_place ours octets header size le (whole_fields meta_place octets t.none) t
