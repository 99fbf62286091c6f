-- The metadata of a file looks at no octet of its body from meta_place 4,096 on.
use Rattle.std.proofs.Common.{◌≡◌, ℕ, ◌+◌, ◌-◌, ◌*◌, ◌%◌, ◌^◌, ◌≤◌, false, List, [], ◌∷◌, length, take, drop, None, Result, Ok, Err, refl, sym, ap, ◌∙◌, inl, inr, arith}
use Rattle.std.specs.Prelude.{slice_index, nat_lt, if◌then◌else◌}
use Rattle.std.specs.Int.{w16, w32, w64, from_be_bytes}
use Rattle.std.proofs.lemmas.Bool.{cases_lt, le-ltb}
use Rattle.std.proofs.lemmas.List.{take_all, take-take, get_or-take, length-take, drop-take}
use Rattle.lower_model.specs.declared.meta_place.MetaPlace.{MetaPlace}
use Rattle.lower_model.specs.declared.meta_place.MetaPlace.TheVariants.{Header}
use Rattle.packet_model.specs.declared.cause.BadCause.{BadCause}
use Rattle.packet_model.specs.declared.cause.BadCause.TheVariants.{TooLarge}
use Rattle.packet_model.specs.declared.layout.TheConstants.{MAX_SIZE}
use Rattle.answer_model.specs.Answer.{◌>>=◌}
use Rattle.packet_model.specs.PacketSet.{WrappedKey, key_at}
use Rattle.packet_model.specs.Metadata.{FileHeader, size_in, mark_in, flags_in, meta_size_in, packets_in, fields_fault, header_with, unless, header_at, metadata, metadata_in, with_body, if_any}
use Rattle.xattr_meta.specs.FileMeta.{IsHead}

-- a part of the first 4,096 octets
same_part : (octets : List ℕ) (from n : ℕ) → from + n ≤ 4096 → take n (drop from (take 4096 octets)) ≡ take n (drop from octets)
same_part octets from n within =
    let all : from + (4096 - from) ≡ 4096 = omega arith in
    ap (λ (k : ℕ). take n (drop from (take k octets))) (sym all)
    ∙ ap (λ (xs : List ℕ). take n xs) (drop-take from (4096 - from) octets)
    ∙ take-take n (4096 - from) (drop from octets) (omega arith)

same_fault : (meta_place : MetaPlace) (octets : List ℕ) → 4096 ≤ length octets → fields_fault meta_place (take 4096 octets) ≡ fields_fault meta_place octets
unfolding fields_fault
same_fault meta_place octets long =
    let a : nat_lt (length (take 4096 octets)) 26 ≡ false = le-ltb (length (take 4096 octets)) 26 (omega (arith, length-take 4096 octets)) in
    let b : nat_lt (length octets) 26 ≡ false = le-ltb (length octets) 26 (omega arith) in
    let v : slice_index (take 4096 octets) 16 ≡ slice_index octets 16 = get_or-take 4096 octets 16 0 (omega arith) in
    rw (a, b, v, same_part octets 8 4 (omega arith), same_part octets 12 4 (omega arith), same_part octets 16 4 (omega arith), same_part octets 20 4 (omega arith), same_part octets 24 2 (omega arith)) refl

-- the header of these values
sized_by : WrappedKey → ℕ → ℕ → ℕ → ℕ → Result FileHeader BadCause
sized_by key size mark flags meta_size = if nat_lt MAX_SIZE size then Err (TooLarge size) else Ok (record { size = size; mark = mark; flags = flags; meta_size = meta_size; key = key })

same_header_with : (octets : List ℕ) (key : WrappedKey) → header_with (take 4096 octets) key ≡ header_with octets key
unfolding sized_by
same_header_with octets key =
    let size : size_in (take 4096 octets) ≡ size_in octets = ap (λ (xs : List ℕ). from_be_bytes w64 xs) (take-take 8 4096 octets (omega arith)) in
    let mark : mark_in (take 4096 octets) ≡ mark_in octets = ap (λ (xs : List ℕ). from_be_bytes w32 xs) (same_part octets 8 4 (omega arith)) in
    let flags : flags_in (take 4096 octets) ≡ flags_in octets = ap (λ (xs : List ℕ). from_be_bytes w32 xs % 2 ^ 24) (same_part octets 16 4 (omega arith)) in
    let extents = same_part octets 20 4 (omega arith) in
    let count = same_part octets 24 2 (omega arith) in
    let meta_size : meta_size_in (take 4096 octets) ≡ meta_size_in octets = λ t. from_be_bytes w32 (extents t) * from_be_bytes w16 (count t) in
    λ t. sized_by key (size t) (mark t) (flags t) (meta_size t)

same_header : (meta_place : MetaPlace) (ours : List (List ℕ)) (octets : List ℕ) → 4096 ≤ length octets → header_at meta_place ours (take 4096 octets) ≡ header_at meta_place ours octets
unfolding header_at
same_header meta_place ours octets long =
    let fault = same_fault meta_place octets long in
    let packets : packets_in (take 4096 octets) ≡ packets_in octets = same_part octets 26 4070 (omega arith) in
    λ t. unless (fault t) (key_at ours (packets t) >>= λ key. same_header_with octets key t)

pub first_octets : (meta_place : MetaPlace) (ours : List (List ℕ)) (octets : List ℕ) → header_at meta_place ours (take 4096 octets) ≡ header_at meta_place ours octets
first_octets meta_place ours octets = elim (cases_lt (length octets) 4096) [
  | inl short ↦ ap (λ (xs : List ℕ). header_at meta_place ours xs) (take_all 4096 octets (omega arith))
  | inr long ↦ same_header meta_place ours octets long
]

-- the metadata of a file without the attribute, by the head of its body
pub at_head : (ours : List (List ℕ)) (head body : List ℕ) (len : ℕ) → IsHead head None len body → (len ≡ 0 → ⊥) → metadata ours body None ≡ if_any (metadata_in Header ours head body)
at_head ours head [] len is some = absurd (some (sym is.long))
at_head ours head (first ∷ rest) len is some =
    ap (λ (r : Result FileHeader BadCause). if_any (r >>= with_body Header (first ∷ rest)))
    (sym (first_octets Header ours (first ∷ rest)) ∙ ap (λ (xs : List ℕ). header_at Header ours xs) (sym (is.same refl)) ∙ first_octets Header ours head)
