-- What is known of a set or of metadata that is read: its first packet is a tag 3 packet, so that reading it took memory, and its key has a signature of ours.
use Rattle.std.proofs.Common.{◌≡◌, ℕ, ◌+◌, Bool, true, false, cond, List, [], ◌∷◌, length, drop, Option, Some, None, Result, Ok, Err, refl, sym, ap, subst, inl, inr}
use Rattle.std.specs.Prelude.{IsSome}
use Rattle.std.specs.List.{find}
use Rattle.std.proofs.lemmas.Bool.{cases_Bool}
use Rattle.lower_model.specs.declared.meta_place.MetaPlace.{MetaPlace}
use Rattle.lower_model.specs.declared.meta_place.MetaPlace.TheVariants.{Header, Attribute}
use Rattle.answer_model.specs.Answer.{◌>>=◌}
use Rattle.answer_model.proofs.Binds.{bind_ok, ok_is}
use Rattle.packet_model.specs.declared.cause.BadCause.{BadCause}
use Rattle.packet_model.specs.declared.cause.BadCause.TheVariants.{Cipher, NoPacket}
use Rattle.packet_model.specs.declared.layout.TheConstants.{SET_OFFSET}
use Rattle.packet_model.specs.declared.packet.Pair.{Pair}
use Rattle.packet_model.specs.declared.packet.Tag3.{Tag3}
use Rattle.packet_model.specs.FrontPacket.{tag3_at}
use Rattle.packet_model.specs.PacketSet.{WrappedKey, SetTakesMemory, begins_pair, pair_at, pairs_at, pairs_from, key_among, key_at, is_among, is_usable, usable_key, key_if_found, first_signature, first_or_none}
use Rattle.packet_model.specs.Metadata.{FileHeader, FileMetadata, HeaderTakesMemory, FileTakesMemory, fields_fault, packets_in, header_with, unless, header_at, with_body, metadata_in, if_any, metadata}
use Rattle.packet_model.proofs.Found.{chosen, some}
use Rattle.packet_model.proofs.Sets.{ok, pair_begins}

set_takes : (octets : List ℕ) (x : Tag3 × ℕ) → tag3_at octets ≡ some x → SetTakesMemory octets
set_takes octets x e = subst (λ (o : Option (Tag3 × ℕ)). IsSome o) (sym e) refl

-- a pair that is read takes memory
pub pair_takes_memory : (offset : ℕ) (octets : List ℕ) (x : Pair × ℕ) → pair_at offset octets ≡ ok x → SetTakesMemory octets
pair_takes_memory offset octets x e = let p = pair_begins offset octets x e in set_takes octets p.0 p.1

-- a choice whose test holds
yes : {A : Type 0} (b : Bool) (x y z : Result A BadCause) → b ≡ true → cond b x y ≡ z → x ≡ z
yes true x y z b e = e
yes false x y z b e = absurd cc

pairs_take_memory : (offset : ℕ) (octets : List ℕ) (pairs : List Pair) → begins_pair octets ≡ true → pairs_from offset octets ≡ ok pairs → SetTakesMemory octets
unfolding pairs_at
pairs_take_memory offset [] pairs b e = absurd cc
pairs_take_memory offset (x ∷ xs) pairs b e =
    let others : Pair × ℕ → Result (List Pair) BadCause = λ f. pairs_at (length xs) (offset + f.1) (drop f.1 (x ∷ xs)) >>= λ ps. Ok (f.0 ∷ ps) in
    let first = bind_ok (pair_at offset (x ∷ xs)) others pairs (yes (begins_pair (x ∷ xs)) (pair_at offset (x ∷ xs) >>= others) (Ok []) (ok pairs) b e) in
    pair_takes_memory offset (x ∷ xs) first.0 first.1

pub key_takes_memory : (ours : List (List ℕ)) (octets : List ℕ) (key : WrappedKey) → key_at ours octets ≡ ok key → SetTakesMemory octets
unfolding key_at
key_takes_memory ours octets key e = elim (chosen (begins_pair octets) (pairs_from SET_OFFSET octets >>= key_among ours) (Err NoPacket) (ok key) e) [
  | inl t ↦ let pairs = bind_ok (pairs_from SET_OFFSET octets) (key_among ours) key t.1 in pairs_take_memory SET_OFFSET octets pairs.0 t.0 pairs.1
  | inr f ↦ absurd (let g : Err NoPacket ≡ ok key = f.1 in cc)
]

usable_is : (p : Pair) (b : Bool) (key : WrappedKey) (cause : BadCause) → cond b (ok (record { signature = p.tag11.signature; cipher = p.tag3.cipher; wrapped = p.tag3.wrapped })) (Err cause) ≡ ok key → p.tag11.signature ≡ key.signature
usable_is p true key cause e = ap (λ (k : WrappedKey). k.signature) (ok_is (record { signature = p.tag11.signature; cipher = p.tag3.cipher; wrapped = p.tag3.wrapped }) key e)
usable_is p false key cause e = absurd cc

found_is_ours : (ours : List (List ℕ)) (pairs : List Pair) (theirs first : List ℕ) (key : WrappedKey) → key_if_found theirs first (find (λ p. is_among p.tag11.signature ours) pairs) ≡ ok key → is_among key.signature ours ≡ true
found_is_ours ours [] theirs first key e = absurd cc
found_is_ours ours (p ∷ pairs) theirs first key e = elim (cases_Bool (is_among p.tag11.signature ours)) [
  | inl t ↦
      let usable : usable_key p ≡ ok key = rw t at e in
      subst (λ (s : List ℕ). is_among s ours ≡ true) (usable_is p (is_usable p.tag3.cipher (length p.tag3.wrapped)) key (Cipher p.tag3.cipher) usable) t
  | inr f ↦ found_is_ours ours pairs theirs first key (rw f at e)
]

-- the key of a set has a signature of ours
pub key_is_ours : (ours : List (List ℕ)) (octets : List ℕ) (key : WrappedKey) → key_at ours octets ≡ ok key → is_among key.signature ours ≡ true
unfolding key_at
key_is_ours ours octets key e = elim (chosen (begins_pair octets) (pairs_from SET_OFFSET octets >>= key_among ours) (Err NoPacket) (ok key) e) [
  | inl t ↦
      let pairs = bind_ok (pairs_from SET_OFFSET octets) (key_among ours) key t.1 in
      found_is_ours ours pairs.0 (first_signature pairs.0) (first_or_none ours) key pairs.2
  | inr f ↦ absurd (let g : Err NoPacket ≡ ok key = f.1 in cc)
]

-- what reading metadata tells where it doesn't fail
pub unless_ok : {A : Type 0} (fault : Option BadCause) (read : Result A BadCause) (x : A) → unless fault read ≡ ok x → (fault ≡ None) × (read ≡ ok x)
unless_ok None read x e = (refl, e)
unless_ok (Some cause) read x e = absurd cc

pub header_takes_memory : (meta_place : MetaPlace) (ours : List (List ℕ)) (octets : List ℕ) (header : FileHeader) → header_at meta_place ours octets ≡ ok header → HeaderTakesMemory meta_place octets
unfolding header_at
header_takes_memory meta_place ours octets header e =
    let fields = unless_ok (fields_fault meta_place octets) (key_at ours (packets_in octets) >>= header_with octets) header e in
    let key = bind_ok (key_at ours (packets_in octets)) (header_with octets) header fields.1 in
    record { no_fault = fields.0; set = key_takes_memory ours (packets_in octets) key.0 key.1 }

some_ok : (read : Result FileMetadata BadCause) (found : FileMetadata) → if_any read ≡ Ok (Some found) → read ≡ ok found
some_ok (Ok x) found e = cc
some_ok (Err cause) found e = absurd cc

in_takes_memory : (meta_place : MetaPlace) (ours : List (List ℕ)) (octets body : List ℕ) (found : FileMetadata) → if_any (metadata_in meta_place ours octets body) ≡ Ok (Some found) → HeaderTakesMemory meta_place octets
in_takes_memory meta_place ours octets body found e =
    let header = bind_ok (header_at meta_place ours octets) (with_body meta_place body) found (some_ok (metadata_in meta_place ours octets body) found e) in
    header_takes_memory meta_place ours octets header.0 header.1

-- where a file is neither empty nor bad, its metadata took memory
pub file_takes_memory : (ours : List (List ℕ)) (body : List ℕ) (attribute : Option (List ℕ)) (found : FileMetadata) → metadata ours body attribute ≡ Ok (Some found) → FileTakesMemory body attribute
file_takes_memory ours body (Some attribute) found e = in_takes_memory Attribute ours attribute body found e
file_takes_memory ours [] None found e = absurd cc
file_takes_memory ours (first ∷ rest) None found e = in_takes_memory Header ours (first ∷ rest) (first ∷ rest) found e
