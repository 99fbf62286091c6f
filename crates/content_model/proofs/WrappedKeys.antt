-- The wrapped key in metadata of octets is a block, with the signature of the one key.
use Rattle.std.proofs.Common.{◌≡◌, ℕ, ◌-◌, true, false, List, [], ◌∷◌, ◌++◌, length, drop, Err, inl, inr, subst, arith}
use Rattle.std.specs.List.{find}
use Rattle.std.specs.Str.{bytes_eq}
use Rattle.std.proofs.lemmas.Bool.{cases_Bool, and_parts, eqb-true}
use Rattle.octet_model.specs.Octets.{AreOctets}
use Rattle.octet_model.proofs.Octets.{AreOctets-front, AreOctets-back, AreOctets-take, AreOctets-drop}
use Rattle.lower_model.specs.declared.meta_place.MetaPlace.{MetaPlace}
use Rattle.answer_model.specs.Answer.{◌>>=◌}
use Rattle.answer_model.proofs.Binds.{bind_ok, ok_is}
use Rattle.cipher_model.specs.Aes.{IsBlock}
use Rattle.packet_model.specs.declared.cause.BadCause.TheVariants.{Cipher, NoPacket, TooLarge}
use Rattle.packet_model.specs.declared.layout.TheConstants.{SET_OFFSET}
use Rattle.packet_model.specs.declared.packet.Pair.{Pair}
use Rattle.packet_model.specs.declared.packet.Tag3.{Tag3}
use Rattle.packet_model.specs.Length.{length_octets}
use Rattle.packet_model.specs.Packet.{tag3, tag3_body, tag11}
use Rattle.packet_model.specs.PacketSet.{WrappedKey, IsSet, begins_pair, pairs_from, key_among, key_at, is_among, is_usable, usable_key, key_if_found, first_signature, first_or_none}
use Rattle.packet_model.specs.Metadata.{FileHeader, fields_fault, header_fields, header_with, header_at, packets_in, size_in}
use Rattle.packet_model.proofs.Found.{chosen}
use Rattle.packet_model.proofs.Headers.{key_is_ours, unless_ok}
use Rattle.packet_model.proofs.Sets.{ok, pairs_take}

wrapped_octets : (p : Tag3) (rest : List ℕ) → AreOctets (tag3 p ++ rest) → AreOctets p.wrapped
wrapped_octets p rest fits =
    let packet : AreOctets (tag3 p) = AreOctets-front (tag3 p) rest fits in
    let body : AreOctets (tag3_body p) = AreOctets-back (length_octets (length (tag3_body p))) (tag3_body p) packet.1 in
    (AreOctets-back p.salt (p.count ∷ p.wrapped) body.1.1.1.1).1

abbrev wrapped_in : Pair → WrappedKey
wrapped_in p = record { signature = p.tag11.signature; cipher = p.tag3.cipher; wrapped = p.tag3.wrapped }

usable_block : (p : Pair) (key : WrappedKey) → AreOctets p.tag3.wrapped → usable_key p ≡ ok key → IsBlock key.wrapped
usable_block p key fits e = elim (chosen (is_usable p.tag3.cipher (length p.tag3.wrapped)) (ok (wrapped_in p)) (Err (Cipher p.tag3.cipher)) (ok key) e) [
  | inl t ↦
      let long = eqb-true (length p.tag3.wrapped) 16 (and_parts _ _ t.0).1 in
      subst (λ (k : WrappedKey). IsBlock k.wrapped) (ok_is (wrapped_in p) key t.1) (record { long = long; bytes = fits })
  | inr f ↦ absurd (let g : Err (Cipher p.tag3.cipher) ≡ ok key = f.1 in cc)
]

found_block : (ours : List (List ℕ)) (pairs : List Pair) (octets theirs first : List ℕ) (key : WrappedKey) → AreOctets octets → IsSet pairs octets
    → key_if_found theirs first (find (λ p. is_among p.tag11.signature ours) pairs) ≡ ok key → IsBlock key.wrapped
found_block ours [] octets theirs first key fits is e = absurd cc
found_block ours (p ∷ pairs) octets theirs first key fits is e =
    let all : AreOctets (tag3 p.tag3 ++ (tag11 is.0 p.tag11 ++ is.1)) = subst AreOctets is.4 fits in
    elim (cases_Bool (is_among p.tag11.signature ours)) [
      | inl t ↦
          let usable : usable_key p ≡ ok key = rw t at e in
          usable_block p key (wrapped_octets p.tag3 (tag11 is.0 p.tag11 ++ is.1) all) usable
      | inr f ↦
          let behind : AreOctets is.1 = AreOctets-back (tag11 is.0 p.tag11) is.1 (AreOctets-back (tag3 p.tag3) (tag11 is.0 p.tag11 ++ is.1) all) in
          found_block ours pairs is.1 theirs first key behind is.5 (rw f at e)
    ]

key_block : (ours : List (List ℕ)) (octets : List ℕ) (key : WrappedKey) → AreOctets octets → key_at ours octets ≡ ok key → IsBlock key.wrapped
unfolding key_at
key_block ours octets key fits e = elim (chosen (begins_pair octets) (pairs_from SET_OFFSET octets >>= key_among ours) (Err NoPacket) (ok key) e) [
  | inl t ↦
      let pairs = bind_ok (pairs_from SET_OFFSET octets) (key_among ours) key t.1 in
      found_block ours pairs.0 octets (first_signature pairs.0) (first_or_none ours) key fits (pairs_take (length octets) SET_OFFSET octets pairs.0 fits (omega arith) pairs.1) pairs.2
  | inr f ↦ absurd (let g : Err NoPacket ≡ ok key = f.1 in cc)
]

header_key : (octets : List ℕ) (key : WrappedKey) (header : FileHeader) → header_with octets key ≡ ok header → key ≡ header.key
header_key octets key header e = elim (chosen _ (Err (TooLarge (size_in octets))) (ok (header_fields octets key)) (ok header) e) [
  | inl t ↦ absurd (let g : Err (TooLarge (size_in octets)) ≡ ok header = t.1 in cc)
  | inr f ↦ let is : header_fields octets key ≡ header = ok_is (header_fields octets key) header f.1 in λ t. (is t).key
]

one_of : (s t : List ℕ) → is_among t (s ∷ []) ≡ true → bytes_eq s t ≡ true
one_of s t e = elim (cases_Bool (bytes_eq s t)) [ inl y ↦ y | inr n ↦ absurd (let g : false ≡ true = rw n at e in cc) ]

-- this wrapped key is a block, and has this signature
pub record IsWrappedBy (signature : List ℕ) (key : WrappedKey) : Type 0 where
  pub block : IsBlock key.wrapped
  pub ours : bytes_eq signature key.signature ≡ true

pub wrapped_by : (place : MetaPlace) (signature octets : List ℕ) (header : FileHeader) → AreOctets octets → header_at place (signature ∷ []) octets ≡ ok header → IsWrappedBy signature header.key
unfolding header_at
wrapped_by place signature octets header fits e =
    let fields = unless_ok (fields_fault place octets) (key_at (signature ∷ []) (packets_in octets) >>= header_with octets) header e in
    let key = bind_ok (key_at (signature ∷ []) (packets_in octets)) (header_with octets) header fields.1 in
    let packets : AreOctets (packets_in octets) = AreOctets-take (4096 - 26) (drop 26 octets) (AreOctets-drop 26 octets fits) in
    subst (λ (k : WrappedKey). IsWrappedBy signature k) (header_key octets key.0 header key.2) (record {
      block = key_block (signature ∷ []) (packets_in octets) key.0 packets key.1;
      ours = one_of signature key.0.signature (key_is_ours (signature ∷ []) (packets_in octets) key.0 key.1);
    })
