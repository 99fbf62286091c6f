-- One reader behind another.
use Rattle.std.proofs.Common.{◌≡◌, ℕ, List, ◌++◌, ◌∷◌, take, drop, length, Option, Some, None, Result, Ok, Err, refl, sym, ap, ◌∙◌, arith}
use Rattle.std.specs.Prelude.{nat_eq, true}
use Rattle.std.specs.List.{starts_with}
use Rattle.answer_model.specs.Answer.{◌>>=◌, FailsAs}
use Rattle.names_model.specs.declared.fault.NameFault.{NameFault}
use Rattle.key_model.specs.SignedKey.{SignedKey}
use Rattle.packet_model.specs.declared.layout.TheConstants.{AES_128}
use Rattle.packet_model.specs.Packet.{packet}
use Rattle.coding_model.specs.declared.constants.TheConstants.{PREFIX, TAG70}
use Rattle.coding_model.specs.NameCoding.{coded, decoded}
use Rattle.coding_model.specs.CodedName.{name_cipher_key, ecb_encrypted, ecb_decrypted, lead_length, lead_octets, octets_coded, body_of, cipher_of, behind_lead, coded_name, written_name, packet_octets}
use Rattle.name_tag70.specs.Reading.{cipher_in_packet, octets_in_cipher, octets_in_packet, octets_in_letters}

-- a fault stays one when more is done with what there would be
pub fails_on : (fault : Option NameFault) (r : Result (List ℕ) NameFault) (f : List ℕ → Result (List ℕ) NameFault) (Taken : Type 0) → FailsAs fault Taken r → FailsAs fault Taken (r >>= f)
fails_on None r f Taken h = h
fails_on (Some fault) r f Taken h = ap (λ (x : Result (List ℕ) NameFault). x >>= f) h

in_turn : (r : Result (List ℕ) NameFault) (f g : List ℕ → Result (List ℕ) NameFault) → (r >>= λ x. f x >>= g) ≡ ((r >>= f) >>= g)
in_turn (Ok x) f g = refl
in_turn (Err fault) f g = refl

pub packet_octets_are : (key : SignedKey) (letters : List ℕ) → packet_octets key letters ≡ octets_in_letters (name_cipher_key key) key.signature letters
unfolding packet_octets
packet_octets_are key letters =
    λ t. octets_coded (decoded letters) >>= λ octets. in_turn (body_of octets) (cipher_of key.signature) (octets_in_cipher (name_cipher_key key)) t

pub written_from : (key : SignedKey) (octets keys lead signature : List ℕ) → signature ≡ key.signature → keys ≡ name_cipher_key key → lead ≡ lead_octets key.key
    → PREFIX ++ coded (packet TAG70 (signature ++ AES_128 ∷ ecb_encrypted keys (take (lead_length octets) lead ++ 0 ∷ octets))) ≡ written_name key octets
unfolding coded_name
written_from key octets keys lead signature s k l =
    λ t. PREFIX ++ coded (packet TAG70 (s t ++ AES_128 ∷ ecb_encrypted (k t) (take (lead_length octets) (l t) ++ 0 ∷ octets)))
