-- Worked values of coded names. The key is that of the passphrase `kelp-spade-2026` with the salt 00 11 .. 77. Another implementation gave
-- all values; the eCryptfs of Linux 6.1 wrote the lower name of `none`.
use Rattle.std.proofs.Common.{◌≡◌, ℕ, List, [], ◌∷◌, ◌++◌, codes, take, replicate, Ok, Err, refl}
use Rattle.std.specs.Int.{w64, w128, to_be_bytes}
use Rattle.md5.specs.Md5.{block_words, md5}
use Rattle.md5.specs.Md5 as md5_steps
use Rattle.cipher_model.specs.Field.{product_of_bits, power_of_bits, sub_byte, inv_sub_byte}
use Rattle.cipher_model.specs.Aes.{encrypted, decrypted, rounds, unrounds, schedule}
use Rattle.key_model.specs.SignedKey.{SignedKey}
use Rattle.names_model.specs.declared.fault.CodingFault.TheVariants.{Length, Letter}
use Rattle.names_model.specs.declared.fault.NameFault.TheVariants.{Coding, Size, Tag, WrongKey, Cipher, NoZero, Lead, EmptyName, BadName}
use Rattle.coding_model.specs.declared.constants.TheConstants.{PREFIX}
use Rattle.coding_model.specs.NameCoding.{letter, letter_value, coded, octets_of}
use Rattle.coding_model.specs.CodedName.{lead_octets, coded_name, written_name, body_of, behind_lead, packet_octets, upper_name}

abbrev ours : List ℕ
ours = to_be_bytes w64 0x4b8ecbaf2bdd6851

-- the octets of the name key
abbrev key_octets : List ℕ
key_octets =
    to_be_bytes w128 0x0e5c29beca5cf2a3aa5b5dc19e60c35a ++ to_be_bytes w128 0x5a8001e0c9dc5ced8a3084aa46b5bbd8
    ++ to_be_bytes w128 0x6a45cb27671350b1397bde7e560b476e ++ to_be_bytes w128 0x43a59113d6494900016401bc07c49d13

abbrev key : SignedKey
key = record { signature = ours; key = key_octets }

abbrev lower : List ℕ → List ℕ
lower letters = PREFIX ++ letters

-- ---- the written name

lead : lead_octets key_octets ≡ to_be_bytes w128 0xaf4ba5bae504dfce18a83f2c7cba35b4 ++ to_be_bytes w128 0xd28c5fb78c37c292997b017d91cad788
unfolding md5 block_words md5_steps.rounds md5_steps.compress md5_steps.hash_after md5_steps.digest_bytes
lead = refl

linux_name : written_name key (codes "none") ≡ lower (codes "FWZ9Xgij8xpcIET1BT1sVYFpWAbT0vwPx9pE-4n-syPsWI4SItkDoQYmC---")
unfolding coded_name letter coded md5 block_words md5_steps.rounds md5_steps.compress md5_steps.hash_after md5_steps.digest_bytes product_of_bits power_of_bits sub_byte rounds schedule encrypted
linux_name = refl

-- ---- what a lower name stands for

linux_name_read : upper_name key (lower (codes "FWZ9Xgij8xpcIET1BT1sVYFpWAbT0vwPx9pE-4n-syPsWI4SItkDoQYmC---")) ≡ Ok (codes "none")
unfolding packet_octets letter_value octets_of product_of_bits power_of_bits sub_byte inv_sub_byte unrounds schedule decrypted
linux_name_read = refl

-- the lead is 28 times the letter A
free_lead : upper_name key (lower (codes "FWZ9Xgij8xpcIES-fglIT8nz2jxz179jxFOskufnLe0PoORU2vhX7.dRUk--")) ≡ Ok (codes "foo")
unfolding packet_octets letter_value octets_of product_of_bits power_of_bits sub_byte inv_sub_byte unrounds schedule decrypted
free_lead = refl

-- behind such a lead stands `..`
bad_name : upper_name key (lower (codes "FWZ9Xgij8xpcIES-fglIT8nz2jxz179jxFOsIHlTTlvZ82XPo228unKW8U--")) ≡ Err BadName
unfolding packet_octets letter_value octets_of product_of_bits power_of_bits sub_byte inv_sub_byte unrounds schedule decrypted
bad_name = refl

no_prefix : upper_name key (codes "ECRYPTFS_FNEK_ENCRYPTED") ≡ Ok (codes "ECRYPTFS_FNEK_ENCRYPTED")
no_prefix = refl

no_prefix_bad : upper_name key (codes "a/b") ≡ Err BadName
no_prefix_bad = refl

cut_group : upper_name key (lower (codes "F")) ≡ Err (Coding (Length 1))
unfolding packet_octets letter_value octets_of
cut_group = refl

no_letter : upper_name key (lower (codes "FU-!")) ≡ Err (Coding (Letter 3 0x21))
unfolding packet_octets letter_value octets_of
no_letter = refl

no_octet : upper_name key PREFIX ≡ Err Size
unfolding packet_octets letter_value octets_of
no_octet = refl

another_tag : upper_name key (lower (codes "0000")) ≡ Err (Tag 8)
unfolding packet_octets letter_value octets_of
another_tag = refl

no_length : upper_name key (lower (codes "FU--")) ≡ Err Size
unfolding packet_octets letter_value octets_of
no_length = refl

-- a signature with another last octet
another_key : upper_name key (lower (codes "FWZ9Xgij8xpcI-S-fglIT8nz2jxz179jxFOskufnLe0PoORU2vhX7.dRUk--")) ≡ Err (WrongKey (take 7 ours ++ 0x50 ∷ []))
unfolding packet_octets letter_value octets_of
another_key = refl

another_cipher : upper_name key (lower (codes "FWZ9Xgij8xpcIEW-fglIT8nz2jxz179jxFOskufnLe0PoORU2vhX7.dRUk--")) ≡ Err (Cipher 8)
unfolding packet_octets letter_value octets_of
another_cipher = refl

-- ---- sizes, of a body of zeros

abbrev whole : ℕ → List ℕ → List ℕ
whole n behind = 0x46 ∷ n ∷ (replicate n 0 ++ behind)

two_blocks : body_of (whole 41 []) ≡ Ok (replicate 41 0)
two_blocks = refl

two_zeros : body_of (whole 57 (0 ∷ 0 ∷ [])) ≡ Ok (replicate 57 0)
two_zeros = refl

three_zeros : body_of (whole 41 (0 ∷ 0 ∷ 0 ∷ [])) ≡ Err Size
three_zeros = refl

no_zero_bits : body_of (whole 41 (0 ∷ 1 ∷ [])) ≡ Err Size
no_zero_bits = refl

one_block : body_of (whole 25 []) ≡ Err Size
one_block = refl

part_of_block : body_of (whole 42 []) ≡ Err Size
part_of_block = refl

cut_body : body_of (0x46 ∷ 41 ∷ replicate 40 0) ≡ Err Size
cut_body = refl

refused_length : body_of (0x46 ∷ 0xe0 ∷ replicate 41 0) ≡ Err Size
refused_length = refl

-- ---- plain texts

no_zero : behind_lead (replicate 32 1) ≡ Err NoZero
no_zero = refl

short_lead : behind_lead (replicate 15 1 ++ 0 ∷ replicate 16 2) ≡ Err (Lead 15)
short_lead = refl

least_lead : behind_lead (replicate 16 1 ++ 0 ∷ replicate 15 0) ≡ Ok (replicate 15 0)
least_lead = refl

empty_name : behind_lead (replicate 31 1 ++ 0 ∷ []) ≡ Err EmptyName
empty_name = refl
