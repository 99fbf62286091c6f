-- Worked values of the coding of octets as letters.
use Rattle.std.proofs.Common.{◌≡◌, [], ◌∷◌, codes, Ok, Err, refl}
use Rattle.names_model.specs.declared.fault.CodingFault.TheVariants.{Length, Letter}
use Rattle.coding_model.specs.NameCoding.{letter, letter_value, coded, octets_of, decoded}

one_octet : coded (0x46 ∷ []) ≡ codes "FU--"
unfolding letter letter_value coded octets_of
one_octet = refl

zeros : coded (0 ∷ 0 ∷ 0 ∷ []) ≡ codes "----"
unfolding letter letter_value coded octets_of
zeros = refl

ones : coded (0xff ∷ 0xff ∷ 0xff ∷ []) ≡ codes "zzzz"
unfolding letter letter_value coded octets_of
ones = refl

none : coded [] ≡ []
unfolding letter letter_value coded octets_of
none = refl

five_octets : coded (0x00 ∷ 0x11 ∷ 0x22 ∷ 0xee ∷ 0xff ∷ []) ≡ codes "-.2Wvjw-"
unfolding letter letter_value coded octets_of
five_octets = refl

read_octet : decoded (codes "FU--") ≡ Ok (0x46 ∷ 0 ∷ 0 ∷ [])
unfolding letter letter_value coded octets_of
read_octet = refl

read_tag_8 : decoded (codes "0000") ≡ Ok (0x08 ∷ 0x20 ∷ 0x82 ∷ [])
unfolding letter letter_value coded octets_of
read_tag_8 = refl

read_none : decoded [] ≡ Ok []
unfolding letter letter_value coded octets_of
read_none = refl

cut_group : decoded (codes "abc") ≡ Err (Length 3)
unfolding letter letter_value coded octets_of
cut_group = refl

no_letter : decoded (codes "FU-!") ≡ Err (Letter 3 0x21)
unfolding letter letter_value coded octets_of
no_letter = refl

-- the first of two, and behind a letter
first_no_letter : decoded (codes "F_-!") ≡ Err (Letter 1 0x5f)
unfolding letter letter_value coded octets_of
first_no_letter = refl

length_first : decoded (codes "F!") ≡ Err (Length 2)
unfolding letter letter_value coded octets_of
length_first = refl
