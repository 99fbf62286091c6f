-- Worked values of lengths, packets, sets of pairs and headers.
use Rattle.std.proofs.Common.{◌≡◌, ℕ, ◌++◌, List, [], ◌∷◌, take, Some, None, Ok, Err, refl}
use Rattle.packet_model.specs.declared.length.LengthFault.TheVariants.{Cut, First}
use Rattle.packet_model.specs.declared.cause.BadCause.TheVariants as causes
use Rattle.packet_model.specs.declared.packet.Tag3.{Tag3}
use Rattle.packet_model.specs.declared.packet.Tag11.{Tag11}
use Rattle.lower_model.specs.declared.meta_place.MetaPlace.TheVariants.{Header, Attribute}
use Rattle.packet_model.specs.Length.{length_octets, length_at}
use Rattle.packet_model.specs.Packet.{tag3, tag11, console}
use Rattle.packet_model.specs.FrontPacket.{body_at, tag3_at, tag11_at}
use Rattle.packet_model.specs.PacketSet.{WrappedKey, pair_at, pairs_at, key_at}
use Rattle.packet_model.specs.Metadata.{NewHeader, FileHeader, fields_fault, header_at, new_metadata}

length_191 : length_octets 191 ≡ 0xbf ∷ []
length_191 = refl

length_192 : length_octets 192 ≡ 0xc0 ∷ 0 ∷ []
length_192 = refl

length_8383 : length_octets 8383 ≡ 0xdf ∷ 0xff ∷ []
length_8383 = refl

read_8383 : length_at (0xdf ∷ 0xff ∷ 7 ∷ []) ≡ Ok (8383, 2)
read_8383 = refl

first_224 : length_at (0xe0 ∷ 0 ∷ []) ≡ Err (First 224)
first_224 = refl

cut : length_at (0xc0 ∷ []) ≡ Err Cut
cut = refl

-- the key of FIPS 197, C.1, wrapped
abbrev wrapped : List ℕ
wrapped = 0x69 ∷ 0xc4 ∷ 0xe0 ∷ 0xd8 ∷ 0x6a ∷ 0x7b ∷ 0x04 ∷ 0x30 ∷ 0xd8 ∷ 0xcd ∷ 0xb7 ∷ 0x80 ∷ 0x70 ∷ 0xb4 ∷ 0xc5 ∷ 0x5a ∷ []

abbrev salt : List ℕ
salt = 0x00 ∷ 0x11 ∷ 0x22 ∷ 0x33 ∷ 0x44 ∷ 0x55 ∷ 0x66 ∷ 0x77 ∷ []

abbrev key_packet : Tag3
key_packet = record { cipher = 7; salt = salt; count = 0x60; wrapped = wrapped }

abbrev key_octets : List ℕ
key_octets = 0x8c ∷ 0x1d ∷ 0x04 ∷ 0x07 ∷ 0x03 ∷ 0x01 ∷ (salt ++ 0x60 ∷ wrapped)

key_spelled : tag3 key_packet ≡ key_octets
key_spelled = refl

key_read : tag3_at (key_octets ++ 9 ∷ []) ≡ Some (key_packet, 31)
unfolding tag3_at body_at
key_read = refl

key_cut : tag3_at (take 30 key_octets) ≡ None
unfolding tag3_at body_at
key_cut = refl

abbrev signature : List ℕ
signature = 1 ∷ 2 ∷ 3 ∷ 4 ∷ 5 ∷ 6 ∷ 7 ∷ 8 ∷ []

abbrev signature_packet : Tag11
signature_packet = record { signature = signature }

abbrev signature_octets : List ℕ
signature_octets = 0xed ∷ 0x16 ∷ 0x62 ∷ 0x08 ∷ 0x5f ∷ 0x43 ∷ 0x4f ∷ 0x4e ∷ 0x53 ∷ 0x4f ∷ 0x4c ∷ 0x45 ∷ 0 ∷ 0 ∷ 0 ∷ 0 ∷ signature

signature_spelled : tag11 console signature_packet ≡ signature_octets
signature_spelled = refl

signature_read : tag11_at (signature_octets ++ 9 ∷ []) ≡ Some (signature_packet, 24)
unfolding tag11_at body_at
signature_read = refl

signature_cut : tag11_at (take 23 signature_octets) ≡ None
unfolding tag11_at body_at
signature_cut = refl

abbrev key : WrappedKey
key = record { signature = signature; cipher = 7; wrapped = wrapped }

abbrev pair_octets : List ℕ
pair_octets = key_octets ++ signature_octets

key_of_pair : key_at (signature ∷ []) (pair_octets ++ 0 ∷ 0x8c ∷ []) ≡ Ok key
unfolding key_at pairs_at pair_at tag3_at tag11_at body_at
key_of_pair = refl

-- a fault of the set comes before any key is looked for
tag1_behind : key_at (signature ∷ []) (pair_octets ++ 1 ∷ []) ≡ Err (causes.Tag1 81)
unfolding key_at pairs_at pair_at tag3_at tag11_at body_at
tag1_behind = refl

cut_behind : key_at (signature ∷ []) (pair_octets ++ 0x8c ∷ []) ≡ Err (causes.Packet 81)
unfolding key_at pairs_at pair_at tag3_at tag11_at body_at
cut_behind = refl

cut_signature : key_at (signature ∷ []) (take 54 pair_octets) ≡ Err (causes.Packet 57)
unfolding key_at pairs_at pair_at tag3_at tag11_at body_at
cut_signature = refl

another_key : key_at (salt ∷ []) pair_octets ≡ Err (causes.WrongKey signature salt)
unfolding key_at pairs_at pair_at tag3_at tag11_at body_at
another_key = refl

-- a header of one octet, and its first 26 octets
abbrev new : NewHeader
new = record { size = 1; mark = 0x11223344; flags = 10; salt = salt; key = key }

abbrev first_octets : List ℕ
first_octets = 0 ∷ 0 ∷ 0 ∷ 0 ∷ 0 ∷ 0 ∷ 0 ∷ 1 ∷ 0x11 ∷ 0x22 ∷ 0x33 ∷ 0x44 ∷ 0x2d ∷ 0xa3 ∷ 0x84 ∷ 0xb1 ∷ 0x03 ∷ 0x00 ∷ 0x00 ∷ 0x0a ∷ 0x00 ∷ 0x00 ∷ 0x10 ∷ 0x00 ∷ 0x00 ∷ 0x02 ∷ []

attribute_spelled : new_metadata Attribute new ≡ first_octets ++ pair_octets
attribute_spelled = refl

abbrev header : FileHeader
header = record { size = 1; mark = 0x11223344; flags = 10; meta_size = 8192; key = key }

header_read : header_at Header (signature ∷ []) (first_octets ++ pair_octets) ≡ Ok header
unfolding header_at fields_fault key_at pairs_at pair_at tag3_at tag11_at body_at
header_read = refl

no_packet : header_at Header (signature ∷ []) first_octets ≡ Err causes.NoPacket
unfolding header_at fields_fault key_at
no_packet = refl

short : header_at Header (signature ∷ []) (take 25 first_octets) ≡ Err (causes.Short 25)
unfolding header_at fields_fault
short = refl
