-- Coded names: behind a prefix the letters of a packet, which holds the name under a name key (after Linux's fs/ecryptfs/keystore.c).
-- The faults stand in the order of their tests.
use Rattle.std.specs.Prelude.{ℕ, ◌+◌, ◌-◌, ◌*◌, ◌%◌, Bool, List, [], ◌∷◌, ◌++◌, length, map, take, drop, slice_index, nat_lt, nat_eq, nat_le, ◌==◌, ◌&&◌, Option, Some, None, Result, Ok, Err, if◌then◌else◌}
use Rattle.std.specs.List.{position, list_all, starts_with}
use Rattle.std.specs.Str.{bytes_eq}
use Rattle.md5.specs.Md5.{md5}
use Rattle.key_model.specs.SignedKey.{SignedKey}
use Rattle.answer_model.specs.Answer.{◌>>=◌}
use Rattle.lower_model.specs.Name.{is_name}
use Rattle.cipher_model.specs.Aes.{encrypted, decrypted}
use Rattle.cipher_model.specs.Blocks.{block_at, block_count, text_of}
use Rattle.packet_model.specs.declared.length.LengthFault.{LengthFault}
use Rattle.packet_model.specs.declared.layout.TheConstants.{AES_128}
use Rattle.packet_model.specs.Length.{length_at}
use Rattle.packet_model.specs.Packet.{packet}
use Rattle.names_model.specs.declared.fault.CodingFault.{CodingFault}
use Rattle.names_model.specs.declared.fault.NameFault.{NameFault}
use Rattle.names_model.specs.declared.fault.NameFault.TheVariants.{Coding, Size, Tag, WrongKey, Cipher, NoZero, Lead, EmptyName, BadName}
use Rattle.coding_model.specs.declared.constants.TheConstants.{PREFIX, TAG70, LEAST_LEAD, ZERO_BECOMES}
use Rattle.coding_model.specs.NameCoding.{coded, decoded, missing}

-- ---- names are under AES-128 in the electronic codebook mode (NIST SP 800-38A, 6.1)

abbrev pub name_cipher_key : SignedKey → List ℕ
name_cipher_key key = take 16 key.key

abbrev pub ecb_encrypted : List ℕ → List ℕ → List ℕ
ecb_encrypted k ps = text_of (λ i. encrypted k (block_at ps i)) (block_count ps)

abbrev pub ecb_decrypted : List ℕ → List ℕ → List ℕ
ecb_decrypted k cs = text_of (λ i. decrypted k (block_at cs i)) (block_count cs)

-- ---- the lower name that octets are written as

-- as many octets as make a whole number of blocks of the lead, a zero and the name
abbrev pub lead_length : List ℕ → ℕ
lead_length name = LEAST_LEAD + missing 16 (LEAST_LEAD + 1 + length name)

abbrev pub lead_octet : ℕ → ℕ
lead_octet c = if c == 0 then ZERO_BECOMES else c

-- the digest of the name key, then that of each digest before; two of 16 octets are enough for every lead
abbrev pub lead_octets : List ℕ → List ℕ
lead_octets key = map lead_octet (md5 key ++ md5 (md5 key))

abbrev pub lead_of : SignedKey → List ℕ → List ℕ
lead_of key name = take (lead_length name) (lead_octets key.key)

abbrev pub tag70_body : SignedKey → List ℕ → List ℕ
tag70_body key cipher = key.signature ++ AES_128 ∷ cipher

-- the lower name that has this plain text
unfoldable pub coded_name : SignedKey → List ℕ → List ℕ
coded_name key plain = PREFIX ++ coded (packet TAG70 (tag70_body key (ecb_encrypted (name_cipher_key key) plain)))

abbrev pub written_name : SignedKey → List ℕ → List ℕ
written_name key name = coded_name key (lead_of key name ++ 0 ∷ name)

-- ---- the upper name that a lower name stands for

abbrev pub octets_coded : Result (List ℕ) CodingFault → Result (List ℕ) NameFault
octets_coded (Ok octets) = Ok octets
octets_coded (Err fault) = Err (Coding fault)

-- whether a body may have so many octets: its signature, its cipher code, and at least two blocks
abbrev pub is_body_length : ℕ → Bool
is_body_length n = nat_le (9 + 16 * 2) n && ((n - 9) % 16 == 0)

-- whether octets behind a packet come from the coding
abbrev pub are_zero_bits : List ℕ → Bool
are_zero_bits octets = nat_lt (length octets) 3 && list_all (λ c. c == 0) octets

-- whether behind a length of so many octets a body of n octets stands, and no more than the coding puts there
abbrev pub is_sized : List ℕ → ℕ → ℕ → Bool
is_sized octets used n = is_body_length n && nat_le (used + n) (length octets) && are_zero_bits (drop (used + n) octets)

abbrev pub body_behind : List ℕ → Result (ℕ × ℕ) LengthFault → Result (List ℕ) NameFault
body_behind octets (Err fault) = Err Size
body_behind octets (Ok (n, used)) = if is_sized octets used n then Ok (take n (drop used octets)) else Err Size

abbrev pub body_of : List ℕ → Result (List ℕ) NameFault
body_of [] = Err Size
body_of (tag ∷ rest) = if tag == TAG70 then body_behind rest (length_at rest) else Err (Tag tag)

abbrev pub cipher_of : List ℕ → List ℕ → Result (List ℕ) NameFault
cipher_of signature body =
    if bytes_eq (take 8 body) signature
    then (if slice_index body 8 == AES_128 then Ok (drop 9 body) else Err (Cipher (slice_index body 8)))
    else Err (WrongKey (take 8 body))

-- what is behind a lead and its zero
abbrev pub some_octets : List ℕ → Result (List ℕ) NameFault
some_octets [] = Err EmptyName
some_octets (c ∷ cs) = Ok (c ∷ cs)

abbrev pub behind_zero : List ℕ → Option ℕ → Result (List ℕ) NameFault
behind_zero plain None = Err NoZero
behind_zero plain (Some i) = if nat_lt i LEAST_LEAD then Err (Lead i) else some_octets (drop (i + 1) plain)

abbrev pub behind_lead : List ℕ → Result (List ℕ) NameFault
behind_lead plain = behind_zero plain (position (λ c. c == 0) plain)

-- the octets that a packet's letters hold
unfoldable pub packet_octets : SignedKey → List ℕ → Result (List ℕ) NameFault
packet_octets key letters = do
  octets ← octets_coded (decoded letters)
  body ← body_of octets
  cipher ← cipher_of key.signature body
  behind_lead (ecb_decrypted (name_cipher_key key) cipher)

-- the octets that a lower name holds: behind the prefix those of a packet, else its own
abbrev pub lower_octets : SignedKey → List ℕ → Result (List ℕ) NameFault
lower_octets key lower = if starts_with nat_eq lower PREFIX then packet_octets key (drop (length PREFIX) lower) else Ok lower

abbrev pub as_name : List ℕ → Result (List ℕ) NameFault
as_name octets = if is_name octets then Ok octets else Err BadName

abbrev pub upper_name : SignedKey → List ℕ → Result (List ℕ) NameFault
upper_name key lower = lower_octets key lower >>= as_name
