-- eCryptfs as a format of bodies.
use Rattle.std.specs.Prelude.{ℕ, ◌+◌, ◌==◌, ◌&&◌, nat_lt, Bool, IsTrue, List, [], ◌∷◌, length, Result, Ok, if◌then◌else◌}
use Rattle.std.specs.List.{list_all}
use Rattle.answer_model.specs.Answer.{◌>>=◌}
use Rattle.octet_model.specs.Octets.{HasOctets}
use Rattle.key_model.specs.SignedKey.{SignedKey}
use Rattle.key_model.specs.FileKey.{file_key, file_mark, aes128_words}
use Rattle.lower_model.specs.declared.meta_place.MetaPlace.{MetaPlace}
use Rattle.lower_model.specs.declared.meta_place.MetaPlace.TheVariants.{Header, Attribute}
use Rattle.packet_model.specs.declared.cause.BadCause.{BadCause}
use Rattle.packet_model.specs.declared.layout.TheConstants.{AES_128, ENCRYPTED_FLAG, MIN_META_SIZE}
use Rattle.packet_model.specs.Metadata.{FileHeader, NewHeader, data_start, header_at, new_metadata}
use Rattle.body_model.specs.declared.opened.Opened.{Opened}
use Rattle.body_model.specs.Format.{Format, kept_of}
use Rattle.content_model.specs.declared.TheConstants.{ATTRIBUTE_FLAG, NAMES_FLAG}
use Rattle.content_model.specs.Extents.{plain_extent, wrapped_key, unwrapped_key}

-- What a mount reads and writes files by: the key-encryption key with its signature, the salt of that key's passphrase, the random
-- octets of which new file keys are drawn, whether names are coded, and where new metadata stands.
pub record EcryptfsMount : Type 0 where
  pub key : SignedKey
  pub salt : List ℕ
  pub random : List ℕ
  pub names_coded : Bool
  pub meta_place : MetaPlace

-- the signature and the salt have 8 octets each
pub record IsMount (mount : EcryptfsMount) : Type 0 where
  pub signature : HasOctets 8 mount.key.signature
  pub salt : HasOctets 8 mount.salt

-- whether these are eight octets
abbrev pub are_eight_octets : List ℕ → Bool
are_eight_octets octets = (length octets == 8) && list_all (λ c. nat_lt c 256) octets

-- A mount of which this is known.
pub record FormatMount : Type 0 where
  pub mount : EcryptfsMount
  pub signature : IsTrue (are_eight_octets mount.key.signature)
  pub salt : IsTrue (are_eight_octets mount.salt)

-- ---- a file that is there

abbrev pub opened_of : EcryptfsMount → MetaPlace → List ℕ → FileHeader → Opened (List ℕ)
opened_of mount place octets header = record {
  key = unwrapped_key mount.key.key header.key.wrapped;
  size = header.size;
  data_start = data_start place header;
  meta_place = place;
  metadata = kept_of place octets;
}

abbrev pub file_read : EcryptfsMount → MetaPlace → List ℕ → Result (Opened (List ℕ)) BadCause
file_read mount place octets = header_at place (mount.key.signature ∷ []) octets >>= λ header. Ok (opened_of mount place octets header)

-- ---- a new file

abbrev pub place_flag : MetaPlace → ℕ
place_flag Header = 0
place_flag Attribute = ATTRIBUTE_FLAG

abbrev pub names_flag : Bool → ℕ
names_flag names_coded = if names_coded then NAMES_FLAG else 0

abbrev pub new_start : MetaPlace → ℕ
new_start Header = MIN_META_SIZE
new_start Attribute = 0

abbrev pub new_key : EcryptfsMount → ℕ → List ℕ
new_key mount node = file_key mount.random node aes128_words

-- an empty file, whose key and mark are drawn for its node's number
abbrev pub header_for : EcryptfsMount → ℕ → NewHeader
header_for mount node = record {
  size = 0;
  mark = file_mark mount.random node aes128_words;
  flags = ENCRYPTED_FLAG + place_flag mount.meta_place + names_flag mount.names_coded;
  salt = mount.salt;
  key = record { signature = mount.key.signature; cipher = AES_128; wrapped = wrapped_key mount.key.key (new_key mount node) };
}

abbrev pub new_opened : EcryptfsMount → ℕ → Opened (List ℕ)
new_opened mount node = record {
  key = new_key mount node;
  size = 0;
  data_start = new_start mount.meta_place;
  meta_place = mount.meta_place;
  metadata = new_metadata mount.meta_place (header_for mount node);
}

-- the format of a mount
abbrev pub ecryptfs : EcryptfsMount → Format (List ℕ)
ecryptfs mount = record { reads = file_read mount; new_file = new_opened mount; plain = plain_extent }
