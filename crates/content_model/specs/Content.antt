-- What a lower file decodes to, by its body and its attribute, as Linux's eCryptfs encrypts the extents of a file.
use Rattle.std.specs.Prelude.{ℕ, ◌≡◌, ◌<◌, ◌*◌, List, length, take, Option, Some, None, Result, Ok, Err}
use Rattle.octet_model.specs.Octets.{AreOctets}
use Rattle.cipher_model.specs.Cbc.{IsCbc}
use Rattle.key_model.specs.ExtentIv.{root_iv, extent_iv}
use Rattle.key_model.specs.SignedKey.{SignedKey, signatures}
use Rattle.packet_model.specs.declared.cause.BadCause.{BadCause}
use Rattle.packet_model.specs.declared.layout.TheConstants.{EXTENT_SIZE}
use Rattle.packet_model.specs.FileKey.{Unwraps}
use Rattle.packet_model.specs.Metadata.{FileMetadata, metadata, data_start, extent_count}
use Rattle.body_model.specs.declared.content.Content.{Content}
use Rattle.body_model.specs.declared.content.Content.TheVariants.{Empty, Good, Bad}
use Rattle.body_model.specs.Format.{extent_at}

-- The plain text of the extents of a body from the data start on: extent n is encrypted by CBC under the file key, with the IV of n.
pub record ArePlain (key : List ℕ) (start count : ℕ) (body plain : List ℕ) : Type 0 where
  pub octets : AreOctets plain
  pub whole : length plain ≡ EXTENT_SIZE * count
  pub extents : (n : ℕ) → n < count → IsCbc key (extent_iv (root_iv key) n) (extent_at 0 plain n) (extent_at start body n)

-- The octets of a file: the first of its plain text, as many as its size, under the file key that the ring's key wraps.
pub record DecodesTo (ring : List SignedKey) (found : FileMetadata) (body octets : List ℕ) : Type 0 where
  pub key : List ℕ
  pub plain : List ℕ
  pub key_octets : AreOctets key
  pub unwrapped : Unwraps ring found.header.key key
  pub extents : ArePlain key (data_start found.meta_place found.header) (extent_count found.header.size) body plain
  pub first : octets ≡ take found.header.size plain

abbrev pub IsGoodContent : List SignedKey → FileMetadata → List ℕ → Content → Type 0
IsGoodContent ring found body Empty = ⊥
IsGoodContent ring found body (Good octets) = DecodesTo ring found body octets
IsGoodContent ring found body (Bad cause) = ⊥

abbrev pub IsContentBy : List SignedKey → Result (Option FileMetadata) BadCause → List ℕ → Content → Type 0
IsContentBy ring (Ok None) body content = content ≡ Empty
IsContentBy ring (Ok (Some found)) body content = IsGoodContent ring found body content
IsContentBy ring (Err cause) body content = content ≡ Bad cause

-- the content of a file with this body and attribute, under the ring of a mount
abbrev pub IsContent : List SignedKey → List ℕ → Option (List ℕ) → Content → Type 0
IsContent ring body attribute content = IsContentBy ring (metadata (signatures ring) body attribute) body content
