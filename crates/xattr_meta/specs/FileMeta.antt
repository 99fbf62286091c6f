-- What the metadata of a file says.
use Rattle.std.specs.Prelude.{ℕ, ◌≡◌, ⊤, List, length, take, Option, Some, None}
use Rattle.key_model.specs.SignedKey.{SignedKey}
use Rattle.packet_model.specs.declared.layout.TheConstants.{SET_END}
use Rattle.packet_model.specs.FileKey.{Unwraps}
use Rattle.packet_model.specs.Metadata.{FileMetadata, data_start}
use Rattle.xattr_meta.specs.declared.file_meta.FileMeta.{FileMeta}

-- the body has so many octets, and, where there is no attribute, the head has its first 4,096, or all
pub record IsHead (head : List ℕ) (attribute : Option (List ℕ)) (len : ℕ) (body : List ℕ) : Type 0 where
  pub long : length body ≡ len
  pub same : attribute ≡ None → take SET_END head ≡ take SET_END body

-- these are the values of the metadata, with the file key that its wrapped key is under this ring
pub record IsFileMeta (ring : List SignedKey) (meta : FileMeta) (found : FileMetadata) : Type 0 where
  pub meta_place : meta.meta_place ≡ found.meta_place
  pub size : meta.size ≡ found.header.size
  pub start : meta.data_start ≡ data_start found.meta_place found.header
  pub fek : Unwraps ring found.header.key meta.fek

-- none as well, or these values
abbrev pub AreFileMeta : List SignedKey → Option FileMeta → Option FileMetadata → Type 0
AreFileMeta ring None None = ⊤
AreFileMeta ring None (Some found) = ⊥
AreFileMeta ring (Some meta) None = ⊥
AreFileMeta ring (Some meta) (Some found) = IsFileMeta ring meta found
