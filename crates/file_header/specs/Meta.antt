-- What the metadata of a file says, and what new metadata is made of.
use Rattle.std.specs.Prelude.{◌≡◌, List}
use Rattle.key_model.specs.SignedKey.{SignedKey}
use Rattle.packet_model.specs.declared.layout.TheConstants.{AES_128}
use Rattle.packet_model.specs.Metadata.{FileHeader, NewHeader}
use Rattle.packet_model.specs.FileKey.{Unwraps}
use Rattle.file_header.specs.declared.meta.Meta.{Meta}
use Rattle.file_header.specs.declared.meta.NewMeta.{NewMeta}

-- these are the values of the header, with the file key that its wrapped key is under this ring
pub record IsMeta (ring : List SignedKey) (meta : Meta) (header : FileHeader) : Type 0 where
  pub size : meta.size ≡ header.size
  pub flags : meta.flags ≡ header.flags
  pub meta_size : meta.meta_size ≡ header.meta_size
  pub fek : Unwraps ring header.key meta.fek

-- a file key for AES-128
abbrev pub new_header : NewMeta → NewHeader
new_header new = record { size = new.size; mark = new.m1; flags = new.flags; salt = new.salt; key = record { signature = new.signature; cipher = AES_128; wrapped = new.wrapped } }
