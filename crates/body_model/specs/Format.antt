-- Formats of bodies: how the octets of a file stand in its lower file, extent by extent behind metadata.
use Rattle.std.specs.Prelude.{ℕ, zero, suc, ◌≡◌, ◌+◌, ◌*◌, ◌≤◌, ◌^◌, nat_lt, if◌then◌else◌, List, [], ◌∷◌, ◌++◌, length, take, drop, slice_range, Option, Some, None, Result, Ok, Err}
use Rattle.std.specs.Int.{to_be_bytes, w64}
use Rattle.octet_model.specs.Octets.{AreOctets}
use Rattle.answer_model.specs.Answer.{◌>>=◌}
use Rattle.lower_model.specs.declared.meta_place.MetaPlace.{MetaPlace}
use Rattle.lower_model.specs.declared.meta_place.MetaPlace.TheVariants.{Header, Attribute}
use Rattle.lower_model.specs.declared.limits.TheConstants.{LONGEST_ATTRIBUTE}
use Rattle.packet_model.specs.declared.cause.BadCause.{BadCause}
use Rattle.packet_model.specs.declared.cause.BadCause.TheVariants.{ShortData}
use Rattle.packet_model.specs.declared.layout.TheConstants.{EXTENT_SIZE, MAX_META_SIZE, MAX_SIZE, SET_END, SET_OFFSET}
use Rattle.packet_model.specs.Metadata.{extent_count}
use Rattle.body_model.specs.declared.opened.Opened.{Opened}
use Rattle.body_model.specs.declared.content.Content.{Content}
use Rattle.body_model.specs.declared.content.Content.TheVariants.{Empty, Good, Bad}
use Rattle.body_model.specs.LowerFile.{LowerFile}

-- A format: what octets of metadata say, the length of the data left aside; the metadata of a new file, by its node's number;
-- and the plain text of an extent under a key, by the extent's number.
pub record Format (K : Type 0) : Type 0 where
  pub reads : MetaPlace → List ℕ → Result (Opened K) BadCause
  pub new_file : ℕ → Opened K
  pub plain : K → ℕ → List ℕ → List ℕ

-- ---- what a lower file decodes to

-- Where a file has the attribute, that alone is read, else the head of its body.
abbrev pub meta_place_of : Option (List ℕ) → MetaPlace
meta_place_of (Some attribute) = Attribute
meta_place_of None = Header

abbrev pub metadata_of : List ℕ → Option (List ℕ) → List ℕ
metadata_of body (Some attribute) = attribute
metadata_of body None = take SET_END body

-- the octets of a body whose data starts here, with the extents of this size
abbrev pub needed : ℕ → ℕ → ℕ
needed start size = start + EXTENT_SIZE * extent_count size

-- the body is long enough for the data
abbrev pub with_data : {K : Type 0} → ℕ → Opened K → Result (Opened K) BadCause
with_data len o = if nat_lt len (needed o.data_start o.size) then Err (ShortData len (needed o.data_start o.size)) else Ok o

-- what is opened of a file that isn't empty
abbrev pub opening : {K : Type 0} → Format K → LowerFile → Result (Opened K) BadCause
opening format file = format.reads (meta_place_of file.attribute) (metadata_of file.body file.attribute) >>= with_data (length file.body)

-- the lower extent with this number, and its plain text
abbrev pub extent_at : ℕ → List ℕ → ℕ → List ℕ
extent_at start body n = slice_range body (start + EXTENT_SIZE * n) (start + EXTENT_SIZE * n + EXTENT_SIZE)

abbrev pub plain_at : {K : Type 0} → Format K → K → ℕ → List ℕ → ℕ → List ℕ
plain_at format key start body n = format.plain key n (extent_at start body n)

-- the first so many of these lists, one behind another
abbrev pub joined : (ℕ → List ℕ) → ℕ → List ℕ
joined f zero = []
joined f (suc n) = joined f n ++ f n

-- the first octets of the plain text, as many as the size
abbrev pub decoded : {K : Type 0} → Format K → List ℕ → Opened K → List ℕ
decoded format body o = take o.size (joined (plain_at format o.key o.data_start body) (extent_count o.size))

abbrev pub content_by : {K : Type 0} → Format K → List ℕ → Result (Opened K) BadCause → Content
content_by format body (Ok o) = Good (decoded format body o)
content_by format body (Err cause) = Bad cause

-- A file with neither body nor attribute is empty.
abbrev pub content_of : {K : Type 0} → Format K → List ℕ → Option (List ℕ) → Result (Opened K) BadCause → Content
content_of format [] None read = Empty
content_of format (first ∷ rest) None read = content_by format (first ∷ rest) read
content_of format body (Some attribute) read = content_by format body read

abbrev pub content : {K : Type 0} → Format K → LowerFile → Content
content format file = content_of format file.body file.attribute (opening format file)

-- ---- what upper layers may use of a format

-- the octets of one extent
pub record IsExtent (extent : List ℕ) : Type 0 where
  pub long : length extent ≡ EXTENT_SIZE
  pub octets : AreOctets extent

-- metadata with another size: its first eight octets, the highest first
abbrev pub with_size : ℕ → List ℕ → List ℕ
with_size size metadata = to_be_bytes w64 size ++ drop 8 metadata

-- what is kept of metadata that is read: all of an attribute, and nothing of a header, which stays where it is
abbrev pub kept_of : MetaPlace → List ℕ → List ℕ
kept_of Header octets = []
kept_of Attribute octets = octets

-- the octets that are read of metadata
abbrev pub read_of : MetaPlace → List ℕ → List ℕ
read_of Header octets = take SET_END octets
read_of Attribute octets = octets

-- Data starts behind a header, and else at 0.
abbrev pub IsDataStart : MetaPlace → ℕ → Type 0
IsDataStart Header start = (SET_END ≤ start) × (start ≤ MAX_META_SIZE)
IsDataStart Attribute start = start ≡ 0

-- What holds of metadata that is read.
pub record IsRead {K : Type 0} (place : MetaPlace) (octets : List ℕ) (o : Opened K) : Type 0 where
  pub size : o.size ≤ MAX_SIZE
  pub place_is : o.meta_place ≡ place
  pub start : IsDataStart place o.data_start
  pub kept : o.metadata ≡ kept_of place octets
  pub enough : SET_OFFSET ≤ length octets

-- What holds of a new file's metadata: at the head of a body it fills the place before the data.
pub record IsNew {K : Type 0} (o : Opened K) : Type 0 where
  pub size : o.size ≡ 0
  pub start : IsDataStart o.meta_place o.data_start
  pub sized : with_size 0 o.metadata ≡ o.metadata
  pub octets : AreOctets o.metadata
  pub fills : o.meta_place ≡ Header → length o.metadata ≡ o.data_start
  pub short : length o.metadata ≤ LONGEST_ATTRIBUTE

-- The laws of a format: an extent has one cipher text for a plain text, metadata is read within its bounds, also with
-- another size, and new metadata is read as what it is of.
pub record IsFormat {K : Type 0} (format : Format K) : Type 0 where
  pub extent : (key : K) (n : ℕ) (extent : List ℕ) → IsExtent extent → IsExtent (format.plain key n extent)
  pub one : (key : K) (n : ℕ) (a b : List ℕ) → IsExtent a → IsExtent b → format.plain key n a ≡ format.plain key n b → a ≡ b
  pub read : (place : MetaPlace) (octets : List ℕ) (o : Opened K) → format.reads place octets ≡ Ok o → IsRead place octets o
  pub resized : (place : MetaPlace) (octets : List ℕ) (o : Opened K) (size : ℕ) → format.reads place octets ≡ Ok o → size ≤ MAX_SIZE
      → format.reads place (with_size size octets) ≡ Ok (record o { size = size; metadata = kept_of place (with_size size octets) })
  pub new : (node : ℕ) → IsNew (format.new_file node)
  pub new_read : (node : ℕ) → format.reads (format.new_file node).meta_place (read_of (format.new_file node).meta_place (format.new_file node).metadata)
      ≡ Ok (record (format.new_file node) { metadata = kept_of (format.new_file node).meta_place (format.new_file node).metadata })
