-- The metadata of a file, by its body and its attribute, with the causes of a bad file in their order.
use Rattle.std.specs.Prelude.{ℕ, ◌≡◌, ◌+◌, ◌-◌, ◌*◌, ◌/◌, ◌%◌, ◌^◌, Bool, true, not, List, [], ◌∷◌, ◌++◌, length, take, slice_index, slice_range, replicate, Option, Some, None, Result, Ok, Err, nat_lt, nat_le, ◌==◌, ◌&&◌, if◌then◌else◌, bit_and, bit_xor}
use Rattle.std.specs.Int.{w16, w32, w64, from_be_bytes, to_be_bytes}
use Rattle.packet_model.specs.declared.cause.BadCause.{BadCause}
use Rattle.packet_model.specs.declared.cause.BadCause.TheVariants.{Short, Marker, Version, Hmac, NotEncrypted, HeaderSize, TooLarge, ShortData}
use Rattle.packet_model.specs.declared.layout.TheConstants.{ENCRYPTED_FLAG, EXTENT_SIZE, HMAC_FLAG, MARKER, MAX_META_SIZE, MAX_SIZE, MIN_META_SIZE, SET_END, SET_OFFSET, VERSION}
use Rattle.lower_model.specs.declared.meta_place.MetaPlace.{MetaPlace}
use Rattle.lower_model.specs.declared.meta_place.MetaPlace.TheVariants.{Header, Attribute}
use Rattle.packet_model.specs.Packet.{tag3, tag11, console}
use Rattle.answer_model.specs.Answer.{◌>>=◌}
use Rattle.packet_model.specs.PacketSet.{WrappedKey, key_at, SetTakesMemory}

-- ---- the fields before the packets

abbrev pub size_in : List ℕ → ℕ
size_in octets = from_be_bytes w64 (take 8 octets)

-- the two numbers of the marker
abbrev pub mark_in : List ℕ → ℕ
mark_in octets = from_be_bytes w32 (slice_range octets 8 12)

abbrev pub second_mark_in : List ℕ → ℕ
second_mark_in octets = from_be_bytes w32 (slice_range octets 12 16)

abbrev pub version_in : List ℕ → ℕ
version_in octets = slice_index octets 16

-- the version and the flags are one number, the flags in its low bits
abbrev pub flags_in : List ℕ → ℕ
flags_in octets = from_be_bytes w32 (slice_range octets 16 20) % 2 ^ 24

abbrev pub has_flag : ℕ → ℕ → Bool
has_flag flag flags = not (bit_and flags flag == 0)

-- the size of a header extent times the number of header extents
abbrev pub meta_size_in : List ℕ → ℕ
meta_size_in octets = from_be_bytes w32 (slice_range octets 20 24) * from_be_bytes w16 (slice_range octets 24 26)

-- the octets in which the packets stand
abbrev pub packets_in : List ℕ → List ℕ
packets_in octets = slice_range octets SET_OFFSET SET_END

-- whether metadata can have this size: a multiple of 4,096 from 8,192 to 1,048,576; in an attribute it isn't looked at
abbrev pub is_meta_size : MetaPlace → ℕ → Bool
is_meta_size Header n = (n % EXTENT_SIZE == 0) && nat_le MIN_META_SIZE n && nat_le n MAX_META_SIZE
is_meta_size Attribute n = true

-- ---- what is read

pub record FileHeader : Type 0 where
  pub size : ℕ
  pub mark : ℕ
  pub flags : ℕ
  pub meta_size : ℕ
  pub key : WrappedKey

abbrev pub header_fields : List ℕ → WrappedKey → FileHeader
header_fields octets key = record { size = size_in octets; mark = mark_in octets; flags = flags_in octets; meta_size = meta_size_in octets; key = key }

-- the size is looked at last
abbrev pub header_with : List ℕ → WrappedKey → Result FileHeader BadCause
header_with octets key = if nat_lt MAX_SIZE (size_in octets) then Err (TooLarge (size_in octets)) else Ok (header_fields octets key)

-- the first fault of the fields before the packets
unfoldable pub fields_fault : MetaPlace → List ℕ → Option BadCause
fields_fault meta_place octets =
    if nat_lt (length octets) SET_OFFSET then Some (Short (length octets)) else
    if not (bit_xor (mark_in octets) (second_mark_in octets) == MARKER) then Some (Marker (mark_in octets) (second_mark_in octets)) else
    if not (version_in octets == VERSION) then Some (Version (version_in octets)) else
    if has_flag HMAC_FLAG (flags_in octets) then Some Hmac else
    if not (has_flag ENCRYPTED_FLAG (flags_in octets)) then Some NotEncrypted else
    if not (is_meta_size meta_place (meta_size_in octets)) then Some (HeaderSize (meta_size_in octets)) else None

abbrev pub unless : {A : Type 0} → Option BadCause → Result A BadCause → Result A BadCause
unless None read = read
unless (Some cause) read = Err cause

-- the metadata that an attribute is, or that stands at the head of a body
unfoldable pub header_at : MetaPlace → List (List ℕ) → List ℕ → Result FileHeader BadCause
header_at meta_place ours octets = unless (fields_fault meta_place octets) (key_at ours (packets_in octets) >>= header_with octets)

-- reading metadata takes memory where the fields before the packets have no fault and its set takes some
pub record HeaderTakesMemory (meta_place : MetaPlace) (octets : List ℕ) : Type 0 where
  pub no_fault : fields_fault meta_place octets ≡ None
  pub set : SetTakesMemory (packets_in octets)

-- ---- a file

-- the offset in the body at which the data of a file begins
abbrev pub data_start : MetaPlace → FileHeader → ℕ
data_start Header header = header.meta_size
data_start Attribute header = 0

-- the extents of a content, the last of them whole
abbrev pub extent_count : ℕ → ℕ
extent_count size = (size + (EXTENT_SIZE - 1)) / EXTENT_SIZE

-- the octets of a body whose extents begin here
abbrev pub needed : ℕ → FileHeader → ℕ
needed start header = start + EXTENT_SIZE * extent_count header.size

-- The metadata of a file that is neither empty nor bad.
pub record FileMetadata : Type 0 where
  pub meta_place : MetaPlace
  pub header : FileHeader

-- the length of the body is looked at behind all of the metadata
abbrev pub with_body : MetaPlace → List ℕ → FileHeader → Result FileMetadata BadCause
with_body meta_place body header = if nat_lt (length body) (needed (data_start meta_place header) header)
    then Err (ShortData (length body) (needed (data_start meta_place header) header))
    else Ok (record { meta_place = meta_place; header = header })

-- the metadata in these octets, of a file with this body
abbrev pub metadata_in : MetaPlace → List (List ℕ) → List ℕ → List ℕ → Result FileMetadata BadCause
metadata_in meta_place ours octets body = header_at meta_place ours octets >>= with_body meta_place body

abbrev pub if_any : Result FileMetadata BadCause → Result (Option FileMetadata) BadCause
if_any read = read >>= λ found. Ok (Some found)

-- the metadata of a file with this body and attribute, none of an empty file, or the first cause for which it is bad. Where a file has the attribute, that alone is read
abbrev pub metadata : List (List ℕ) → List ℕ → Option (List ℕ) → Result (Option FileMetadata) BadCause
metadata ours body (Some attribute) = if_any (metadata_in Attribute ours attribute body)
metadata ours [] None = Ok None
metadata ours (first ∷ rest) None = if_any (metadata_in Header ours (first ∷ rest) (first ∷ rest))

-- reading the metadata of a file with this body and attribute takes memory
abbrev pub FileTakesMemory : List ℕ → Option (List ℕ) → Type 0
FileTakesMemory body (Some attribute) = HeaderTakesMemory Attribute attribute
FileTakesMemory body None = HeaderTakesMemory Header body

-- ---- what is written

-- What new metadata is made of.
pub record NewHeader : Type 0 where
  pub size : ℕ
  pub mark : ℕ
  pub flags : ℕ
  pub salt : List ℕ
  pub key : WrappedKey

-- version and flags as one number, and two header extents
abbrev pub fixed_part : NewHeader → List ℕ
fixed_part new = to_be_bytes w64 new.size ++ (to_be_bytes w32 new.mark ++ (to_be_bytes w32 (bit_xor new.mark MARKER)
    ++ (to_be_bytes w32 (VERSION * 2 ^ 24 + new.flags) ++ (to_be_bytes w32 EXTENT_SIZE ++ to_be_bytes w16 2))))

-- the count as it is written
abbrev pub new_pair : NewHeader → List ℕ
new_pair new = tag3 (record { cipher = new.key.cipher; salt = new.salt; count = 0x60; wrapped = new.key.wrapped })
    ++ tag11 console (record { signature = new.key.signature })

-- at the head of a body, zeros up to the end of the two header extents
abbrev pub new_metadata : MetaPlace → NewHeader → List ℕ
new_metadata Header new = fixed_part new ++ (new_pair new ++ replicate (MIN_META_SIZE - (SET_OFFSET + length (new_pair new))) 0)
new_metadata Attribute new = fixed_part new ++ new_pair new
