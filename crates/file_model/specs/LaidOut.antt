-- How what a shard keeps of an open file and its lower file stand for the file's octets.
use Rattle.std.specs.Prelude.{ℕ, ◌≡◌, ◌+◌, ◌-◌, ◌*◌, ◌<◌, ◌≤◌, ◌⊎◌, Bool, true, false, if◌then◌else◌, List, [], ◌++◌, length, take, drop, slice_index, replicate, Option, Some, None, Ok}
use Rattle.lower_model.specs.declared.meta_place.MetaPlace.{MetaPlace}
use Rattle.lower_model.specs.declared.meta_place.MetaPlace.TheVariants.{Header, Attribute}
use Rattle.packet_model.specs.declared.layout.TheConstants.{EXTENT_SIZE, MAX_SIZE, SET_END}
use Rattle.packet_model.specs.Metadata.{extent_count}
use Rattle.body_model.specs.declared.opened.Opened.{Opened}
use Rattle.body_model.specs.LowerFile.{LowerFile}
use Rattle.body_model.specs.Bodies.{HeldBodies}
use Rattle.body_model.specs.Format.{Format, extent_at, needed, plain_at, with_size}
use Rattle.file_model.specs.declared.mark.MetadataMark.{MetadataMark}
use Rattle.file_model.specs.declared.mark.MetadataMark.TheVariants.{Clean, Size, Whole}

-- What is kept of an open file: what was opened, with the size as it is now; by the number of an extent its page, where there is
-- one, whether that is to be written, and whether the extent counts as zeros that nobody has written yet; and what of the
-- metadata and whether the length is to be written.
pub record Working (K : Type 0) : Type 0 where
  pub opened : Opened K
  pub page : ℕ → Option (List ℕ)
  pub is_dirty : ℕ → Bool
  pub is_unwritten : ℕ → Bool
  pub metadata_mark : MetadataMark
  pub length_mark : Bool

-- A file as it was before it was opened: where its metadata stands, its size, its body, and its metadata up to the data, or the new metadata.
pub record Origin : Type 0 where
  pub meta_place : MetaPlace
  pub size : ℕ
  pub body : List ℕ
  pub metadata : List ℕ

-- ---- octets

-- the octets with zeros from a place on
abbrev pub cleared : ℕ → List ℕ → List ℕ
cleared count page = take count page ++ replicate (length page - count) 0

-- an extent of a file's octets, filled up with zeros
abbrev pub page_of : List ℕ → ℕ → List ℕ
page_of octets n = take EXTENT_SIZE (drop (EXTENT_SIZE * n) octets) ++ replicate (EXTENT_SIZE - (length octets - EXTENT_SIZE * n)) 0

-- an extent by the lower file alone, with zeros past the size
abbrev pub below : {K : Type 0} → Format K → List ℕ → Working K → ℕ → List ℕ
below format body w n =
    if w.is_unwritten n then replicate EXTENT_SIZE 0 else
    cleared (w.opened.size - EXTENT_SIZE * n) (plain_at format w.opened.key w.opened.data_start body n)

abbrev pub page_or : Option (List ℕ) → List ℕ → List ℕ
page_or (Some page) lower = page
page_or None lower = lower

abbrev pub IsPage : Option (List ℕ) → Type 0
IsPage (Some page) = length page ≡ EXTENT_SIZE
IsPage None = ⊥

-- The lower extent has the same plain text, its octets past the size too, or size and extent are those that were found.
abbrev pub IsExact : {K : Type 0} → Format K → Origin → List ℕ → Opened K → ℕ → List ℕ → Type 0
IsExact format origin body o n page = (plain_at format o.key o.data_start body n ≡ page) ⊎ ((o.size ≡ origin.size) × (extent_at o.data_start body n ≡ extent_at o.data_start origin.body n))

-- ---- metadata

-- The metadata of the lower file, with what is marked put in its place, is read as what was opened.
abbrev pub IsReadAs : {K : Type 0} → Format K → LowerFile → MetaPlace → MetadataMark → Opened K → Type 0
IsReadAs format file Header Clean o = (file.attribute ≡ None) × (o.data_start ≤ length file.body) × (format.reads Header (take SET_END file.body) ≡ Ok (record o { metadata = [] }))
IsReadAs format file Header Size o = (file.attribute ≡ None) × (o.data_start ≤ length file.body) × (format.reads Header (with_size o.size (take SET_END file.body)) ≡ Ok (record o { metadata = [] }))
IsReadAs format file Header Whole o = (file.attribute ≡ None) × (length o.metadata ≡ o.data_start) × (format.reads Header (take SET_END o.metadata) ≡ Ok (record o { metadata = [] }))
IsReadAs format file Attribute Clean o = (file.attribute ≡ Some o.metadata) × (format.reads Attribute o.metadata ≡ Ok o)
IsReadAs format file Attribute Size o = ⊥
IsReadAs format file Attribute Whole o = format.reads Attribute o.metadata ≡ Ok o

-- Of the metadata that was found, or is new, nothing changes but the octets of the size, and these are the size's, or were never written.
abbrev pub KeepsMetadata : {K : Type 0} → Origin → LowerFile → MetaPlace → MetadataMark → Opened K → Type 0
KeepsMetadata origin file Header Clean o = (take o.data_start file.body ≡ with_size o.size origin.metadata) ⊎ ((o.size ≡ origin.size) × (take o.data_start file.body ≡ origin.metadata))
KeepsMetadata origin file Header Size o = drop 8 (take o.data_start file.body) ≡ drop 8 origin.metadata
KeepsMetadata origin file Header Whole o = o.metadata ≡ with_size o.size origin.metadata
KeepsMetadata origin file Attribute Clean o = (o.metadata ≡ with_size o.size origin.metadata) ⊎ ((o.size ≡ origin.size) × (o.metadata ≡ origin.metadata))
KeepsMetadata origin file Attribute Size o = ⊥
KeepsMetadata origin file Attribute Whole o = o.metadata ≡ with_size o.size origin.metadata

-- the room that the attribute takes
abbrev pub attribute_needed : {K : Type 0} → MetaPlace → Opened K → ℕ
attribute_needed Header o = 0
attribute_needed Attribute o = length o.metadata

-- ---- the whole

-- The body has the length of the data, or size and length are those that were found.
abbrev pub IsExactLength : {K : Type 0} → Origin → List ℕ → Opened K → Type 0
IsExactLength origin body o = (length body ≡ needed o.data_start o.size) ⊎ ((o.size ≡ origin.size) × (length body ≡ length origin.body))

-- What is kept of an open file and its lower file stand for these octets: each extent is its page, or else zeros or what the lower
-- file has; what isn't marked is in the lower file as it has to be, and the store has the room that writing out the rest takes.
pub record LaidOut {K : Type 0} (format : Format K) (origin : Origin) (held : HeldBodies) (node : ℕ) (w : Working K) (octets : List ℕ) : Type 0 where
  pub place : w.opened.meta_place ≡ origin.meta_place
  pub size : w.opened.size ≡ length octets
  pub most : length octets ≤ MAX_SIZE
  pub extents : (n : ℕ) → n < extent_count w.opened.size → page_of octets n ≡ page_or (w.page n) (below format (held.files node).body w n)
  pub clean : (n : ℕ) (page : List ℕ) → n < extent_count w.opened.size → w.is_dirty n ≡ false → w.page n ≡ Some page → page ≡ below format (held.files node).body w n
  pub dirty : (n : ℕ) → w.is_dirty n ≡ true → (n < extent_count w.opened.size) × IsPage (w.page n)
  pub there : (n : ℕ) → n < extent_count w.opened.size → w.is_dirty n ≡ false → w.is_unwritten n ≡ false
      → (w.opened.data_start + EXTENT_SIZE * n + EXTENT_SIZE ≤ length (held.files node).body) × IsExact format origin (held.files node).body w.opened n (page_of octets n)
  pub metadata : IsReadAs format (held.files node) w.opened.meta_place w.metadata_mark w.opened
  pub kept : KeepsMetadata origin (held.files node) w.opened.meta_place w.metadata_mark w.opened
  pub length_is : w.length_mark ≡ false → needed w.opened.data_start w.opened.size ≤ length (held.files node).body
  pub exact : w.length_mark ≡ false → IsExactLength origin (held.files node).body w.opened
  pub body_room : needed w.opened.data_start w.opened.size ≤ held.body_room node
  pub attribute_room : attribute_needed w.opened.meta_place w.opened ≤ held.attribute_room node

-- Nothing is marked.
pub record IsUnmarked {K : Type 0} (w : Working K) : Type 0 where
  pub pages : (n : ℕ) → w.is_dirty n ≡ false
  pub written : (n : ℕ) → n < extent_count w.opened.size → w.is_unwritten n ≡ false
  pub metadata : w.metadata_mark ≡ Clean
  pub length_is : w.length_mark ≡ false

-- What a file that is written out says beside its octets: its metadata is what was found or new metadata but for the size; its body
-- has the length of the data, and zeros past the size, or these and the size are as they were found.
pub record IsWrittenOut {K : Type 0} (format : Format K) (origin : Origin) (file : LowerFile) (o : Opened K) : Type 0 where
  pub place : o.meta_place ≡ origin.meta_place
  pub metadata : IsReadAs format file o.meta_place Clean o
  pub kept : KeepsMetadata origin file o.meta_place Clean o
  pub exact : IsExactLength origin file.body o
  pub past : (n : ℕ) → n < extent_count o.size → ((i : ℕ) → o.size ≤ EXTENT_SIZE * n + i → slice_index (plain_at format o.key o.data_start file.body n) i ≡ 0)
      ⊎ ((o.size ≡ origin.size) × (extent_at o.data_start file.body n ≡ extent_at o.data_start origin.body n))

-- ---- where a file begins

-- the metadata that is found when a file is opened, up to the data; or that of a new file
abbrev pub metadata_found : {K : Type 0} → MetaPlace → MetadataMark → Opened K → LowerFile → List ℕ
metadata_found Header Whole o file = o.metadata
metadata_found Header mark o file = take o.data_start file.body
metadata_found Attribute mark o file = o.metadata

-- the file as its opening found it
abbrev pub origin_of : {K : Type 0} → LowerFile → Working K → Origin
origin_of file w = record { meta_place = w.opened.meta_place; size = w.opened.size; body = file.body; metadata = metadata_found w.opened.meta_place w.metadata_mark w.opened file }
