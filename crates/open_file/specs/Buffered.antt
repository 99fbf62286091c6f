-- An open file that is kept as whole extents, with marks.
use Rattle.std.specs.Prelude.{ℕ, ◌≡◌, ◌*◌, ◌≤◌, Bool, true, false, List, length, take, drop, slice_index, slice_index_or, count_by, Option, Some, None, nat_lt, if◌then◌else◌}
use Rattle.lower_model.specs.declared.meta_place.MetaPlace.{MetaPlace}
use Rattle.lower_model.specs.declared.meta_place.MetaPlace.TheVariants.{Header, Attribute}
use Rattle.packet_model.specs.declared.layout.TheConstants.{EXTENT_SIZE, MAX_SIZE}
use Rattle.packet_model.specs.Metadata.{extent_count}
use Rattle.body_model.specs.declared.opened.Opened.{Opened}
use Rattle.body_model.specs.Bodies.{HeldBodies}
use Rattle.body_model.specs.Format.{Format, IsDataStart, IsFormat, needed}
use Rattle.file_model.specs.declared.mark.MetadataMark.{MetadataMark}
use Rattle.file_model.specs.declared.mark.MetadataMark.TheVariants.{Whole}
use Rattle.open_file.specs.declared.buffers.Buffers.{Buffers}
use Rattle.file_model.specs.LaidOut.{LaidOut, Origin, Working, attribute_needed}

-- What was opened, with the size as it is now; the plain text of all extents, with zeros past the size; and what of it is still to
-- be written: by the number of an extent, of the metadata, and whether the length.
pub record Buffered (K : Type 0) : Type 0 where
  pub opened : Opened K
  pub buffer : List ℕ
  pub dirty : List Bool
  pub metadata_mark : MetadataMark
  pub length_mark : Bool

abbrev pub buffered_of : {K : Type 0} → Buffers K → Buffered K
buffered_of f = record {
  opened = f.opened;
  buffer = f.buffer.items;
  dirty = f.dirty.items;
  metadata_mark = f.metadata_mark;
  length_mark = f.length_mark;
}

-- the extent with this number
abbrev pub page_at : ℕ → List ℕ → List ℕ
page_at n buffer = take EXTENT_SIZE (drop (EXTENT_SIZE * n) buffer)

abbrev pub is_dirty : List Bool → ℕ → Bool
is_dirty dirty n = slice_index_or dirty n false

abbrev pub dirty_count : List Bool → ℕ
dirty_count dirty = count_by (λ d. d) dirty

-- the octets of the file
abbrev pub octets_of : {K : Type 0} → Buffered K → List ℕ
octets_of f = take f.opened.size f.buffer

abbrev pub page_below : ℕ → List ℕ → ℕ → Option (List ℕ)
page_below size buffer n = if nat_lt n (extent_count size) then Some (page_at n buffer) else None

-- Each extent below the size has its page, and none counts as unwritten.
abbrev pub working_of : {K : Type 0} → Buffered K → Working K
working_of f = record {
  opened = f.opened;
  page = page_below f.opened.size f.buffer;
  is_dirty = is_dirty f.dirty;
  is_unwritten = λ n. false;
  metadata_mark = f.metadata_mark;
  length_mark = f.length_mark;
}

-- The file and its lower file stand for its octets.
abbrev pub IsLaidOut : {K : Type 0} → Format K → Origin → HeldBodies → ℕ → Buffered K → Type 0
IsLaidOut format origin held node f = LaidOut format origin held node (working_of f) (octets_of f)

-- The kept metadata has its size octets in an attribute, and a new header fills the place before the data.
abbrev pub IsKept : {K : Type 0} → MetaPlace → MetadataMark → Opened K → Type 0
IsKept Header Whole o = length o.metadata ≡ o.data_start
IsKept Header mark o = Unit {0}
IsKept Attribute mark o = 8 ≤ length o.metadata

-- What holds of each open file.
pub record IsBuffer {K : Type 0} (f : Buffered K) : Type 0 where
  pub most : f.opened.size ≤ MAX_SIZE
  pub start : IsDataStart f.opened.meta_place f.opened.data_start
  pub pages : length f.buffer ≡ EXTENT_SIZE * extent_count f.opened.size
  pub marks : length f.dirty ≡ extent_count f.opened.size
  pub zeros : (i : ℕ) → f.opened.size ≤ i → slice_index f.buffer i ≡ 0
  pub kept : IsKept f.opened.meta_place f.metadata_mark f.opened

-- The store has the room that writing the file out takes.
pub record HasItsRoom {K : Type 0} (held : HeldBodies) (node : ℕ) (o : Opened K) : Type 0 where
  pub body : needed o.data_start o.size ≤ held.body_room node
  pub attribute : attribute_needed o.meta_place o ≤ held.attribute_room node

-- Whatever octets the file stood for with its lower file, it stands for what the change makes of them.
abbrev pub ChangesOctets : {K : Type 0} → ℕ → HeldBodies → HeldBodies → Buffered K → Buffered K → (List ℕ → List ℕ) → Type 0
ChangesOctets {K} node old new f g change = old.told ≡ true → (format : Format K) (origin : Origin) (octets : List ℕ) → IsFormat format
    → LaidOut format origin old node (working_of f) octets → LaidOut format origin new node (working_of g) (change octets)
