-- A change of the size of an open file, and a write within its size, page by page.
use Rattle.std.specs.Prelude.{ℕ, ◌≡◌, ◌+◌, ◌-◌, ◌*◌, ◌/◌, ◌<◌, ◌≤◌, true, false, min, max, nat_lt, if◌then◌else◌, List, length, take, drop, Some, None}
use Rattle.lower_model.specs.declared.meta_place.MetaPlace.{MetaPlace}
use Rattle.lower_model.specs.declared.meta_place.MetaPlace.TheVariants.{Header, Attribute}
use Rattle.packet_model.specs.declared.layout.TheConstants.{EXTENT_SIZE}
use Rattle.packet_model.specs.Metadata.{extent_count}
use Rattle.body_model.specs.declared.opened.Opened.{Opened}
use Rattle.body_model.specs.Format.{with_size}
use Rattle.file_model.specs.declared.mark.MetadataMark.{MetadataMark}
use Rattle.file_model.specs.declared.mark.MetadataMark.TheVariants.{Clean, Size, Whole}
use Rattle.file_model.specs.ByteFile.{written}
use Rattle.file_model.specs.LaidOut.{Working, cleared}

-- kept metadata with another size, where any is kept
abbrev pub sized : ℕ → List ℕ → List ℕ
sized size metadata = if nat_lt (length metadata) 8 then metadata else with_size size metadata

-- what was opened, with another size
abbrev pub sized_opened : {K : Type 0} → ℕ → Opened K → Opened K
sized_opened size o = record o { size = size; metadata = sized size o.metadata }

-- the mark of the metadata, once the size is changed
abbrev pub mark_size : MetaPlace → MetadataMark → MetadataMark
mark_size Header Clean = Size
mark_size Header Size = Size
mark_size Header Whole = Whole
mark_size Attribute mark = Whole

-- The size changed. Extents below both sizes stay. The extent in which the smaller size ends is a dirty page with zeros from there on.
-- Those behind have no page and count as unwritten.
pub record ResizesExtents {K : Type 0} (size : ℕ) (old new : Working K) : Type 0 where
  pub opened : new.opened ≡ sized_opened size old.opened
  pub low : (n : ℕ) → n < min old.opened.size size / EXTENT_SIZE → (new.page n ≡ old.page n) × (new.is_dirty n ≡ old.is_dirty n) × (new.is_unwritten n ≡ old.is_unwritten n)
  pub edge : (n : ℕ) → n ≡ min old.opened.size size / EXTENT_SIZE → EXTENT_SIZE * n < min old.opened.size size
      → (page : List ℕ) × (old.page n ≡ Some page) × (new.page n ≡ Some (cleared (min old.opened.size size - EXTENT_SIZE * n) page)) × (new.is_dirty n ≡ true)
  pub behind : (n : ℕ) → min old.opened.size size ≤ EXTENT_SIZE * n → n < extent_count size → (new.page n ≡ None) × (new.is_dirty n ≡ false) × (new.is_unwritten n ≡ true)
  pub past : (n : ℕ) → extent_count size ≤ n → new.is_dirty n ≡ false
  pub metadata_mark : new.metadata_mark ≡ mark_size old.opened.meta_place old.metadata_mark
  pub length_mark : new.length_mark ≡ true

-- the part of octets at an offset that lies in this extent
abbrev pub part_in : ℕ → List ℕ → ℕ → List ℕ
part_in at octets n = take (EXTENT_SIZE - (at - EXTENT_SIZE * n)) (drop (EXTENT_SIZE * n - at) octets)

-- Octets were written at an offset. Each extent that they touch was there as a page, and is a dirty one with their part in its place.
-- Others stay.
pub record OverwritesPages {K : Type 0} (at : ℕ) (octets : List ℕ) (old new : Working K) : Type 0 where
  pub opened : new.opened ≡ old.opened
  pub touched : (n : ℕ) → max at (EXTENT_SIZE * n) < min (at + length octets) (EXTENT_SIZE * n + EXTENT_SIZE)
      → (page : List ℕ) × (old.page n ≡ Some page) × (new.page n ≡ Some (written (at - EXTENT_SIZE * n) (part_in at octets n) page)) × (new.is_dirty n ≡ true)
  pub others : (n : ℕ) → min (at + length octets) (EXTENT_SIZE * n + EXTENT_SIZE) ≤ max at (EXTENT_SIZE * n)
      → (new.page n ≡ old.page n) × (new.is_dirty n ≡ old.is_dirty n) × (new.is_unwritten n ≡ old.is_unwritten n)
  pub metadata_mark : new.metadata_mark ≡ old.metadata_mark
  pub length_mark : new.length_mark ≡ old.length_mark
