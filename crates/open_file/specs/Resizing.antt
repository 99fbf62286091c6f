-- What a write within the size and a change of the size do.
use Rattle.std.specs.Prelude.{ℕ, ◌≡◌, ◌*◌, ◌/◌, ◌<◌, ◌≤◌, Bool, true, false, List, length, min, slice_index}
use Rattle.packet_model.specs.declared.layout.TheConstants.{EXTENT_SIZE}
use Rattle.packet_model.specs.Metadata.{extent_count}
use Rattle.file_model.specs.Resizing.{mark_size, sized_opened}
use Rattle.open_file.specs.Buffered.{Buffered, is_dirty, page_at}

-- A write within the size: what it didn't touch stays, and what it touched is marked.
pub record WritesPages (size : ℕ) (old new : List ℕ) (dirty dirty' : List Bool) : Type 0 where
  pub zeros : (i : ℕ) → size ≤ i → slice_index new i ≡ slice_index old i
  pub clean : (n : ℕ) → is_dirty dirty' n ≡ false → (is_dirty dirty n ≡ false) × (page_at n new ≡ page_at n old)

-- A size was changed. What lies in whole extents below both sizes stays; each other extent is dirty.
pub record ResizesPages (both size : ℕ) (old new : List ℕ) (dirty dirty' : List Bool) : Type 0 where
  pub pages : length new ≡ EXTENT_SIZE * extent_count size
  pub same : (i : ℕ) → i < both → slice_index new i ≡ slice_index old i
  pub zeros : (i : ℕ) → both ≤ i → slice_index new i ≡ 0
  pub marks : length dirty' ≡ extent_count size
  pub kept : (n : ℕ) → n < both / EXTENT_SIZE → is_dirty dirty' n ≡ is_dirty dirty n
  pub marked : (n : ℕ) → both / EXTENT_SIZE ≤ n → n < extent_count size → is_dirty dirty' n ≡ true

-- The size was changed, and is marked.
pub record ChangesSize {K : Type 0} (size : ℕ) (old new : Buffered K) : Type 0 where
  pub opened : new.opened ≡ sized_opened size old.opened
  pub pages : ResizesPages (min old.opened.size size) size old.buffer new.buffer old.dirty new.dirty
  pub metadata : new.metadata_mark ≡ mark_size old.opened.meta_place old.metadata_mark
  pub len : new.length_mark ≡ true
