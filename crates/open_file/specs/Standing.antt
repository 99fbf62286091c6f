-- How a file's whole extents and marks stand for its octets.
use Rattle.std.specs.Prelude.{ℕ, ◌≡◌, ◌+◌, ◌-◌, ◌*◌, ◌<◌, ◌≤◌, Bool, true, false, List, length, min, take}
use Rattle.packet_model.specs.declared.layout.TheConstants.{EXTENT_SIZE, SET_END}
use Rattle.packet_model.specs.Metadata.{extent_count}
use Rattle.body_model.specs.declared.opened.Opened.{Opened}
use Rattle.body_model.specs.LowerFile.{LowerFile}
use Rattle.body_model.specs.Bodies.{HeldBodies}
use Rattle.body_model.specs.BodyCalls.{ChangesBody, Writes}
use Rattle.body_model.specs.Format.{Format, needed, plain_at}
use Rattle.file_model.specs.declared.mark.MetadataMark.{MetadataMark}
use Rattle.file_model.specs.declared.mark.MetadataMark.TheVariants.{Clean}
use Rattle.file_model.specs.LaidOut.{IsExact, IsExactLength, IsReadAs, KeepsMetadata, Origin, cleared}
use Rattle.open_file.specs.Buffered.{Buffered, is_dirty, page_at}

abbrev pub AllClean : List Bool → Type 0
AllClean dirty = (n : ℕ) → is_dirty dirty n ≡ false

-- The marks of a file: its dirty extents, its metadata, and its length.
pub record Marks : Type 0 where
  pub pages : List Bool
  pub metadata : MetadataMark
  pub len : Bool

abbrev pub marks_of : {K : Type 0} → Buffered K → Marks
marks_of f = record { pages = f.dirty; metadata = f.metadata_mark; len = f.length_mark }

abbrev pub NoMarks : Marks → Type 0
NoMarks marks = AllClean marks.pages × (marks.metadata ≡ Clean) × (marks.len ≡ false)

-- An extent of the buffer is the plain text of the lower one, up to the size, and that is there.
abbrev pub IsBelow : {K : Type 0} → Format K → Origin → LowerFile → Opened K → List ℕ → ℕ → Type 0
IsBelow format origin file o buffer n = (page_at n buffer ≡ cleared (o.size - EXTENT_SIZE * n) (plain_at format o.key o.data_start file.body n))
    × (o.data_start + EXTENT_SIZE * n + EXTENT_SIZE ≤ length file.body) × IsExact format origin file.body o n (page_at n buffer)

-- The extents, the marks and the lower file fit together.
pub record Stands {K : Type 0} (format : Format K) (origin : Origin) (file : LowerFile) (o : Opened K) (buffer : List ℕ) (marks : Marks) : Type 0 where
  pub clean : (n : ℕ) → n < extent_count o.size → is_dirty marks.pages n ≡ false → IsBelow format origin file o buffer n
  pub place : o.meta_place ≡ origin.meta_place
  pub metadata : IsReadAs format file o.meta_place marks.metadata o
  pub kept : KeepsMetadata origin file o.meta_place marks.metadata o
  pub length_is : marks.len ≡ false → needed o.data_start o.size ≤ length file.body
  pub exact : marks.len ≡ false → IsExactLength origin file.body o

abbrev pub FileStands : {K : Type 0} → Format K → Origin → LowerFile → Buffered K → Type 0
FileStands format origin file f = Stands format origin file f.opened f.buffer (marks_of f)

-- They go on fitting together, by other marks.
abbrev pub StandsOn : {K : Type 0} → Format K → Origin → ℕ → HeldBodies → HeldBodies → Opened K → List ℕ → Marks → Marks → Type 0
StandsOn format origin node old new o buffer marks marks' = old.told ≡ true
    → Stands format origin (old.files node) o buffer marks → Stands format origin (new.files node) o buffer marks'

-- the head of a body of this length
abbrev pub TellsHead : HeldBodies → ℕ → ℕ → List ℕ → Type 0
TellsHead held node len head = (length head ≡ min len SET_END) × (held.told ≡ true → head ≡ take SET_END (held.files node).body)

-- A page was sealed, and written as the extent with this number.
pub record WritesSealed {K : Type 0} (format : Format K) (node : ℕ) (o : Opened K) (n : ℕ) (page : List ℕ) (old new : HeldBodies) : Type 0 where
  pub sealed : List ℕ
  pub long : length sealed ≡ EXTENT_SIZE
  pub plain : format.plain o.key n sealed ≡ page
  pub written : ChangesBody (Writes (o.data_start + EXTENT_SIZE * n) sealed) node old new
