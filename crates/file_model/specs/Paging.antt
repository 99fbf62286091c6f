-- Pages of an open file that come, go and are written, one by one.
use Rattle.std.specs.Prelude.{ℕ, ◌≡◌, ◌≢◌, ◌+◌, ◌*◌, ◌≤◌, false, List, length, Option, Some, None}
use Rattle.packet_model.specs.declared.layout.TheConstants.{EXTENT_SIZE}
use Rattle.body_model.specs.declared.opened.Opened.{Opened}
use Rattle.body_model.specs.LowerFile.{LowerFile}
use Rattle.body_model.specs.Bodies.{HeldBodies}
use Rattle.body_model.specs.BodyCalls.{Tears, Writes}
use Rattle.body_model.specs.Format.{Format}
use Rattle.file_model.specs.LaidOut.{Working, below}

-- Of what is kept of an open file at most this extent changed.
pub record ChangesExtent {K : Type 0} (n : ℕ) (old new : Working K) : Type 0 where
  pub opened : new.opened ≡ old.opened
  pub pages : (m : ℕ) → m ≢ n → new.page m ≡ old.page m
  pub dirty : (m : ℕ) → m ≢ n → new.is_dirty m ≡ old.is_dirty m
  pub unwritten : (m : ℕ) → m ≢ n → new.is_unwritten m ≡ old.is_unwritten m
  pub metadata_mark : new.metadata_mark ≡ old.metadata_mark
  pub length_mark : new.length_mark ≡ old.length_mark

-- A page that isn't dirty gave way to this one, or to none.
pub record ReplacesPage {K : Type 0} (n : ℕ) (page : Option (List ℕ)) (old new : Working K) : Type 0 where
  pub others : ChangesExtent n old new
  pub clean : old.is_dirty n ≡ false
  pub page_is : new.page n ≡ page
  pub dirty : new.is_dirty n ≡ false
  pub unwritten : new.is_unwritten n ≡ old.is_unwritten n

abbrev pub EvictsPage : {K : Type 0} → ℕ → Working K → Working K → Type 0
EvictsPage n old new = ReplacesPage n None old new

-- The page comes from what the body has.
abbrev pub BringsPage : {K : Type 0} → Format K → List ℕ → ℕ → Working K → Working K → Type 0
BringsPage format body n old new = ReplacesPage n (Some (below format body old n)) old new

-- This extent has no mark any more.
pub record UnmarksExtent {K : Type 0} (n : ℕ) (old new : Working K) : Type 0 where
  pub others : ChangesExtent n old new
  pub page_is : new.page n ≡ old.page n
  pub dirty : new.is_dirty n ≡ false
  pub unwritten : new.is_unwritten n ≡ false

-- An extent of the body was written, and has this plain text.
pub record WritesExtent {K : Type 0} (format : Format K) (o : Opened K) (n : ℕ) (page : List ℕ) (old new : LowerFile) : Type 0 where
  pub sealed : List ℕ
  pub long : length sealed ≡ EXTENT_SIZE
  pub plain : format.plain o.key n sealed ≡ page
  pub written : Writes (o.data_start + EXTENT_SIZE * n) sealed old.body new.body
  pub attribute : new.attribute ≡ old.attribute

-- The write of an extent of the body failed.
pub record TearsExtent {K : Type 0} (o : Opened K) (n : ℕ) (old new : LowerFile) : Type 0 where
  pub torn : Tears (o.data_start + EXTENT_SIZE * n) EXTENT_SIZE old.body new.body
  pub attribute : new.attribute ≡ old.attribute

-- The store keeps its rooms, or has larger ones.
pub record KeepsRooms (node : ℕ) (old new : HeldBodies) : Type 0 where
  pub body : old.body_room node ≤ new.body_room node
  pub attribute : old.attribute_room node ≤ new.attribute_room node
