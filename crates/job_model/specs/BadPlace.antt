-- Where octets that are the text of no job are bad: the first octet of the first line that isn't good where it stands. Where the input ends within a line or before it, that line isn't good.
use Rattle.std.specs.Prelude.{ℕ, zero, suc, ◌≡◌, ◌<◌, ◌≤◌, ◌+◌, List, ◌++◌, length, Err}
use Rattle.std.specs.Str.Parse.{digits_value}
use Rattle.lower_model.specs.LowerTree.{IsLowerTree}
use Rattle.lower_model.specs.declared.node.LowerNode.{LowerNode}
use Rattle.image_model.specs.declared.fault.ImageFault.{ImageFault}
use Rattle.image_model.specs.ImageText.{image}
use Rattle.image_model.specs.ImageReading.{reading}
use Rattle.job_model.specs.declared.limits.TheConstants.{MOST_OCTETS}
use Rattle.job_model.specs.JobText.{LineKind, first_line, passphrase_line, salt_line, namesalt_line, names_line, meta_line, random_line, image_line, image_end, sessions_line, script_line, operation_line, schedule_line, end_line}

-- no line of this kind stands first
abbrev pub BeginsWithNo : {A : Type 0} → LineKind A → List ℕ → Type 0
BeginsWithNo {A} kind octets = (value : A) (rest : List ℕ) → kind.Tells value → octets ≡ kind.spelled value ++ rest → ⊥

-- A line of this kind has to stand first, and behind it what its value asks for.
pub data LineThen {A : Type 0} (kind : LineKind A) (Behind : A → List ℕ → ℕ → Type 0) (octets : List ℕ) (place : ℕ) : Type 0 where
  BadLine : BeginsWithNo kind octets → place ≡ 0 → LineThen kind Behind octets place
  GoodLine : (value : A) (rest : List ℕ) (later : ℕ) → kind.Tells value → octets ≡ kind.spelled value ++ rest → Behind value rest later → place ≡ length (kind.spelled value) + later → LineThen kind Behind octets place

-- The image of a lower tree in so many octets has to stand first. Where they are all there and are no image, the place is that of their first fault.
pub data ImageThen (count : ℕ) (Behind : List ℕ → ℕ → Type 0) (octets : List ℕ) (place : ℕ) : Type 0 where
  CutImage : length octets < count → place ≡ 0 → ImageThen count Behind octets place
  BadImage : (found rest : List ℕ) (fault : ImageFault) → octets ≡ found ++ rest → length found ≡ count → reading found ≡ Err fault → place ≡ fault.offset → ImageThen count Behind octets place
  GoodImage : (tree : List LowerNode) (rest : List ℕ) (later : ℕ) → IsLowerTree tree → octets ≡ image tree ++ rest → length (image tree) ≡ count → Behind rest later → place ≡ count + later → ImageThen count Behind octets place

-- so many parts one behind another, and then the rest
abbrev pub InARow : ℕ → ((List ℕ → ℕ → Type 0) → List ℕ → ℕ → Type 0) → (List ℕ → ℕ → Type 0) → List ℕ → ℕ → Type 0
InARow zero Part Behind = Behind
InARow (suc count) Part Behind = Part (InARow count Part Behind)

abbrev pub OperationThen : (List ℕ → ℕ → Type 0) → List ℕ → ℕ → Type 0
OperationThen Behind = LineThen operation_line (λ op. Behind)

-- the number of a session's operations, and their lines
abbrev pub SessionThen : (List ℕ → ℕ → Type 0) → List ℕ → ℕ → Type 0
SessionThen Behind = LineThen script_line (λ count. InARow count OperationThen Behind)

-- Something follows, where nothing may; the place is its first octet.
pub record Follows (octets : List ℕ) (place : ℕ) : Type 0 where
  pub some : 0 < length octets
  pub first : place ≡ 0

-- the lines behind the image, the first of which is its line end
abbrev pub IsBadWork : List ℕ → ℕ → Type 0
IsBadWork =
    LineThen image_end λ _.
    LineThen sessions_line λ sessions.
    InARow sessions SessionThen (
    LineThen (schedule_line sessions) λ _.
    LineThen end_line λ _.
    Follows)

-- the image and what stands behind it
abbrev pub IsBadImagePart : List ℕ → ℕ → Type 0
IsBadImagePart = LineThen image_line (λ digits. ImageThen (digits_value 10 digits) IsBadWork)

-- The octets are the text of no job, and this is where they are bad.
abbrev pub IsBadPlace : List ℕ → ℕ → Type 0
IsBadPlace =
    LineThen first_line λ _.
    LineThen passphrase_line λ _.
    LineThen salt_line λ _.
    LineThen namesalt_line λ _.
    LineThen names_line λ _.
    LineThen meta_line λ _.
    LineThen random_line λ _.
    IsBadImagePart

-- Octets that a job could have by their number are bad at this place.
pub record IsBadJob (octets : List ℕ) (place : ℕ) : Type 0 where
  pub short : length octets ≤ MOST_OCTETS
  pub place_is : IsBadPlace octets place
