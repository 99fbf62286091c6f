-- The one spelling of a job, line by line.
use Rattle.std.specs.Prelude.{ℕ, ◌≡◌, ◌≤◌, List, [], ◌∷◌, ◌++◌, length, slice_index, map, codes}
use Rattle.std.specs.List.{flat_map}
use Rattle.std.specs.Str.Parse.{IsNumeral}
use Rattle.octet_model.specs.Octets.{HasOctets}
use Rattle.image_model.specs.ImageText.{image}
use Rattle.text_model.specs.Line.{line, number, hex}
use Rattle.script_model.specs.declared.limits.TheConstants.{MOST_OPERATIONS}
use Rattle.script_model.specs.declared.op.Op.{Op}
use Rattle.script_model.specs.Script.{IsOp}
use Rattle.script_model.specs.ScriptText.{op_line}
use Rattle.job_model.specs.declared.limits.TheConstants.{MOST_OCTETS, MOST_SESSIONS}
use Rattle.job_model.specs.declared.job.Job.{Job}
use Rattle.lower_model.specs.declared.meta_place.MetaPlace.{MetaPlace}
use Rattle.lower_model.specs.declared.meta_place.MetaPlace.TheVariants.{Header, Attribute}
use Rattle.job_model.specs.declared.job.NameCoding.{NameCoding}
use Rattle.job_model.specs.declared.job.NameCoding.TheVariants.{Plain, Tag70}
use Rattle.job_model.specs.Job.{IsPassphrase, IsSchedule, IsJob}

-- ---- the lines

-- A kind of line: the values that it may tell, and the octets that spell each.
pub record LineKind (A : Type 0) : Type 1 where
  pub Tells : A → Type 0
  pub spelled : A → List ℕ

-- any value of the type
abbrev pub IsAny : {A : Type 0} → A → Type 0
IsAny value = Unit {0}

-- a line that is the same in each job
abbrev pub fixed_line : List (List ℕ) → LineKind (Unit {0})
fixed_line fields = record { Tells = IsAny; spelled = λ nothing. line fields }

pub record IsWithin (least most n : ℕ) : Type 0 where
  pub least_is : least ≤ n
  pub most_is : n ≤ most

-- a line that tells how many parts follow it
abbrev pub count_line : List ℕ → ℕ → ℕ → LineKind ℕ
count_line word least most = record { Tells = IsWithin least most; spelled = λ n. line (word ∷ number n ∷ []) }

-- a line of octets
abbrev pub octets_line : List ℕ → (List ℕ → Type 0) → LineKind (List ℕ)
octets_line word Tells = record { Tells = Tells; spelled = λ octets. line (word ∷ hex octets ∷ []) }

abbrev pub coding_word : NameCoding → List ℕ
coding_word Plain = codes "plain"
coding_word Tag70 = codes "tag70"

abbrev pub meta_place_word : MetaPlace → List ℕ
meta_place_word Header = codes "header"
meta_place_word Attribute = codes "attribute"

abbrev pub first_line : LineKind (Unit {0})
first_line = fixed_line (codes "ecryptfs-job" ∷ codes "1" ∷ [])

abbrev pub passphrase_line : LineKind (List ℕ)
passphrase_line = octets_line (codes "passphrase") IsPassphrase

abbrev pub salt_line : LineKind (List ℕ)
salt_line = octets_line (codes "salt") (HasOctets 8)

abbrev pub namesalt_line : LineKind (List ℕ)
namesalt_line = octets_line (codes "namesalt") (HasOctets 8)

abbrev pub names_line : LineKind NameCoding
names_line = record { Tells = IsAny; spelled = λ coding. line (codes "names" ∷ coding_word coding ∷ []) }

abbrev pub meta_line : LineKind MetaPlace
meta_line = record { Tells = IsAny; spelled = λ place. line (codes "meta" ∷ meta_place_word place ∷ []) }

abbrev pub random_line : LineKind (List ℕ)
random_line = octets_line (codes "random") (HasOctets 32)

-- The decimal digits of a number of any size: where there are two or more, the first is no zero.
pub record IsDecimal (digits : List ℕ) : Type 0 where
  pub numeral : IsNumeral 10 digits
  pub lead : slice_index digits 0 ≡ 48 → length digits ≡ 1

-- The length of the image, told by its digits. It may be more than any input has.
abbrev pub image_line : LineKind (List ℕ)
image_line = record { Tells = IsDecimal; spelled = λ digits. line (codes "image" ∷ digits ∷ []) }

-- the line end behind an image
abbrev pub image_end : LineKind (Unit {0})
image_end = fixed_line []

abbrev pub sessions_line : LineKind ℕ
sessions_line = count_line (codes "sessions") 1 MOST_SESSIONS

abbrev pub script_line : LineKind ℕ
script_line = count_line (codes "script") 0 MOST_OPERATIONS

abbrev pub operation_line : LineKind Op
operation_line = record { Tells = IsOp; spelled = op_line }

-- the schedule of a job of so many sessions
abbrev pub schedule_line : ℕ → LineKind (List ℕ)
schedule_line sessions = record { Tells = IsSchedule sessions; spelled = λ items. line (codes "schedule" ∷ map number items) }

abbrev pub end_line : LineKind (Unit {0})
end_line = fixed_line (codes "end" ∷ [])

-- ---- the text

-- the settings of the mount
abbrev pub settings_text : Job → List ℕ
settings_text job =
    first_line.spelled tt
    ++ passphrase_line.spelled job.passphrase
    ++ salt_line.spelled job.salt
    ++ namesalt_line.spelled job.namesalt
    ++ names_line.spelled job.names
    ++ meta_line.spelled job.meta_place
    ++ random_line.spelled job.random

-- the length of an image, its octets, and a line end
abbrev pub image_text : List ℕ → List ℕ
image_text octets = image_line.spelled (number (length octets)) ++ octets ++ image_end.spelled tt

-- the number of a session's operations, and their lines
abbrev pub session_text : List Op → List ℕ
session_text ops = script_line.spelled (length ops) ++ flat_map operation_line.spelled ops

abbrev pub job_text : Job → List ℕ
job_text job =
    settings_text job
    ++ image_text (image job.image)
    ++ sessions_line.spelled (length job.scripts)
    ++ flat_map session_text job.scripts
    ++ (schedule_line (length job.scripts)).spelled job.schedule
    ++ end_line.spelled tt

-- These octets are the whole of this job.
pub record IsJobText (job : Job) (octets : List ℕ) : Type 0 where
  pub lawful : IsJob job
  pub short : length octets ≤ MOST_OCTETS
  pub text : octets ≡ job_text job
