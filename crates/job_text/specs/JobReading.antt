-- Reading a job line by line, up to the first line that isn't in the grammar at its place.
use Rattle.std.specs.Prelude.{ℕ, zero, suc, ◌≡◌, ◌-◌, List, [], ◌∷◌, length, take, drop, codes, Option, Some, None, Result, Ok, Err, nat_lt, nat_le, ◌==◌, ◌&&◌, ◌⊎◌, if◌then◌else◌}
use Rattle.std.specs.List.{slice_split}
use Rattle.std.specs.Str.{bytes_eq}
use Rattle.answer_model.specs.Answer.{◌>>=◌, GivesAs}
use Rattle.lower_model.specs.declared.node.LowerNode.{LowerNode}
use Rattle.image_model.specs.declared.fault.ImageFault.{ImageFault}
use Rattle.image_model.specs.ImageReading.{reading}
use Rattle.script_model.specs.declared.op.Op.{Op}
use Rattle.script_model.specs.declared.limits.TheConstants.{MOST_OPERATIONS}
use Rattle.reading_model.specs.OpReading.{op_in}
use Rattle.job_model.specs.declared.limits.TheConstants.{LONGEST_PASSPHRASE, MOST_SESSIONS, MOST_ITEMS}
use Rattle.job_model.specs.declared.job.Job.{Job}
use Rattle.job_model.specs.declared.job.NameCoding.{NameCoding}
use Rattle.job_model.specs.declared.job.NameCoding.TheVariants.{Plain, Tag70}
use Rattle.lower_model.specs.declared.meta_place.MetaPlace.{MetaPlace}
use Rattle.lower_model.specs.declared.meta_place.MetaPlace.TheVariants.{Header, Attribute}
use Rattle.reading_model.specs.Lines.{line_in}
use Rattle.reading_model.specs.Fields.{any_number_in, number_in, hex_in, sized_hex_in, each_in}
use Rattle.job_text.specs.declared.fault.JobError.{JobError}
use Rattle.job_text.specs.declared.fault.JobError.TheVariants.{Bad, Memory}
use Rattle.job_text.specs.declared.fault.LineError.{LineError}
use Rattle.job_text.specs.declared.fault.LineError.TheVariants as errors
use Rattle.job_text.specs.declared.settings.Keys.{Keys}
use Rattle.job_text.specs.declared.settings.Making.{Making}

-- how many octets are left from the wrong line on; none for want of memory
abbrev pub left_of : LineError → Option ℕ
left_of (errors.Wrong left) = Some left
left_of errors.Memory = None

-- what the reading gives, seen by view, unless memory ran out
abbrev pub Gives : {X Y : Type 0} → (X → Y) → Result X LineError → Result Y ℕ → Type 0
Gives view answer read = GivesAs view left_of (Unit {0}) answer read

-- A part of a job is a value and the octets behind it. Of a wrong line, it is told how many octets are left from its first one on.
abbrev pub Part : Type 0 → Type 0
Part A = Result (A × List ℕ) ℕ

abbrev pub or_wrong : {A : Type 0} → Option A → List ℕ → Result A ℕ
or_wrong (Some value) octets = Ok value
or_wrong None octets = Err (length octets)

-- what stands behind a word
abbrev pub behind : List ℕ → List ℕ → Option (List ℕ)
behind word text = if bytes_eq (take (length word) text) word then Some (drop (length word) text) else None

-- what stands behind a word in the first line
unfoldable pub word_at : List ℕ → List ℕ → Part (List ℕ)
word_at word octets = do
  line ← or_wrong (line_in octets) octets
  text ← or_wrong (behind word line.0) octets
  Ok (text, line.1)

-- a line of a word and a field
abbrev pub field_at : {A : Type 0} → List ℕ → (List ℕ → Option A) → List ℕ → Part A
field_at word read octets = do
  text ← word_at word octets
  value ← or_wrong (read text.0) octets
  Ok (value, text.1)

-- a first line that is this word, and so the octets behind it
unfoldable pub whole_at : List ℕ → List ℕ → Result (List ℕ) ℕ
whole_at word octets = do
  text ← word_at word octets
  if length text.0 == 0 then Ok text.1 else Err (length octets)

-- so many lines, or texts of several lines, one after another
unfoldable pub times_at : {A : Type 0} → (List ℕ → Part A) → ℕ → List ℕ → Part (List A)
times_at read zero octets = Ok ([], octets)
times_at read (suc count) octets = do
  first ← read octets
  others ← times_at read count first.1
  Ok (first.0 ∷ others.0, others.1)

-- ---- the settings

abbrev pub passphrase_of : List ℕ → Option (List ℕ)
passphrase_of octets = if nat_le 1 (length octets) && nat_le (length octets) LONGEST_PASSPHRASE then Some octets else None

abbrev pub passphrase_if : Option (List ℕ) → Option (List ℕ)
passphrase_if None = None
passphrase_if (Some octets) = passphrase_of octets

-- some octets, and not too many
abbrev pub passphrase_in : List ℕ → Option (List ℕ)
passphrase_in text = passphrase_if (hex_in text)

abbrev pub coding_in : List ℕ → Option NameCoding
coding_in text = if bytes_eq text (codes "plain") then Some Plain else if bytes_eq text (codes "tag70") then Some Tag70 else None

abbrev pub meta_place_in : List ℕ → Option MetaPlace
meta_place_in text = if bytes_eq text (codes "header") then Some Header else if bytes_eq text (codes "attribute") then Some Attribute else None

abbrev pub keys_of : List ℕ → List ℕ → List ℕ → Keys
keys_of passphrase salt namesalt = record { passphrase = passphrase; salt = salt; namesalt = namesalt }

-- the passphrase and the two salts
unfoldable pub keys_at : List ℕ → Part Keys
keys_at octets = do
  passphrase ← field_at (codes "passphrase ") passphrase_in octets
  salt ← field_at (codes "salt ") (sized_hex_in 8) passphrase.1
  namesalt ← field_at (codes "namesalt ") (sized_hex_in 8) salt.1
  Ok (keys_of passphrase.0 salt.0 namesalt.0, namesalt.1)

-- what new names and files are made of
unfoldable pub making_at : List ℕ → Part Making
making_at octets = do
  names ← field_at (codes "names ") coding_in octets
  meta_place ← field_at (codes "meta ") meta_place_in names.1
  random ← field_at (codes "random ") (sized_hex_in 32) meta_place.1
  Ok (record { names = names.0; meta_place = meta_place.0; random = random.0 }, random.1)

-- ---- the image

-- the octets behind a line end
abbrev pub behind_end : List ℕ → Result (List ℕ) ℕ
behind_end [] = Err 0
behind_end (c ∷ rest) = if c == 10 then Ok rest else Err (length (c ∷ rest))

-- A fault of the image has its offset in it.
abbrev pub image_or_fault : {A : Type 0} → Result A ImageFault → List ℕ → Result A ℕ
image_or_fault (Ok nodes) octets = Ok nodes
image_or_fault (Err fault) octets = Err (length octets - fault.offset)

-- The image of this length. Where fewer octets are left, they are wrong from the image's first one on.
abbrev pub sized_image_at : ℕ → List ℕ → Part (List LowerNode)
sized_image_at count octets =
    if nat_lt (length octets) count then Err (length octets) else (image_or_fault (reading (take count octets)) octets >>= λ nodes. behind_end (drop count octets) >>= λ rest. Ok (nodes, rest))

-- Its length is a number of any size.
unfoldable pub image_at : List ℕ → Part (List LowerNode)
image_at octets = do
  count ← field_at (codes "image ") any_number_in octets
  sized_image_at count.0 count.1

-- ---- the scripts

abbrev pub number_if : ℕ → ℕ → Option ℕ → Option ℕ
number_if least most None = None
number_if least most (Some n) = if nat_le least n && nat_le n most then Some n else None

-- a number from least to most
abbrev pub count_in : ℕ → ℕ → List ℕ → Option ℕ
count_in least most text = number_if least most (number_in text)

unfoldable pub op_at : List ℕ → Part Op
op_at octets = do
  line ← or_wrong (line_in octets) octets
  op ← or_wrong (op_in line.0) octets
  Ok (op, line.1)

unfoldable pub script_at : List ℕ → Part (List Op)
script_at octets = do
  count ← field_at (codes "script ") (count_in 0 MOST_OPERATIONS) octets
  times_at op_at count.0 count.1

-- at least one session
unfoldable pub scripts_at : List ℕ → Part (List (List Op))
scripts_at octets = do
  count ← field_at (codes "sessions ") (count_in 1 MOST_SESSIONS) octets
  times_at script_at count.0 count.1

-- ---- the schedule

abbrev pub item_if : ℕ → Option ℕ → Option ℕ
item_if sessions None = None
item_if sessions (Some n) = if nat_lt n sessions then Some n else None

abbrev pub item_in : ℕ → List ℕ → Option ℕ
item_in sessions text = item_if sessions (number_in text)

abbrev pub items_if : Option (List ℕ) → Option (List ℕ)
items_if None = None
items_if (Some items) = if nat_le (length items) MOST_ITEMS then Some items else None

-- a blank before each item
abbrev pub items_in : ℕ → List ℕ → Option (List ℕ)
items_in sessions [] = Some []
items_in sessions (c ∷ text) = if c == 32 then items_if (each_in (item_in sessions) (slice_split (λ c. c == 32) text)) else None

abbrev pub schedule_at : ℕ → List ℕ → Part (List ℕ)
schedule_at sessions octets = field_at (codes "schedule") (items_in sessions) octets

-- ---- the job

unfoldable pub end_at : List ℕ → Result (Unit {0}) ℕ
end_at octets = do
  rest ← whole_at (codes "end") octets
  if length rest == 0 then Ok tt else Err (length rest)

abbrev pub job_of : Keys → Making → List LowerNode → List (List Op) → List ℕ → Job
job_of keys making image scripts schedule =
    record { passphrase = keys.passphrase; salt = keys.salt; namesalt = keys.namesalt; names = making.names; meta_place = making.meta_place; random = making.random; image = image; scripts = scripts; schedule = schedule }

-- what stands behind the settings
abbrev pub Work : Type 0
Work = List LowerNode × List (List Op) × List ℕ

-- the image, the scripts, the schedule, and nothing behind the end
unfoldable pub work_at : List ℕ → Result Work ℕ
work_at octets = do
  image ← image_at octets
  scripts ← scripts_at image.1
  schedule ← schedule_at (length scripts.0) scripts.1
  nothing ← end_at schedule.1
  Ok (image.0, scripts.0, schedule.0)

unfoldable pub job_at : List ℕ → Result Job ℕ
job_at octets = do
  head ← whole_at (codes "ecryptfs-job 1") octets
  keys ← keys_at head
  making ← making_at keys.1
  work ← work_at making.1
  Ok (job_of keys.0 making.0 work.0 work.1 work.2)

-- ---- the answer

-- this job, or memory ran out
abbrev pub IsJobOrMemory : Job → Result Job JobError → Type 0
IsJobOrMemory job answer = (answer ≡ Ok job) ⊎ (answer ≡ Err Memory)

-- this place, or memory ran out
abbrev pub IsBadOrMemory : ℕ → Result Job JobError → Type 0
IsBadOrMemory place answer = (answer ≡ Err (Bad place)) ⊎ (answer ≡ Err Memory)
