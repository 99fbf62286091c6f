-- What a run takes from its input, what it writes, and what becomes of its lower parts. A status is the one that the output is answered with, but for a failed write.
use Rattle.std.specs.Prelude.{◌≡◌, ℕ, ◌+◌, ◌≤◌, ◌<◌, ◌⊎◌, Bool, List, length, take, Option}
use Rattle.std.specs.Io.KnownBytes.{Consumes, IsAtEnd, Appends, Keeps}
use Rattle.job_model.specs.declared.job.Job.{Job}
use Rattle.job_model.specs.declared.limits.TheConstants.{MOST_OCTETS}
use Rattle.job_model.specs.JobText.{IsJobText}
use Rattle.job_model.specs.BadPlace.{IsBadJob}
use Rattle.answer_model.specs.Count.{Rose}
use Rattle.served_model.specs.declared.end.TheConstants.{PARTS}
use Rattle.served_model.specs.Served.{Maker, ServedInOrder, IsStuckInOrder}
use Rattle.show_model.specs.Show.{Shows}
use Rattle.make_model.specs.Made.{IsMakeText, IsStuckMake}
use Rattle.mount_run.specs.declared.words.Command.{Command}
use Rattle.mount_run.specs.declared.words.Command.TheVariants.{ForJob, Make}
use Rattle.mount_run.specs.declared.words.JobCommand.{JobCommand}
use Rattle.mount_run.specs.declared.words.JobCommand.TheVariants.{Replay, Show}
use Rattle.mount_run.specs.declared.status.TheConstants.{OK, BAD_JOB, LOWER_FAULT, TOO_LONG}
use Rattle.mount_run.specs.Refusals.{bad_job_text, too_long_text}
use Rattle.mount_run.specs.Words.{IsCommand, words_of}

-- The most octets that a run takes: one more than a job may have, by which a longer input is known.
abbrev pub most_taken : ℕ
most_taken = MOST_OCTETS + 1

-- Some octets were taken from the source, or none, and no more than a run takes.
pub record TookSome (left_old left_new : Option (List ℕ)) : Type 0 where
  pub octets : List ℕ
  pub taken : Consumes left_old left_new octets
  pub few : length octets ≤ most_taken

-- These octets were taken from the source, and they are all that it had, unless they are more than a job may have.
pub record Took (left_old left_new : Option (List ℕ)) (octets : List ℕ) : Type 0 where
  pub taken : Consumes left_old left_new octets
  pub few : length octets ≤ most_taken
  pub all : length octets ≤ MOST_OCTETS → IsAtEnd left_new

-- The maker of the lower parts, as a run sees it.
abbrev pub maker_of : {M : Type 0} → (M → Bool) → (M → ℕ) → (M → ℕ → ℕ) → M → Maker
maker_of tells count tally lower = record { tells = tells lower; faults = count lower; tallies = tally lower }

-- What a command writes for a job: the report that serves the job in the order of its schedule, or the output of a run that a failure of the lower parts ended; or the show text.
abbrev pub Writes : JobCommand → Job → Maker → Maker → ℕ → List ℕ → Type 0
Writes Replay job before after status output = ((status ≡ OK) × ServedInOrder job before after output) ⊎ ((status ≡ LOWER_FAULT) × IsStuckInOrder job before after output)
Writes Show job before after status output = (status ≡ OK) × Shows job output

-- What a command answers to octets: they are the text of a job, and it does it; or they are bad at a place, or too many, which leaves the maker as it was.
pub data Answers (command : JobCommand) (octets : List ℕ) (before after : Maker) (status : ℕ) (output : List ℕ) : Type 0 where
  ToJob : (job : Job) → IsJobText job octets → Writes command job before after status output → Answers command octets before after status output
  ToBadJob : (place : ℕ) → IsBadJob octets place → status ≡ BAD_JOB → output ≡ bad_job_text place → after ≡ before → Answers command octets before after status output
  ToTooMany : MOST_OCTETS < length octets → status ≡ TOO_LONG → output ≡ too_long_text → after ≡ before → Answers command octets before after status output

-- A command took these octets from the source, and this is what it answers to them.
pub record TookOctets (command : JobCommand) (left_old left_new : Option (List ℕ)) (before after : Maker) (status : ℕ) (output : List ℕ) : Type 0 where
  pub octets : List ℕ
  pub took : Took left_old left_new octets
  pub answers : Answers command octets before after status output

-- What a `make` writes: the text that sums up its two replays, or the output of the one that a failure of the lower parts ended.
abbrev pub Makes : ℕ → Maker → Maker → ℕ → List ℕ → Type 0
Makes n before after status output = ((status ≡ OK) × IsMakeText n before after output) ⊎ ((status ≡ LOWER_FAULT) × IsStuckMake n before after output)

-- what a command does; a `make` takes nothing from the source
abbrev pub Does : Command → Option (List ℕ) → Option (List ℕ) → Maker → Maker → ℕ → List ℕ → Type 0
Does (ForJob command) left_old left_new before after status output = TookOctets command left_old left_new before after status output
Does (Make n) left_old left_new before after status output = Keeps left_old left_new × Makes n before after status output

-- The command that the words tell did so.
pub record Ran (words : List (List ℕ)) (left_old left_new : Option (List ℕ)) (before after : Maker) (status : ℕ) (output : List ℕ) : Type 0 where
  pub command : Command
  pub lawful : IsCommand command
  pub told : words ≡ words_of command
  pub does : Does command left_old left_new before after status output

-- Its output was written, all of it.
pub record IsDone (words : List (List ℕ)) (left_old left_new written_old written_new : Option (List ℕ)) (before after : Maker) (status : ℕ) : Type 0 where
  pub output : List ℕ
  pub ran : Ran words left_old left_new before after status output
  pub written : Appends written_old written_new output

-- A front of its output was written, whatever its status would have been.
pub record IsCut (words : List (List ℕ)) (left_old left_new written_old written_new : Option (List ℕ)) (before after : Maker) : Type 0 where
  pub status : ℕ
  pub output : List ℕ
  pub ran : Ran words left_old left_new before after status output
  pub count : ℕ
  pub written : Appends written_old written_new (take count output)

-- The maker's count hasn't risen, nor any of its nine tallies. A count or a tally that stands at its end counts as risen.
pub record HasNotRisen (before after : Maker) : Type 0 where
  pub maker : Rose before.faults after.faults → ⊥
  pub parts : (part : ℕ) → part < PARTS → Rose (before.tallies part) (after.tallies part) → ⊥
