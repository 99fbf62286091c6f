-- What it means that an output serves a job.
use Rattle.std.specs.Prelude.{◌≡◌, ◌==◌, ℕ, zero, suc, ◌<◌, ◌⊎◌, if◌then◌else◌, Bool, true, List, []}
use mathlib.Core.Logic.{inl, inr}
use Rattle.answer_model.specs.Count.{Rose}
use Rattle.lower_model.specs.declared.node.LowerNode.{LowerNode}
use Rattle.lower_model.specs.LowerTree.{IsLowerTree}
use Rattle.tree_model.specs.PlainTree.{PlainTree}
use Rattle.tree_model.specs.IsTree.{IsTree}
use Rattle.names_model.specs.ShownBy.{shown_of}
use Rattle.names_model.specs.CarriedBy.{Leaves}
use Rattle.names_model.specs.LowerPaths.{files_of}
use Rattle.mount_model.specs.MountForm.{form_of_job, format_of_job}
use Rattle.lower_tree.specs.Held.{stores}
use Rattle.lower_tree.specs.Making.{sum_of_counts}
use Rattle.body_model.specs.LowerFile.{LowerFile}
use Rattle.body_model.specs.Format.{content}
use Rattle.file_model.specs.declared.open_slot.OpenSlot.{OpenSlot}
use Rattle.file_model.specs.ByteFile.{FileState}
use Rattle.file_model.specs.FileLog.{IsTurn, counts_of, entries_at, entries_in}
use Rattle.file_model.specs.Shard.{IsCausedTurn, MayBeLeft, state_by, was_opened}
use Rattle.session_model.specs.declared.entry.FileEntry.{FileEntry}
use Rattle.session_model.specs.Legal.{IsLegal, CountsFrom}
use Rattle.session_model.specs.TreeLog.{IsTreeLog}
use Rattle.session_model.specs.ScriptCalls.{AreScriptCalls}
use Rattle.session_model.specs.Session.{Member}
use Rattle.session_model.specs.Walks.{InOrder, members, replies_of}
use Rattle.job_model.specs.declared.job.Job.{Job}
use Rattle.served_model.specs.declared.end.ReportEnd.TheVariants.{Image, Stuck}
use Rattle.served_model.specs.declared.end.TheConstants.{MAKER_PART, NAMES_PART, PARTS}
use Rattle.served_model.specs.ReportText.{Report, report_text, stuck_text}

-- What a run sees of the maker of its lower parts: whether it tells what they hold; how many of its own calls failed; and the tally of each of
-- the nine parts, 0 for the names and 1 to 8 for the stores of bodies: how many calls failed on those that were given back.
pub record Maker : Type 0 where
  pub tells : Bool
  pub faults : ℕ
  pub tallies : ℕ → ℕ

-- ---- counts of faults

-- The tally of each part rose by so many faults, as far as a u64 goes.
abbrev pub CountsFaults : Maker → Maker → (ℕ → ℕ) → Type 0
CountsFaults before after faults = (part : ℕ) → part < PARTS → after.tallies part ≡ sum_of_counts (before.tallies part) (faults part)

-- so many faults of the names, and none of the stores of bodies
abbrev pub names_alone : ℕ → ℕ → ℕ
names_alone faults zero = faults
names_alone faults (suc store) = 0

-- ---- what the scripts of a job see and do

-- A plain tree under the job's form of names is opened: the one that the job's image shows, as far as the maker tells.
pub record IsOpening (tells : Bool) (job : Job) (start : PlainTree) : Type 0 where
  pub is_tree : IsTree start.places
  pub limit : start.limit ≡ (form_of_job job).longest
  pub shown : tells ≡ true → start ≡ shown_of (form_of_job job) job.image

-- the file of a node at first: what the job's image has there decodes to, and no octets at a new node
abbrev pub first_state : Job → ℕ → FileState
first_state job node = state_by (content (format_of_job job) (files_of job.image node))

-- The turns of all files, by which each goes from its first state to its last one.
pub record IsFileHistory (tells : Bool) (job : Job) (log : List FileEntry) (files : ℕ → FileState) (faults : ℕ → ℕ) : Type 0 where
  -- whatever the maker tells, each turn has its cause
  pub caused : (node : ℕ) → (slots : List OpenSlot) × IsLegal IsCausedTurn [] (entries_at node log) slots
  -- if it tells, each is one that a byte file could have had
  pub legal : tells ≡ true → (node : ℕ) → IsLegal IsTurn (first_state job node) (entries_at node log) (files node)
  -- in the entries of each store of bodies the counts of faults go from 0 to these
  pub counts : (store : ℕ) → store < stores → CountsFrom counts_of 0 (entries_in store log) (faults store)

-- The scripts of a job ran, with the histories and replies of this report. This plain tree and these files are left. So many calls on each part failed, 0 the names
-- and 1 to 8 the stores of bodies.
pub record RanScripts (tells : Bool) (job : Job) (report : Report) (end : PlainTree) (files : ℕ → FileState) (faults : ℕ → ℕ) : Type 0 where
  pub start : PlainTree
  pub opening : IsOpening tells job start
  -- the tree's history is one that a plain tree could have had, whose counts of faults go from 0 to these
  pub tree_history : IsTreeLog start 0 report.histories.tree end (faults NAMES_PART)
  pub file_history : IsFileHistory tells job report.histories.file files (λ store. faults (suc store))
  -- the histories hold each session's calls once, in its order, with the replies that it got, and no others
  pub script_calls : AreScriptCalls job.scripts report.histories report.sessions

-- ---- what is left of the files

-- What the lower file of a node may be. Where a session opened it, it stands by itself for the octets of the last state: it decodes to them, of the metadata that
-- was found nothing changed but the size, or it is that of a new file where there was none, and length and octets past the size are exact. Elsewhere it is as the
-- job's image has it.
abbrev pub IsLeftOf : Job → List FileEntry → (ℕ → FileState) → ℕ → LowerFile → Type 0
IsLeftOf job log files node file = MayBeLeft (format_of_job job) (files_of job.image node) node (was_opened node log) (files node) file

-- The output is the text of a report that serves the job: its image is a lower tree, and as far as the maker tells, what the run leaves of the job's,
-- with the plain tree and the files at the end of their histories.
pub record Served (job : Job) (before after : Maker) (output : List ℕ) : Type 0 where
  pub report : Report
  pub end : PlainTree
  pub files : ℕ → FileState
  pub faults : ℕ → ℕ
  pub ran : RanScripts before.tells job report end files faults
  pub counted : CountsFaults before after faults
  pub image : List LowerNode
  pub prints : report.end ≡ Image image
  pub lawful : IsLowerTree image
  pub leaves : before.tells ≡ true → Leaves (form_of_job job) (IsLeftOf job report.histories.file files) job.image end image
  pub calm : after.faults ≡ before.faults
  pub text : output ≡ report_text report

-- ---- a run that a failure of its lower parts ended, with the failed part and its counts

-- The maker couldn't split the job's image.
pub record IsStuckAtSplit (before after : Maker) (output : List ℕ) : Type 0 where
  pub rose : Rose before.faults after.faults
  pub counted : (part : ℕ) → after.tallies part ≡ before.tallies part
  pub text : output ≡ stuck_text MAKER_PART before.faults after.faults

-- The names couldn't be opened.
pub record IsStuckAtOpening (before after : Maker) (output : List ℕ) : Type 0 where
  pub faults : ℕ
  pub rose : Rose 0 faults
  pub counted : CountsFaults before after (names_alone faults)
  pub calm : after.faults ≡ before.faults
  pub text : output ≡ stuck_text NAMES_PART 0 faults

-- the faults of each part, where one has these at the last
abbrev pub with_last : ℕ → ℕ → (ℕ → ℕ) → ℕ → ℕ
with_last stuck last faults part = if part == stuck then last else faults part

-- The scripts ran, and a store of bodies couldn't be written out.
pub record IsStuckAtWriteOut (job : Job) (before after : Maker) (output : List ℕ) : Type 0 where
  pub report : Report
  pub end : PlainTree
  pub files : ℕ → FileState
  pub faults : ℕ → ℕ
  pub ran : RanScripts before.tells job report end files faults
  pub store : ℕ
  pub is_store : store < stores
  pub last : ℕ
  pub rose : Rose (faults (suc store)) last
  pub counted : CountsFaults before after (with_last (suc store) last faults)
  pub calm : after.faults ≡ before.faults
  pub prints : report.end ≡ Stuck (suc store) (faults (suc store)) last
  pub text : output ≡ report_text report

-- The scripts ran and all was written out, and the maker couldn't unite what they left.
pub record IsStuckAtUnite (job : Job) (before after : Maker) (output : List ℕ) : Type 0 where
  pub report : Report
  pub end : PlainTree
  pub files : ℕ → FileState
  pub faults : ℕ → ℕ
  pub ran : RanScripts before.tells job report end files faults
  pub counted : CountsFaults before after faults
  pub rose : Rose before.faults after.faults
  pub prints : report.end ≡ Stuck MAKER_PART before.faults after.faults
  pub text : output ≡ report_text report

abbrev pub IsStuck : Job → Maker → Maker → List ℕ → Type 0
IsStuck job before after output =
    IsStuckAtSplit before after output ⊎ IsStuckAtOpening before after output ⊎ IsStuckAtWriteOut job before after output ⊎ IsStuckAtUnite job before after output

-- ---- the order of a schedule

-- The histories are those of a walk: for each item of the job's schedule that session makes its next call, or does its next operation that makes none; then the sessions run to their ends, in
-- rising order. These are the replies that they get.
pub record IsInOrder (job : Job) (report : Report) : Type 0 where
  pub last : List Member
  pub order : InOrder (members 0 job.scripts) job.schedule report.histories last
  pub replies : report.sessions ≡ replies_of last

-- The output serves the job, in the order of its schedule.
pub record ServedInOrder (job : Job) (before after : Maker) (output : List ℕ) : Type 0 where
  pub served : Served job before after output
  pub in_order : IsInOrder job served.report

-- where the scripts ran, it was in the order of the schedule
abbrev pub RanInOrder : (job : Job) (before after : Maker) (output : List ℕ) → IsStuck job before after output → Type 0
RanInOrder job before after output (inl split) = Unit {0}
RanInOrder job before after output (inr (inl opening)) = Unit {0}
RanInOrder job before after output (inr (inr (inl write_out))) = IsInOrder job write_out.report
RanInOrder job before after output (inr (inr (inr unite))) = IsInOrder job unite.report

-- A failure of the lower parts ended the run, whose histories are in the order of the schedule, if it has any.
pub record IsStuckInOrder (job : Job) (before after : Maker) (output : List ℕ) : Type 0 where
  pub stuck : IsStuck job before after output
  pub in_order : RanInOrder job before after output stuck
