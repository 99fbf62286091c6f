-- A command whose parts have no fault is done.
use Rattle.std.proofs.Common.{◌≡◌, ℕ, suc, ◌+◌, ◌-◌, ◌<◌, ◌^◌, min, true, List, Option, inl, inr, lit<, refl, ◌∙◌, ap, subst, arith}
use Rattle.std.specs.Prelude.{◌==◌, ◌⊎◌}
use Rattle.answer_model.specs.Count.{Rose}
use Rattle.lower_tree.specs.Making.{sum_of_counts}
use Rattle.job_model.specs.declared.job.Job.{Job}
use Rattle.file_model.proofs.Entries.{is_equal}
use Rattle.served_model.specs.declared.end.TheConstants.{PARTS}
use Rattle.served_model.specs.Served.{Maker, Served, IsStuck, IsStuckAtWriteOut, with_last}
use Rattle.make_model.specs.MakeJobs.{job_a, job_b}
use Rattle.make_model.specs.Made.{IsStuckMake}
use Rattle.mount_run.specs.declared.status.TheConstants.{OK, BAD_JOB, LOWER_FAULT, TOO_LONG}
use Rattle.mount_run.specs.declared.words.Command.{Command}
use Rattle.mount_run.specs.declared.words.Command.TheVariants.{ForJob, Make}
use Rattle.mount_run.specs.declared.words.JobCommand.{JobCommand}
use Rattle.mount_run.specs.declared.words.JobCommand.TheVariants.{Replay, Show}
use Rattle.mount_run.specs.InputAndOutput.{Writes, Answers, Makes, Does, HasNotRisen}
use Rattle.mount_run.specs.InputAndOutput.Answers.{ToJob, ToBadJob, ToTooMany}

rose_by : (before after first faults : ℕ) → Rose first faults → after ≡ min (before + faults) (2 ^ 64 - 1) → Rose before after
rose_by before after first faults rose is = omega arith

-- a count that rose after it counted other faults rose over both
rose_since : (before between after faults : ℕ) → between ≡ sum_of_counts before faults → Rose between after → Rose before after
rose_since before between after faults counted rose = omega arith

-- the tally of a store that couldn't be written out rose
out_rose : (job : Job) (before after : Maker) (output : List ℕ) (stuck : IsStuckAtWriteOut job before after output) → Rose (before.tallies (suc stuck.store)) (after.tallies (suc stuck.store))
out_rose job before after output stuck =
    let part : ℕ = suc stuck.store in
    let below : part < PARTS = (let within = stuck.is_store in omega arith) in
    let last : with_last part stuck.last stuck.faults part ≡ stuck.last = (let here : (part == part) ≡ true = is_equal part part refl in rw here refl) in
    rose_by (before.tallies part) (after.tallies part) (stuck.faults part) stuck.last stuck.rose (stuck.counted part below ∙ ap (sum_of_counts (before.tallies part)) last)

no_stuck : (job : Job) (before after : Maker) (output : List ℕ) → HasNotRisen before after → IsStuck job before after output → ⊥
no_stuck job before after output none (inl split) = none.maker split.rose
no_stuck job before after output none (inr (inl opening)) = none.parts 0 (lit< tt) (rose_by (before.tallies 0) (after.tallies 0) 0 opening.faults opening.rose (opening.counted 0 (lit< tt)))
no_stuck job before after output none (inr (inr (inl out))) = none.parts (suc out.store) (let within = out.is_store in omega arith) (out_rose job before after output out)
no_stuck job before after output none (inr (inr (inr unite))) = none.maker unite.rose

-- behind a replay whose report was made nothing has risen that hasn't over both
none_since : (job : Job) (before between after : Maker) (report : List ℕ) → Served job before between report → HasNotRisen before after → HasNotRisen between after
none_since job before between after report served none = record {
  maker = λ rose. none.maker (subst (λ faults. Rose faults after.faults) served.calm rose);
  parts = λ part below rose. none.parts part below (rose_since (before.tallies part) (between.tallies part) (after.tallies part) (served.faults part) (served.counted part below) rose);
}

no_stuck_make : (n : ℕ) (before after : Maker) (output : List ℕ) → HasNotRisen before after → IsStuckMake n before after output → ⊥
no_stuck_make n before after output none (inl first) = no_stuck (job_a n).0 before after output none first.stuck
no_stuck_make n before after output none (inr at_b) =
    let served = at_b.replayed_a.served in
    let since = none_since (job_a n).0 before at_b.between after at_b.report_a served none in
    no_stuck (job_b n served.image) at_b.between after output since at_b.stuck.stuck

pub job_done : (command : JobCommand) (job : Job) (before after : Maker) (status : ℕ) (output : List ℕ) → HasNotRisen before after → Writes command job before after status output → status ≡ OK
job_done Replay job before after status output none (inl served) = served.0
job_done Replay job before after status output none (inr stuck) = absurd (no_stuck job before after output none stuck.1.stuck)
job_done Show job before after status output none shows = shows.0

pub make_done : (n : ℕ) (before after : Maker) (status : ℕ) (output : List ℕ) → HasNotRisen before after → Makes n before after status output → status ≡ OK
make_done n before after status output none (inl text) = text.0
make_done n before after status output none (inr stuck) = absurd (no_stuck_make n before after output none stuck.1)

no_bad_job : (status : ℕ) → status ≡ BAD_JOB → (status ≡ OK) ⊎ (status ≡ LOWER_FAULT) → ⊥
no_bad_job status is (inl ok) = omega arith
no_bad_job status is (inr fault) = omega arith

not_too_long : (status : ℕ) → status ≡ TOO_LONG → (status ≡ OK) ⊎ (status ≡ LOWER_FAULT) → ⊥
not_too_long status is (inl ok) = omega arith
not_too_long status is (inr fault) = omega arith

answer_done : (command : JobCommand) (octets : List ℕ) (before after : Maker) (status : ℕ) (output : List ℕ) → HasNotRisen before after → Answers command octets before after status output
    → (status ≡ OK) ⊎ (status ≡ LOWER_FAULT) → status ≡ OK
answer_done command octets before after status output none (ToJob job text writes) ends = job_done command job before after status output none writes
answer_done command octets before after status output none (ToBadJob place bad is text same) ends = absurd (no_bad_job status is ends)
answer_done command octets before after status output none (ToTooMany many is text same) ends = absurd (not_too_long status is ends)

-- A command that ends well or by a fault of a lower part ends well, where no part has one.
pub done : (command : Command) (left_old left_new : Option (List ℕ)) (before after : Maker) (status : ℕ) (output : List ℕ) → HasNotRisen before after
    → Does command left_old left_new before after status output → (status ≡ OK) ⊎ (status ≡ LOWER_FAULT) → status ≡ OK
done (ForJob command) left_old left_new before after status output none took ends = answer_done command took.octets before after status output none took.answers ends
done (Make n) left_old left_new before after status output none does ends = make_done n before after status output none does.1
