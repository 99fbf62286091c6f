use Rattle.std.proofs.Common.{◌≡◌, ℕ, List, Result, Ok, Err, inl, inr, refl, sym, ap, subst}
use Rattle.std.proofs.lemmas.Result.{IfOk-weaker}
use Rattle.job_model.specs.declared.job.Job.{Job}
use Rattle.job_model.specs.JobText.{IsJobText}
use Rattle.job_model.specs.BadPlace.{IsBadJob}
use Rattle.job_text.specs.declared.fault.JobError.{JobError}
use Rattle.job_text.specs.JobReading.{IsBadOrMemory}
use Rattle.mount_run.specs.declared.output.Output.{Output}
use Rattle.mount_run.specs.declared.status.TheConstants.{BAD_JOB}
use Rattle.mount_run.specs.InputAndOutput.{maker_of, Answers, Writes}
use Rattle.mount_run.specs.InputAndOutput.Answers.{ToJob, ToBadJob}
use Rattle.mount_run.proofs.answer.answer.Goals as goal

-- what was read is bad at no place
no_bad_job : {answer : Result Job JobError} (job : Job) (place : ℕ) → answer ≡ Ok job → IsBadOrMemory place answer → ⊥
no_bad_job job place read (inl bad) = absurd cc
no_bad_job job place read (inr memory) = absurd cc

pub returns-in-Ok-clause-answers : goal.returns-in-Ok-clause-answers
returns-in-Ok-clause-answers g c =
    let octets = c.args.octets.items in
    let before = maker_of g.M.LowerMaker.tells g.M.LowerMaker.count g.M.LowerMaker.tally_of c.args.lower.now in
    let after = maker_of g.M.LowerMaker.tells g.M.LowerMaker.count g.M.LowerMaker.tally_of c.output_for.new.lower in
    let found = subst (IsJobText c.in-Ok.job) c.deref.ensures.value c.in-Ok.ensures.found in
    IfOk-weaker c.output_for.result (λ (out : Output). Writes c.args.command c.in-Ok.job before after out.status out.text.items) (λ (out : Output). Answers c.args.command octets before after out.status out.text.items)
    (λ out writes. ToJob c.in-Ok.job found writes) c.output_for.ensures.writes

pub returns-in-Ok-clause-every_bad : goal.returns-in-Ok-clause-every_bad
returns-in-Ok-clause-every_bad g c =
    let before = maker_of g.M.LowerMaker.tells g.M.LowerMaker.count g.M.LowerMaker.tally_of c.args.lower.now in
    let after = maker_of g.M.LowerMaker.tells g.M.LowerMaker.count g.M.LowerMaker.tally_of c.output_for.new.lower in
    IfOk-weaker c.output_for.result (λ (out : Output). Writes c.args.command c.in-Ok.job before after out.status out.text.items) (λ (out : Output). (place : ℕ) → IsBadJob c.args.octets.items place → out.status ≡ BAD_JOB)
    (λ out writes place bad. absurd (no_bad_job c.in-Ok.job place c.in-Ok.is (c.read_job.ensures.every_bad place (subst (λ (o : List ℕ). IsBadJob o place) (sym c.deref.ensures.value) bad))))
    c.output_for.ensures.writes

pub returns-in-Err-Bad-clause-answers : goal.returns-in-Err-Bad-clause-answers
returns-in-Err-Bad-clause-answers g c =
    let place = c.in-Err-Bad.place in
    let bad = c.in-Err-Bad.ensures.bad place (ap Err c.in-Err-Bad.field-0-is) in
    let text = rw c.in-Err-Bad.field-0-is at c.in_ok-bad_job_text-in-Err-Bad.ensures in
    ToBadJob place (subst (λ (o : List ℕ). IsBadJob o place) c.deref.ensures.value bad) refl text refl
