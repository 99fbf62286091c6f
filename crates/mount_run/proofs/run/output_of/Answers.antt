use Rattle.std.proofs.Common.{ℕ, List, Option, sym, subst}
use Rattle.std.proofs.KnownBytes.{Keeps-refl}
use Rattle.job_model.specs.JobText.{IsJobText}
use Rattle.job_model.specs.BadPlace.{IsBadJob}
use Rattle.mount_run.specs.InputAndOutput.{Took}
use Rattle.mount_run.proofs.Taken.{all_taken}
use Rattle.mount_run.proofs.run.output_of.Goals as goal

pub returns-in_ok-answer-in-ForJob-clause-does : goal.returns-in_ok-answer-in-ForJob-clause-does
returns-in_ok-answer-in-ForJob-clause-does g c = rw c.in-ForJob.is (record {
  octets = c.in_ok-octets-in-ForJob.octets.items;
  took = c.in_ok-octets-in-ForJob.ensures.taken;
  answers = c.in_ok-answer-in-ForJob.ensures.answers;
})

pub returns-in_ok-answer-in-ForJob-clause-every_job : goal.returns-in_ok-answer-in-ForJob-clause-every_job
returns-in_ok-answer-in-ForJob-clause-every_job g c = λ for_job octets job is has text.
    let taken = c.in_ok-octets-in-ForJob.octets.items in
    let left = g.S.Source.left c.take_all.new.input in
    let took = subst (λ (l : Option (List ℕ)). Took l left taken) has c.in_ok-octets-in-ForJob.ensures.taken in
    let all = all_taken octets taken left took text.short in
    c.in_ok-answer-in-ForJob.ensures.every_job job (subst (λ (o : List ℕ). IsJobText job o) (sym all) text)

pub returns-in_ok-answer-in-ForJob-clause-every_bad : goal.returns-in_ok-answer-in-ForJob-clause-every_bad
returns-in_ok-answer-in-ForJob-clause-every_bad g c = λ for_job octets place is has bad.
    let taken = c.in_ok-octets-in-ForJob.octets.items in
    let left = g.S.Source.left c.take_all.new.input in
    let took = subst (λ (l : Option (List ℕ)). Took l left taken) has c.in_ok-octets-in-ForJob.ensures.taken in
    let all = all_taken octets taken left took bad.short in
    c.in_ok-answer-in-ForJob.ensures.every_bad place (subst (λ (o : List ℕ). IsBadJob o place) (sym all) bad)

pub returns-in_ok-make-in-Make-clause-does : goal.returns-in_ok-make-in-Make-clause-does
returns-in_ok-make-in-Make-clause-does g c = rw c.in-Make.is (Keeps-refl _, c.in_ok-make-in-Make.ensures)
