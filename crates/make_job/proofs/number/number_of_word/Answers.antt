use Rattle.std.proofs.Common.{ℕ, ◌<◌, arith}
use Rattle.make_model.specs.MakeJobs.{IsMakeNumber}
use Rattle.make_job.proofs.MakeNumbers.{spells_none}
use Rattle.make_job.proofs.number.number_of_word.Goals as goal
use Rattle.make_job.proofs.number.number_of_word.Goals.{else-number-via-then-number+else-number-2, else-number-via-else-number}

pub returns-else-number : goal.returns-else-number
returns-else-number c =
    rw (← c.as_bytes.ensures.value) (spells_none c.as_bytes.result.now c.in_ok-number.number c.in_ok-number.ensures.reads
    (λ (is : IsMakeNumber c.in_ok-number.number).
    elim c.else-number.branch [
      | else-number-via-then-number+else-number-2 w ↦ absurd (omega (arith, is.least, is.greatest))
      | else-number-via-else-number w ↦ absurd (omega (arith, is.least, is.greatest))
    ]))
