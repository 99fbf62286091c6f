use Rattle.std.proofs.Common.{◌≡◌, ◌-◌, length, Ok, refl, ap, arith, inl, inr}
use Rattle.job_text.proofs.WholeJob.{is_job_text, one_job}
use Rattle.job_text.proofs.BadPlaces.{as_slice, left_within, told, bad_job, bad_at, no_job, no_bad}
use Rattle.job_text.proofs.whole_job.read_job.Goals as goal

pub overflow_sub-result : goal.overflow_sub-result
overflow_sub-result c =
    left_within c.args.octets.now c.in-Err-Wrong.left (as_slice c.args.octets.now (λ i. omega (arith, c.type_inv.octets i)) (omega (arith, c.if-octets-gt-MOST_OCTETS.false))) (rw c.in-Err-Wrong.field-0-is at c.in-Err-Wrong.ensures)

pub returns-in-Ok-clause-found : goal.returns-in-Ok-clause-found
returns-in-Ok-clause-found c =
    is_job_text c.args.octets.now c.in-Ok.job (as_slice c.args.octets.now (λ i. omega (arith, c.type_inv.octets i)) (omega (arith, c.if-octets-gt-MOST_OCTETS.false))) (omega (arith, c.if-octets-gt-MOST_OCTETS.false)) c.in-Ok.ensures

pub returns-in-Ok-clause-every_job : goal.returns-in-Ok-clause-every_job
returns-in-Ok-clause-every_job c = λ job text. inl (ap Ok (one_job c.args.octets.now c.in-Ok.job job c.in-Ok.ensures text))

pub returns-in-Ok-clause-every_bad : goal.returns-in-Ok-clause-every_bad
returns-in-Ok-clause-every_bad c = λ place bad.
    absurd (no_bad c.args.octets.now c.in-Ok.job place (as_slice c.args.octets.now (λ i. omega (arith, c.type_inv.octets i)) (omega (arith, c.if-octets-gt-MOST_OCTETS.false))) c.in-Ok.ensures bad)

pub returns-in-Err-Wrong-clause-bad : goal.returns-in-Err-Wrong-clause-bad
returns-in-Err-Wrong-clause-bad c = λ place told.
    let is : length c.args.octets.now - c.in-Err-Wrong.left ≡ place = cc in
    bad_job c.args.octets.now c.in-Err-Wrong.left place (as_slice c.args.octets.now (λ i. omega (arith, c.type_inv.octets i)) (omega (arith, c.if-octets-gt-MOST_OCTETS.false))) (omega (arith, c.if-octets-gt-MOST_OCTETS.false)) (rw c.in-Err-Wrong.field-0-is at c.in-Err-Wrong.ensures) is

pub returns-in-Err-Wrong-clause-every_job : goal.returns-in-Err-Wrong-clause-every_job
returns-in-Err-Wrong-clause-every_job c = λ job text. absurd (no_job c.args.octets.now c.in-Err-Wrong.left job (rw c.in-Err-Wrong.field-0-is at c.in-Err-Wrong.ensures) text)

pub returns-in-Err-Wrong-clause-every_bad : goal.returns-in-Err-Wrong-clause-every_bad
returns-in-Err-Wrong-clause-every_bad c = λ place bad.
    inl (told (bad_at c.args.octets.now c.in-Err-Wrong.left place (as_slice c.args.octets.now (λ i. omega (arith, c.type_inv.octets i)) (omega (arith, c.if-octets-gt-MOST_OCTETS.false))) bad (rw c.in-Err-Wrong.field-0-is at c.in-Err-Wrong.ensures)))

pub returns-in-Err-Memory-clause-every_job : goal.returns-in-Err-Memory-clause-every_job
returns-in-Err-Memory-clause-every_job c = λ job text. inr refl

pub returns-in-Err-Memory-clause-every_bad : goal.returns-in-Err-Memory-clause-every_bad
returns-in-Err-Memory-clause-every_bad c = λ place bad. inr refl
