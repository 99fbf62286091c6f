use Rattle.std.proofs.Common.{◌∷◌, [], length, ap, ◌∙◌, arith}
use Rattle.std.proofs.lemmas.List.{length-append}
use Rattle.std.proofs.lemmas.Result.{err_from_is_err_and}
use Rattle.job_text.specs.JobReading.{script_at, times_at}
use Rattle.job_text.proofs.PartsInARow.{goes_on, stops, is_done}
use Rattle.job_text.proofs.script.sessions_of.Goals as goal

pub returns-in_err-script-clause-read : goal.returns-in_err-script-clause-read
returns-in_err-script-clause-read c =
    let p = err_from_is_err_and c.from_residual.result c.from_residual.ensures.1 in
    rw (p.1, p.2) (stops script_at c.in_err-script.field-0.0 c.loop.scripts c.args.count c.loop.counter c.loop.rest.now (times_at script_at c.args.count c.args.octets.now) c.loop-test.true c.in_err-script.ensures c.loop.invariant.read)

pub loop-preserved : goal.loop-preserved
loop-preserved c = record {
  read = rw c.in_ok-push.ensures.ok (goes_on script_at c.loop.scripts c.args.count c.loop.counter c.loop.rest.now c.in_ok-script.script c.in_ok-script.behind.now (times_at script_at c.args.count c.args.octets.now) c.loop-test.true c.in_ok-script.ensures c.loop.invariant.read);
  count = ap length c.in_ok-push.ensures.ok ∙ omega (arith, length-append c.loop.scripts (c.in_ok-script.script ∷ []), c.loop.invariant.count);
}

pub returns-clause-read : goal.returns-clause-read
returns-clause-read c = is_done script_at c.loop.scripts c.args.count c.loop.counter c.loop.rest.now (times_at script_at c.args.count c.args.octets.now) c.loop-test.false c.loop.invariant.read
