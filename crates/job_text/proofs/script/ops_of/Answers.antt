use Rattle.std.proofs.lemmas.Result.{err_from_is_err_and}
use Rattle.job_text.specs.JobReading.{op_at, times_at}
use Rattle.job_text.proofs.PartsInARow.{goes_on, stops, is_done}
use Rattle.job_text.proofs.script.ops_of.Goals as goal

pub returns-in_err-op : goal.returns-in_err-op
returns-in_err-op c =
    let p = err_from_is_err_and c.from_residual.result c.from_residual.ensures.1 in
    rw (p.1, p.2) (stops op_at c.in_err-op.field-0.0 c.loop.ops c.args.count c.loop.counter c.loop.rest.now (times_at op_at c.args.count c.args.octets.now) c.loop-test.true c.in_err-op.ensures c.loop.invariant)

pub loop-preserved : goal.loop-preserved
loop-preserved c =
    rw c.in_ok-push.ensures.ok (goes_on op_at c.loop.ops c.args.count c.loop.counter c.loop.rest.now c.in_ok-op.op c.in_ok-op.behind.now (times_at op_at c.args.count c.args.octets.now) c.loop-test.true c.in_ok-op.ensures c.loop.invariant)

pub returns : goal.returns
returns c = is_done op_at c.loop.ops c.args.count c.loop.counter c.loop.rest.now (times_at op_at c.args.count c.args.octets.now) c.loop-test.false c.loop.invariant
