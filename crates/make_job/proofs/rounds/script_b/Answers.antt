use Rattle.std.proofs.Common.{[]}
use Rattle.make_model.specs.MakeJobs.{round}
use Rattle.make_model.proofs.Drawing.{for_each_none, behind_more}
use Rattle.make_job.proofs.rounds.script_b.Goals as goal

pub loop-init : goal.loop-init
loop-init c = rw c.new-ops.ensures (for_each_none (λ i. round) c.args.draws.now)

pub loop-preserved : goal.loop-preserved
loop-preserved c =
    behind_more (λ i. round) [] c.loop.counter c.args.draws.now c.loop.ops c.loop.draws (c.put_round.new.ops, c.put_round.new.draws) c.loop.invariant c.in_ok-put_round.ensures
