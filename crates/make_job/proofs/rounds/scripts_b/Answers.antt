use Rattle.make_model.specs.Draws.{one}
use Rattle.make_model.specs.MakeJobs.{script_b}
use Rattle.make_model.proofs.Drawing.{for_each_none, item_more}
use Rattle.make_job.proofs.rounds.scripts_b.Goals as goal

pub loop-init : goal.loop-init
loop-init c = rw c.new-scripts.ensures (for_each_none (λ i. one script_b) c.args.draws.now)

pub loop-preserved : goal.loop-preserved
loop-preserved c =
    rw c.in_ok-push.ensures.ok (item_more script_b c.loop.counter c.args.draws.now c.loop.scripts c.loop.draws c.in_ok-script_b.field-0 c.script_b.new.draws
    c.loop.invariant c.in_ok-script_b.ensures)
