use Rattle.std.proofs.Common.{◌%◌}
use Rattle.make_model.specs.Draws.{draw_mod, one}
use Rattle.make_model.proofs.Drawing.{for_each_none, item_more, draw_mod_is}
use Rattle.make_job.proofs.rounds.schedule_b.Goals as goal

pub loop-init : goal.loop-init
loop-init c = rw c.new-schedule.ensures (for_each_none (λ i. one (draw_mod 4)) c.args.draws.now)

pub loop-preserved : goal.loop-preserved
loop-preserved c =
    rw c.in_ok-push.ensures.ok (item_more (draw_mod 4) c.loop.counter c.args.draws.now c.loop.schedule c.loop.draws (c.draw.result % 4) c.draw.new.self
    c.loop.invariant (draw_mod_is 4 c.loop.draws c.draw.result c.draw.new.self c.draw.ensures))
