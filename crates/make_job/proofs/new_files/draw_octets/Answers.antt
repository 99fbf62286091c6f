use Rattle.std.proofs.Common.{◌%◌}
use Rattle.make_model.specs.Draws.{draw_mod, one}
use Rattle.make_model.proofs.Drawing.{for_each_none, item_more, draw_mod_is}
use Rattle.make_job.proofs.new_files.draw_octets.Goals as goal

pub loop-init : goal.loop-init
loop-init c = rw c.in_ok-octets.ensures.items (for_each_none (λ i. one (draw_mod 256)) c.args.draws.now)

pub loop-preserved : goal.loop-preserved
loop-preserved c =
    rw c.in_ok-push.ensures.items (item_more (draw_mod 256) c.loop.counter c.args.draws.now c.loop.octets.items c.loop.draws (c.draw.result % 256) c.draw.new.self
    c.loop.invariant (draw_mod_is 256 c.loop.draws c.draw.result c.draw.new.self c.draw.ensures))
