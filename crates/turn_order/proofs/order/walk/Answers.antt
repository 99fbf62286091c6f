use Rattle.std.proofs.Common.{take, arith}
use Rattle.std.proofs.lemmas.List.{take_more, take_all}
use Rattle.turn_order.proofs.Walking.{walked_none, walked_more}
use Rattle.turn_order.proofs.order.walk.Goals as goal

pub loop-k-init : goal.loop-k-init
loop-k-init g c = record {
  walked = walked_none _ _ _;
  tree = λ opening h. h;
  files = λ opening h. h;
}

pub loop-k-preserved : goal.loop-k-preserved
loop-k-preserved g c = record {
  walked = walked_more (take c.loop-k.k-index c.args.schedule.now) _ _ _ _ _ _ _ _ _ _ _ (take_more c.args.schedule.now c.loop-k.k-index 0 (omega arith)) c.loop-k.invariant.walked c.step.ensures.walked;
  tree = λ opening h. c.step.ensures.tree opening (c.loop-k.invariant.tree opening h);
  files = λ opening h. c.step.ensures.files opening (c.loop-k.invariant.files opening h);
}

pub returns-clause-walked : goal.returns-clause-walked
returns-clause-walked g c = rw (← take_all c.loop-k.k-index c.args.schedule.now (omega arith)) c.loop-k.invariant.walked
