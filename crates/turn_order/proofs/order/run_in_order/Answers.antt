use Rattle.turn_order.proofs.Walking.{ran_in_order}
use Rattle.turn_order.proofs.order.run_in_order.Goals as goal

pub returns-clause-order : goal.returns-clause-order
returns-clause-order g c = ran_in_order _ _ _ _ _ _ _ _ _ _ c.walk.ensures.walked c.finish_all.ensures.finished
