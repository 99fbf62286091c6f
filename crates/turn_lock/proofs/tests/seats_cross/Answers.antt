use Rattle.turn_lock.proofs.Sent.{crossing}
use Rattle.turn_lock.proofs.tests.seats_cross.Goals as goal

pub may_cross-requires-send-X : goal.may_cross-requires-send-X
may_cross-requires-send-X g c κs within = search crossing depth 9

pub may_cross-requires-2-send-X : goal.may_cross-requires-2-send-X
may_cross-requires-2-send-X g c κs within = search crossing depth 9
