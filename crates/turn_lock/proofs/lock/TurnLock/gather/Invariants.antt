use Rattle.std.proofs.Common.{◌≡◌, true, []}
use Rattle.turn_lock.specs.Steps.{is_idle}
use Rattle.turn_lock.proofs.Gathering.{IsGathering}
use Rattle.turn_lock.proofs.lock.TurnLock.gather.Given as goal

abbrev pub invariant-loop-seat : goal.invariant-loop-seat
invariant-loop-seat g l = record {
  table : l.leader.table_id ≡ l.self.id;
  bare : l.leader.me.1 ≡ [];
  idle : is_idle l.leader.me.0 ≡ true;
  gathering : IsGathering g.T.Logged.session_of l.self l.fn.seats.items l.seats.items l.leader.me.0;
}

abbrev pub decreases-loop-seat : goal.decreases-loop-seat
decreases-loop-seat g l = goal.left-loop-seat g l
