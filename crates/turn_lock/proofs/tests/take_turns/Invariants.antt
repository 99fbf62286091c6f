use Rattle.std.proofs.Common.{◌≡◌}
use Rattle.turn_lock.proofs.tests.take_turns.Given as goal

abbrev pub invariant-loop-nth : goal.invariant-loop-nth
invariant-loop-nth g l = record {
  lock : l.seat.lock ≡ l.lock;
  session : l.seat.session ≡ l.session;
  same_lock : l.seat.lock ≡ l.fn.seat.lock;
  same_session : l.session ≡ l.fn.seat.session;
}
