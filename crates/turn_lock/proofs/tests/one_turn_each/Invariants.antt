use Rattle.std.proofs.Common.{◌≡◌, All, vec_len}
use Rattle.turn_lock.proofs.tests.one_turn_each.Given as goal

abbrev pub invariant-loop-seat : goal.invariant-loop-seat
invariant-loop-seat g l = All (λ seat. seat.lock ≡ l.lock) l.seats.items

abbrev pub decreases-loop-seat : goal.decreases-loop-seat
decreases-loop-seat g l = vec_len l.seats
