use Rattle.turn_lock.proofs.Sessions.{new_seats_locks}
use Rattle.lock_bench.proofs.tally.count_turns.Goals as goal

pub last_number-requires-after_bounds : goal.last_number-requires-after_bounds
last_number-requires-after_bounds g c κs within = new_seats_locks c.in-Ok.lock c.args.seats c.in-Ok.all.items c.in-Ok.ensures.seats
