use Rattle.std.proofs.Common.{rules, arith}
use Rattle.turn_lock.proofs.Seating.{gather}
use Rattle.turn_lock.proofs.steps.gather_seat.Goals as goal

pub join_seat-requires : goal.join_seat-requires
join_seat-requires g c = (
  search rules,
  search rules,
  search rules,
  omega arith,
  gather g.T.Logged.log g.T.Logged.session_of g.T.Logged.lawful c.args.words.now.key.value c.args.leader.now.id c.args.seat.id c.args.leader.now.me.0 c.args.seat.me.0 c.requires.leader.2 c.requires.seat.2,
)
