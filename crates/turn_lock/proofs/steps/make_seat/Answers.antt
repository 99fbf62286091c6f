use Rattle.std.proofs.Common.{rules, arith}
use Rattle.turn_lock.proofs.Seating.{seat}
use Rattle.turn_lock.proofs.steps.make_seat.Goals as goal

pub split_seat-requires : goal.split_seat-requires
split_seat-requires g c = (
  search rules,
  omega arith,
  seat g.T.Logged.log g.T.Logged.session_of g.T.Logged.lawful c.args.words.now.key.value c.args.maker.now.id c.args.maker.now.me.0 c.requires.maker.2 c.requires.more.0 c.requires.more.1,
)
