use Rattle.std.proofs.Common.{rules, arith}
use Rattle.turn_lock.proofs.Noting.{note}
use Rattle.turn_lock.proofs.steps.make_note.Goals as goal

pub split_seat-requires : goal.split_seat-requires
split_seat-requires g c = (
  search rules,
  omega arith,
  note g.T.Logged.log g.T.Logged.session_of g.T.Logged.lawful c.args.words.now.key.value c.args.place.now.id c.args.place.now.me.0 c.requires.place.2,
)
