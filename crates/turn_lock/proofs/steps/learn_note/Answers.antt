use Rattle.std.proofs.Common.{rules, arith, ◌∙◌, ap}
use mathlib.Core.Option.{none}
use Rattle.atomic_table.specs.Table.{step}
use Rattle.turn_lock.specs.Steps.{is_idle, learned_holder}
use Rattle.turn_lock.proofs.Noting.{learn, tell}
use Rattle.turn_lock.proofs.Telling.{heard}
use Rattle.turn_lock.proofs.steps.learn_note.Goals as goal

pub join_seat-requires : goal.join_seat-requires
join_seat-requires g c = (
  search rules,
  search rules,
  search rules,
  omega arith,
  learn g.T.Logged.log g.T.Logged.session_of g.T.Logged.lawful c.args.words.now.key.value c.args.place.now.id c.args.note.id c.args.place.now.me.0 c.args.note.me.0 c.requires.place.2 c.requires.note.2,
)

pub load-requires : goal.load-requires
load-requires g c = (
  search rules,
  omega arith,
  tell g.T.Logged.log g.T.Logged.session_of g.T.Logged.lawful c.args.words.now.key.value _ c.join_seat.new.seat.id c.join_seat.new.seat.me (step c.args.words.now.table_id.slots 0 0 0 none) (ap (λ m. is_idle m.0) c.join_seat.ensures.2 ∙ c.requires.place.2),
)

pub returns-clause-place : goal.returns-clause-place
returns-clause-place g c = (
  search rules,
  (heard c.args.place.now.me.0 c.args.note.me.0 c.join_seat.new.seat.me c.load.new.seat.me (step c.args.words.now.table_id.slots 0 0 0 none) c.load.result
      (c.join_seat.ensures.2 ∙ ap (λ l. (learned_holder c.args.place.now.me.0 c.args.note.me.0, l)) c.requires.place.1) c.load.ensures.2).0,
)

pub returns-clause-heard : goal.returns-clause-heard
returns-clause-heard g c = (heard c.args.place.now.me.0 c.args.note.me.0 c.join_seat.new.seat.me c.load.new.seat.me (step c.args.words.now.table_id.slots 0 0 0 none) c.load.result
    (c.join_seat.ensures.2 ∙ ap (λ l. (learned_holder c.args.place.now.me.0 c.args.note.me.0, l)) c.requires.place.1) c.load.ensures.2).1
