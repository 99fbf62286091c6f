use Rattle.std.proofs.Common.{rules, arith, ◌∙◌}
use mathlib.Core.Option.{none}
use Rattle.atomic_table.specs.Table.{step}
use Rattle.turn_lock.proofs.Turning.{take, look_from}
use Rattle.turn_lock.proofs.steps.wait_turn.Goals as goal

pub fetch_add-ticket-requires : goal.fetch_add-ticket-requires
fetch_add-ticket-requires g c = (
  search rules,
  omega arith,
  take g.T.Logged.log g.T.Logged.session_of g.T.Logged.lawful c.args.words.now.key.value _ c.args.place.now.id c.args.place.now.me c.requires.place.2,
)

pub load-requires : goal.load-requires
load-requires g c = (
  c.loop.invariant.0 ∙ c.requires.place.0,
  omega arith,
  look_from g.T.Logged.log g.T.Logged.session_of g.T.Logged.lawful c.args.words.now.key.value _ c.loop.place.id c.fetch_add-ticket.result c.args.place.now.me.0 c.loop.place.me (step 1 1 0 0 none) c.loop.invariant.1 (omega arith),
)
