use Rattle.std.proofs.Common.{arith, ◌∙◌, subst}
use mathlib.Core.Option.{none}
use Rattle.atomic_table.specs.Table.{step}
use Rattle.turn_lock.proofs.Turning.{finish_from}
use Rattle.turn_lock.proofs.Telling.{slot_there, begun, put_back, ended}
use Rattle.turn_lock.proofs.steps.take_turn.Goals as goal

pub exchange-requires : goal.exchange-requires
exchange-requires g c = (c.wait_turn-ticket.ensures.place ∙ c.requires.place.0, slot_there _ _ _ c.wait_turn-ticket.ensures.begins.1.slot)

pub fetch_add-requires : goal.fetch_add-requires
fetch_add-requires g c =
    let log = g.T.Logged.log in
    let owner = g.T.Logged.session_of in
    let lawful = g.T.Logged.lawful in
    let v = c.args.place.now.me.0 in
    let n = c.wait_turn-ticket.result in
    let x = c.in-Some.state in
    let y = c.go-answer.new.state in
    let b = c.wait_turn-ticket.ensures.begins.1 in
    let same = begun log owner lawful n v c.wait_turn-ticket.new.place.me c.exchange.result x b c.exchange.ensures.2 c.in-Some.is in
    let one = c.go-answer.ensures.one in
    let is = put_back log owner lawful n v c.wait_turn-ticket.new.place.me c.exchange.new.seat.me c.exchange-left.new.seat.me x y b same c.exchange.ensures.3 c.exchange-left.ensures.3 in (
      c.exchange-left.ensures.0 ∙ (c.exchange.ensures.0 ∙ (c.wait_turn-ticket.ensures.place ∙ c.requires.place.0)),
      omega arith,
      finish_from log owner lawful c.args.words.now.key.value _ c.exchange-left.new.seat.id n v x y one.0 c.exchange-left.new.seat.me (step 1 1 1 0 none) is one.1 (one.2 ∙ c.requires.session)
          (λ o is. c.go-answer.ensures.lawful o (subst (λ z. lawful o z) same (b.lawful_state o is))),
    )

pub returns-clause-ended : goal.returns-clause-ended
returns-clause-ended g c =
    let log = g.T.Logged.log in
    let owner = g.T.Logged.session_of in
    let lawful = g.T.Logged.lawful in
    let v = c.args.place.now.me.0 in
    let n = c.wait_turn-ticket.result in
    let x = c.in-Some.state in
    let y = c.go-answer.new.state in
    let b = c.wait_turn-ticket.ensures.begins.1 in
    let same = begun log owner lawful n v c.wait_turn-ticket.new.place.me c.exchange.result x b c.exchange.ensures.2 c.in-Some.is in
    let one = c.go-answer.ensures.one in
    let is = put_back log owner lawful n v c.wait_turn-ticket.new.place.me c.exchange.new.seat.me c.exchange-left.new.seat.me x y b same c.exchange.ensures.3 c.exchange-left.ensures.3 in
    (ended log owner lawful (g.J.Turn.gives c.args.turn) c.go-answer.result n v x y one.0 c.wait_turn-ticket.new.place.me c.exchange-left.new.seat.me c.fetch_add.new.seat.me c.requires.place.2 b same is c.fetch_add.ensures.2 one.1 (one.2 ∙ c.requires.session)
    (λ o is. c.go-answer.ensures.lawful o (subst (λ z. lawful o z) same (b.lawful_state o is))) c.go-answer.ensures.gives).1
