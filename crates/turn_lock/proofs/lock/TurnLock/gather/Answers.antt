use Rattle.std.proofs.Common.{◌≡◌, ap, sym, ◌∙◌, arith}
use Rattle.turn_lock.specs.Steps.{is_idle}
use Rattle.turn_lock.proofs.Gathering.{all_front, none_left, any_none, begins, more, all_gathered}
use Rattle.turn_lock.proofs.lock.TurnLock.gather.Goals as goal

pub unreachable-requires : goal.unreachable-requires
unreachable-requires g c =
    let some_session = c.self.invariant.2 in
    let sessions = ap (λ l. l.sessions) c.self.view_is in
    any_none (λ s. s.session ≡ 0) c.args.seats.items (none_left c.args.seats.items (let none = c.in_default.ensures.cases in let len = c.args.seats.ok in omega arith)) (c.requires.each_session 0 (omega arith))

pub loop-seat-init : goal.loop-seat-init
loop-seat-init g c =
    let some_session = c.self.invariant.2 in
    let sessions = ap (λ l. l.sessions) c.self.view_is in
    let lock = (all_front (λ s. s.lock ≡ c.args.self.now) c.args.seats.items c.pop.new.self.items c.in-Some.first c.in-Some.ensures.items c.requires.lock).1 in
    record {
      table = c.into_place-leader.ensures.table ∙ ap (λ l. l.id) lock;
      bare = c.into_place-leader.ensures.bare.0;
      idle = c.into_place-leader.ensures.bare.1;
      gathering = begins g.T.Logged.session_of c.args.self.now c.args.seats.items c.pop.new.self.items c.in-Some.first c.into_place-leader.result.me.0 c.in-Some.ensures.items c.into_place-leader.ensures.owner c.requires.lock c.requires.each_session (omega arith);
    }

pub gather_seat-requires-clause-seat : goal.gather_seat-requires-clause-seat
gather_seat-requires-clause-seat g c =
    let lock = (all_front (λ s. s.lock ≡ c.args.self.now) c.loop-seat.seats.items c.pop-in-loop-seat.new.self.items c.in-Some-pop.seat c.in-Some-pop.ensures.items c.loop-seat.invariant.gathering.locks).1 in
    (c.into_place.ensures.table ∙ (ap (λ l. l.id) lock ∙ sym (ap (λ l. l.id) c.self.view_is)), c.into_place.ensures.bare.0, c.into_place.ensures.bare.1)

pub loop-seat-preserved : goal.loop-seat-preserved
loop-seat-preserved g c =
    let some_session = c.self.invariant.2 in
    let sessions = ap (λ l. l.sessions) c.self.view_is in
    let after = c.gather_seat.ensures.1 in
    record {
      table = c.gather_seat.ensures.0 ∙ c.loop-seat.invariant.table;
      bare = ap (λ m. m.1) after;
      idle = ap (λ m. is_idle m.0) after ∙ c.loop-seat.invariant.idle;
      gathering = rw after (more g.T.Logged.session_of c.args.self.now c.args.seats.items c.loop-seat.seats.items c.pop-in-loop-seat.new.self.items c.in-Some-pop.seat c.loop-seat.leader.me.0 c.into_place.result.me.0 c.in-Some-pop.ensures.items c.into_place.ensures.owner (omega arith) c.loop-seat.invariant.gathering);
    }

pub returns-clause-sessions : goal.returns-clause-sessions
returns-clause-sessions g c = let all = all_gathered g.T.Logged.session_of c.args.self.now c.args.seats.items c.loop-seat.seats.items c.loop-seat.leader.me.0 (none_left c.loop-seat.seats.items (let none = c.in_default-pop.ensures.cases in let len = c.loop-seat.seats.ok in omega arith)) c.loop-seat.invariant.gathering in (all.0, all.1)

pub returns-clause-seats : goal.returns-clause-seats
returns-clause-seats g c = (all_gathered g.T.Logged.session_of c.args.self.now c.args.seats.items c.loop-seat.seats.items c.loop-seat.leader.me.0 (none_left c.loop-seat.seats.items (let none = c.in_default-pop.ensures.cases in let len = c.loop-seat.seats.ok in omega arith)) c.loop-seat.invariant.gathering).2
