use Rattle.std.proofs.Common.{◌≡◌, ◌+◌, ◌-◌, [], ◌∷◌, ◌++◌, ap, ◌∙◌, arith}
use Rattle.turn_lock.specs.Steps.{first_holder, maker_holder, made_holder}
use Rattle.turn_lock.specs.Turns.{new_seat, new_seats}
use Rattle.turn_lock.proofs.Making.{made_count, more_seats, rotated}
use Rattle.turn_lock.proofs.lock.TurnLock.make_seats.Goals as goal

pub push_reserved-requires : goal.push_reserved-requires
push_reserved-requires g c =
    let count = made_count c.args.self.now c.loop-session.session c.loop-session.made.items c.loop-session.invariant.made in
    let room = c.loop-session.invariant.room in
    let more = c.loop-session-test.true in
    let sessions = ap (λ l. l.sessions) c.self.view_is in
    let len = c.loop-session.made.ok in
    omega arith

pub push_reserved-requires-2 : goal.push_reserved-requires-2
push_reserved-requires-2 g c =
    let count = made_count c.args.self.now c.loop-session.session c.loop-session.made.items c.loop-session.invariant.made in
    let room = c.loop-session.invariant.room in
    let last = c.loop-session.auto in
    let sessions = ap (λ l. l.sessions) c.self.view_is in
    let len = c.loop-session.made.ok in
    omega arith

pub loop-session-preserved : goal.loop-session-preserved
loop-session-preserved g c =
    let lock = c.args.self.now in
    let n = c.loop-session.session in
    let is = c.loop-session.invariant.maker in
    let parts : (17 - n) - 1 ≡ 17 - (n + 1) = omega arith in
    let place = c.make_seat-place.ensures.made.1 ∙ ap (λ m. (made_holder m.0, [])) is in
    let seat = c.seat.ensures ∙ (λ i. record { lock = lock; session = n; seen = (place i).0.seen; mine = (place i).0.mine }) in
    record {
      room = let room = c.loop-session.invariant.room in let capacity = c.push_reserved.ensures.capacity in omega arith;
      table = c.make_seat-place.ensures.maker.0 ∙ c.loop-session.invariant.table;
      maker = c.make_seat-place.ensures.maker.1 ∙ (ap (λ m. (maker_holder m.0, [])) is ∙ (λ i. (record (first_holder lock.opening) { sessions = n + 1; parts = parts i }, [])));
      made = more_seats lock n c.loop-session.made.items c.push_reserved.new.self.items c.loop-session.invariant.made (c.push_reserved.ensures.items ∙ ap (λ s. c.loop-session.made.items ++ s ∷ []) seat);
    }

pub returns : goal.returns
returns g c =
    let lock = c.args.self.now in
    let sessions = ap (λ l. l.sessions) c.self.view_is in
    let last = c.loop-session-test.false in
    let within = c.loop-session.auto in
    let done : c.loop-session.session ≡ lock.sessions = omega arith in
    let seat = c.seat-2.ensures ∙ (λ i. record { lock = lock; session = 0; seen = (c.loop-session.invariant.maker i).0.seen; mine = (c.loop-session.invariant.maker i).0.mine }) in
    rotated c.loop-session.made.items c.push_reserved-2.new.self.items c.rotate_right.new.self.items (new_seat lock 0) _ (c.push_reserved-2.ensures.items ∙ ap (λ s. c.loop-session.made.items ++ s ∷ []) seat)
    c.push_reserved-2.new.self.ok.0 c.rotate_right.ensures.items ∙ (c.loop-session.invariant.made ∙ ap (new_seats lock) done)
