use Rattle.std.proofs.Common.{◌≡◌, ◌-◌, ◌≤◌, [], ◌∷◌, vec_capacity}
use Rattle.turn_lock.specs.Steps.{first_holder}
use Rattle.turn_lock.specs.Turns.{new_seat, new_seats}
use Rattle.turn_lock.proofs.lock.TurnLock.make_seats.Given as goal

abbrev pub invariant-loop-session : goal.invariant-loop-session
invariant-loop-session g l = record {
  room : l.self.sessions ≤ vec_capacity l.made;
  table : l.maker.table_id ≡ l.self.id;
  maker : l.maker.me ≡ (record (first_holder l.self.opening) { sessions = l.session; parts = 17 - l.session }, []);
  made : new_seat l.self 0 ∷ l.made.items ≡ new_seats l.self l.session;
}
