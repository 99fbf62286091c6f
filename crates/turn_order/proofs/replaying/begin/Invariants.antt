use Rattle.std.proofs.Common.{◌≡◌, ◌+◌, ◌≤◌, ◌++◌, length, vec_capacity}
use Rattle.std.specs.Prelude.{reverse}
use Rattle.std.specs.List.{AllByRecursion}
use Rattle.session_model.specs.Session.{IsFresh}
use Rattle.turn_order.proofs.replaying.begin.Given as goal

-- the sessions behind run, the last one first
abbrev pub invariant-loop-session : goal.invariant-loop-session
invariant-loop-session l = record {
  fresh : AllByRecursion IsFresh l.sessions.items;
  moved : l.running.items ++ reverse l.sessions.items ≡ reverse l.initial.sessions.items;
  room : length l.running.items + length l.sessions.items ≤ vec_capacity l.running;
  kept : vec_capacity l.sessions ≡ vec_capacity l.initial.sessions;
}

abbrev pub decreases-loop-session : goal.decreases-loop-session
decreases-loop-session l = length l.sessions.items
