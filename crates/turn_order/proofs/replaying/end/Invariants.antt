use Rattle.std.proofs.Common.{◌≡◌, ◌+◌, ◌≤◌, ◌++◌, length, vec_capacity}
use Rattle.std.specs.Prelude.{reverse}
use Rattle.turn_order.proofs.replaying.end.Given as goal

-- the sessions behind came back, the last one first
abbrev pub invariant-loop-session : goal.invariant-loop-session
invariant-loop-session l = record {
  moved : l.sessions.items ++ reverse l.running.items ≡ reverse l.fn.running.items;
  room : length l.sessions.items + length l.running.items ≤ vec_capacity l.sessions;
}

abbrev pub decreases-loop-session : goal.decreases-loop-session
decreases-loop-session l = length l.running.items
