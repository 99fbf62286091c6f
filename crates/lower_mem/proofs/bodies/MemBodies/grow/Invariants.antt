use Rattle.std.proofs.Common.{◌≡◌, ◌≤◌, ◌+◌, ◌-◌, ◌++◌, replicate, vec_len}
use Rattle.std.specs.Prelude.{vec_capacity}
use Rattle.lower_mem.specs.Files.{nothing}
use Rattle.lower_mem.proofs.bodies.MemBodies.grow.Given as goal

abbrev pub invariant-loop : goal.invariant-loop
invariant-loop l = record {
  items : l.self-inside.files.items ≡ l.initial.self-inside.files.items ++ replicate l.counter nothing;
  room : vec_len l.self-inside.files + (l.more - l.counter) ≤ vec_capacity l.self-inside.files;
  number : l.self-inside.number ≡ l.initial.self-inside.number;
  changes : l.self-inside.changes ≡ l.initial.self-inside.changes;
  reads : l.self-inside.reads ≡ l.initial.self-inside.reads;
  calls : l.self-inside.calls ≡ l.initial.self-inside.calls;
}
