use Rattle.std.proofs.Common.{◌≡◌, length}
use Rattle.lower_mem.specs.Bodies.{Stored}
use Rattle.lower_mem.proofs.split.stores_of.Given as goal

abbrev pub invariant-loop-node : goal.invariant-loop-node
invariant-loop-node l = (l.number ≡ length l.yielded) × Stored l.changes l.reads l.yielded l.bodies.items
