use Rattle.lower_mem.proofs.Storing.{Firsts}
use Rattle.lower_mem.proofs.split.empty_stores.Given as goal

abbrev pub invariant-loop-number : goal.invariant-loop-number
invariant-loop-number l = Firsts l.changes l.reads l.bodies.items l.number
