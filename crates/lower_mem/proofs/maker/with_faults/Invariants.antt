use Rattle.lower_mem.proofs.Tallies.{Tallied}
use Rattle.lower_mem.proofs.maker.with_faults.Given as goal

abbrev pub invariant-loop-i : goal.invariant-loop-i
invariant-loop-i l = Tallied l.names l.bodies l.fn.tallies l.sums l.i
