use Rattle.std.proofs.Common.{ap}
use Rattle.lower_mem.specs.Names.{NamesInMemory}
use Rattle.lower_mem.proofs.Parts.{tell_all, hold_tree, are_fresh}
use Rattle.lower_mem.proofs.maker.MemMakerLowerMaker.split.Goals as goal

pub returns-clause-tell : goal.returns-clause-tell
returns-clause-tell c = tell_all c.new-2.result c.in-Ok.bodies.items c.in-Ok.ensures.stored.count

pub returns-clause-hold : goal.returns-clause-hold
returns-clause-hold c = hold_tree c.new-2.result c.in-Ok.bodies.items _ _ c.args.tree c.in-Ok.ensures.stored c.parts_of.ensures.lawful (rw c.new-2.ensures c.in-Ok.ensures.names)

pub returns-clause-fresh : goal.returns-clause-fresh
returns-clause-fresh c = are_fresh c.new-2.result c.in-Ok.bodies.items _ _ c.args.tree c.in-Ok.ensures.stored (ap (λ (n : NamesInMemory). n.plan.faults) c.new-2.ensures)
