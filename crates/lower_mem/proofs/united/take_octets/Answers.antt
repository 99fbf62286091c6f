use Rattle.std.proofs.Common.{arith}
use Rattle.lower_mem.proofs.Storing.{others_stay}
use Rattle.lower_mem.proofs.united.take_octets.Goals as goal

pub returns-in-File-clause-others : goal.returns-in-File-clause-others
returns-in-File-clause-others c =
    others_stay c.args.bodies.now c.args.node c.index-bodies-node.result c.take.new.self (omega (arith, c.requires)) c.index-bodies-node.is (rw (← c.index-bodies-node.is) at c.take.ensures.others)
