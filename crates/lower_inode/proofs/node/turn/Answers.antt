use Rattle.lower_inode.proofs.node.turn.Goals as goal

pub returns-in-Read-clause-turn : goal.returns-in-Read-clause-turn
returns-in-Read-clause-turn g c = rw c.in-Read.is (c.read.ensures (g.F.BodyFormat.rules c.args.format.now) _ c.args.node c.requires.node)

pub returns-in-Size-clause-turn : goal.returns-in-Size-clause-turn
returns-in-Size-clause-turn g c = rw c.in-Size.is (c.size.ensures (g.F.BodyFormat.rules c.args.format.now) _ c.args.node c.requires.node)
