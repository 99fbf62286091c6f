use Rattle.lower_inode.specs.WritingOut.{IsOutUpTo}
use Rattle.lower_inode.proofs.writing.write_nodes.Given as goal

-- the nodes of the places so far are written out
abbrev pub invariant-loop-place : goal.invariant-loop-place
invariant-loop-place g l = IsOutUpTo (g.F.BodyFormat.rules l.format) l.index l.place (g.B.LowerBodies.held l.fn.bodies) (g.B.LowerBodies.held l.bodies) l.fn.nodes l.nodes
