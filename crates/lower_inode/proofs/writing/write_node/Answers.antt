use Rattle.std.proofs.Common.{subst}
use Rattle.lower_inode.specs.NodeTurn.{IsNode}
use Rattle.lower_inode.proofs.WritingOut.{node_closed, node_written}
use Rattle.lower_inode.proofs.writing.write_node.Goals as goal

pub returns-in-Some : goal.returns-in-Some
returns-in-Some g c =
    let e = c.write_out.ensures in
    rw c.in-Some.is (node_written _ _ _ _ c.in-Some.opened c.write_out.new.self c.write_out.result (subst (IsNode _ _) c.in-Some.is c.requires).1 e.writes e.room e.laid e.unmarked e.out e.quiet)

pub returns-in-None : goal.returns-in-None
returns-in-None g c = rw c.in-None.is (node_closed _ _ _)
