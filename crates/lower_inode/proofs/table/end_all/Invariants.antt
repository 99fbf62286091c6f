use Rattle.std.proofs.Common.{length}
use Rattle.lower_inode.proofs.table.end_all.Given as goal

abbrev pub decreases-loop-entry : goal.decreases-loop-entry
decreases-loop-entry g l = length l.nodes.items
