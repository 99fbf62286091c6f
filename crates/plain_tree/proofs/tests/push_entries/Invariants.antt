use Rattle.std.proofs.Common.{length}
use Rattle.plain_tree.proofs.tests.push_entries.Given as goal

abbrev pub decreases-loop-kind : goal.decreases-loop-kind
decreases-loop-kind l = length l.rest
