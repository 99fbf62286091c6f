use Rattle.std.proofs.Common.{length}
use Rattle.run_tests.proofs.foreign.answer.Given as goal

abbrev pub decreases-loop-name : goal.decreases-loop-name
decreases-loop-name l = length l.rest
