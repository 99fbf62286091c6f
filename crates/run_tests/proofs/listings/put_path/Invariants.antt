use Rattle.std.proofs.Common.{length}
use Rattle.run_tests.proofs.listings.put_path.Given as goal

abbrev pub decreases-loop-name : goal.decreases-loop-name
decreases-loop-name l = length l.parts
