use Rattle.mounted_files.proofs.WritingOut.{AreOutBelow}
use Rattle.mounted_files.proofs.shards.write_shards.Given as goal

abbrev pub invariant-loop-store : goal.invariant-loop-store
invariant-loop-store g l = AreOutBelow g.B.LowerBodies.held g.F.BodyFormat.rules l.fn.shards l.shards l.store
