use Rattle.std.proofs.Common.{◌≤◌, vec_capacity}
use Rattle.mounted_files.proofs.Opening.{AreOpened}
use Rattle.mounted_files.proofs.shards.open_shards.Given as goal

abbrev pub invariant-loop-store : goal.invariant-loop-store
invariant-loop-store g l = AreOpened g.B.LowerBodies.held g.F.BodyFormat.rules l.format l.yielded l.shards.items × (8 ≤ vec_capacity l.shards)
