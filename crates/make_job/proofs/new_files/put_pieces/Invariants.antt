use Rattle.std.proofs.Common.{◌≡◌}
use Rattle.make_model.specs.Draws.{behind, for_each}
use Rattle.make_model.specs.MakeJobs.{piece}
use Rattle.make_job.proofs.new_files.put_pieces.Given as goal

abbrev pub invariant-loop-j : goal.invariant-loop-j
invariant-loop-j l = behind l.initial.ops (for_each l.j piece l.initial.draws) ≡ (l.ops, l.draws)
