use Rattle.std.proofs.Common.{◌≡◌}
use Rattle.make_model.specs.Draws.{behind, for_each}
use Rattle.make_model.specs.MakeJobs.{new_directory}
use Rattle.make_job.proofs.new_files.put_directories.Given as goal

abbrev pub invariant-loop-d : goal.invariant-loop-d
invariant-loop-d l = behind l.initial.ops (for_each l.d new_directory l.initial.draws) ≡ (l.ops, l.draws)
