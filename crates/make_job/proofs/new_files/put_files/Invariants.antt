use Rattle.std.proofs.Common.{◌≡◌}
use Rattle.make_model.specs.Draws.{behind, for_each}
use Rattle.make_model.specs.MakeJobs.{new_file}
use Rattle.make_job.proofs.new_files.put_files.Given as goal

abbrev pub invariant-loop-i : goal.invariant-loop-i
invariant-loop-i l = behind l.initial.ops (for_each l.i new_file l.initial.draws) ≡ (l.ops, l.draws)
