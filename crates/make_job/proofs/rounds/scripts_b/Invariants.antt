use Rattle.std.proofs.Common.{◌≡◌}
use Rattle.make_model.specs.Draws.{one, for_each}
use Rattle.make_model.specs.MakeJobs.{script_b}
use Rattle.make_job.proofs.rounds.scripts_b.Given as goal

abbrev pub invariant-loop : goal.invariant-loop
invariant-loop l = for_each l.counter (λ i. one script_b) l.initial.draws ≡ (l.scripts, l.draws)
