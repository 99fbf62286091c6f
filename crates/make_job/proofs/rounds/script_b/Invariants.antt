use Rattle.std.proofs.Common.{◌≡◌}
use Rattle.make_model.specs.Draws.{for_each}
use Rattle.make_model.specs.MakeJobs.{round}
use Rattle.make_job.proofs.rounds.script_b.Given as goal

abbrev pub invariant-loop : goal.invariant-loop
invariant-loop l = for_each l.counter (λ i. round) l.initial.draws ≡ (l.ops, l.draws)
