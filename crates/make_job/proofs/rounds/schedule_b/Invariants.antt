use Rattle.std.proofs.Common.{◌≡◌}
use Rattle.make_model.specs.Draws.{draw_mod, one, for_each}
use Rattle.make_job.proofs.rounds.schedule_b.Given as goal

abbrev pub invariant-loop : goal.invariant-loop
invariant-loop l = for_each l.counter (λ i. one (draw_mod 4)) l.initial.draws ≡ (l.schedule, l.draws)
