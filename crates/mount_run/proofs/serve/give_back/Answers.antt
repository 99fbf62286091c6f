use Rattle.std.proofs.Common.{ap}
use Rattle.mount_run.proofs.serve.give_back.Goals as goal

pub returns-clause-tallies : goal.returns-clause-tallies
returns-clause-tallies g c =
    let lower = ap (λ r. r.0) c.end-names.ensures.parts in
    let bodies = c.end-bodies.ensures.bodies in
    rw (lower, bodies) at c.take_back.ensures.tallies
