-- What was taken from a source that tells what it has.
use Rattle.std.proofs.Common.{◌≡◌, ℕ, ◌≤◌, List, ◌++◌, length, Option, Some, None, sym, ap, ◌∙◌, arith}
use Rattle.std.proofs.lemmas.List.{append-nil, length-append}
use Rattle.job_model.specs.declared.limits.TheConstants.{MOST_OCTETS}
use Rattle.mount_run.specs.InputAndOutput.{Took}

-- Where the source has no more than a job may have, all of it was taken.
pub all_taken : (all octets : List ℕ) (new : Option (List ℕ)) → Took (Some all) new octets → length all ≤ MOST_OCTETS → octets ≡ all
all_taken all octets None took short = absurd took.taken
all_taken all octets (Some rest) took short =
    let few : length octets ≤ MOST_OCTETS = omega (arith, ap length took.taken, length-append octets rest) in
    sym (took.taken ∙ ap (λ (r : List ℕ). octets ++ r) (took.all few) ∙ append-nil octets)
