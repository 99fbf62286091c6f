use Rattle.std.proofs.Common.{◌≡◌, ◌-◌, ◌^◌, length, take}
use Rattle.std.specs.Prelude.{min, sum_by}
use Rattle.plain_tree.proofs.prepare.octets_of_names.Given as goal

abbrev pub invariant-loop-entry : goal.invariant-loop-entry
invariant-loop-entry l = l.octets ≡ min (sum_by (λ e. length e.0) (take l.entry-index l.entry-items)) (2 ^ 64 - 1)
