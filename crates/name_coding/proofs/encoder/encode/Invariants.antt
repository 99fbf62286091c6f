use Rattle.std.proofs.Common.{◌≡◌, ◌++◌, length}
use Rattle.coding_model.specs.NameCoding.{coded}
use Rattle.name_coding.proofs.encoder.encode.Given as goal

abbrev pub invariant-groups : goal.invariant-groups
invariant-groups l = l.letters.items ++ coded l.rest ≡ coded l.octets

abbrev pub decreases-groups : goal.decreases-groups
decreases-groups l = length l.rest
