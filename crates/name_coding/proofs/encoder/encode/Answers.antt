use Rattle.std.proofs.Common.{◌++◌, List, ℕ, refl, ap, ◌∙◌, arith}
use Rattle.coding_model.specs.NameCoding.{coded}
use Rattle.name_coding.proofs.Steps.{coded_step, group_added}
use Rattle.name_coding.proofs.encoder.encode.Goals as goal

pub groups-preserved : goal.groups-preserved
groups-preserved c =
    group_added coded c.groups.letters.items c.extend_from_slice.new.self.items _ c.groups.rest.now _ (coded c.args.octets.now)
    (c.in_ok-extend_from_slice.ensures.items ∙ ap (λ (l : List ℕ). c.groups.letters.items ++ l) c.four_letters.ensures)
    (coded_step c.groups.rest.now _ refl c.in-len3-up.len_at_least (omega arith) (omega arith) (omega arith))
    c.groups.invariant
