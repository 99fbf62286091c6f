use Rattle.std.proofs.Common.{◌++◌, List, ℕ, refl, ap, ◌∙◌, arith}
use Rattle.coding_model.specs.NameCoding.{octets_of}
use Rattle.name_coding.proofs.Steps.{three_of, letters_step, group_added, no_letters}
use Rattle.name_coding.proofs.decoder.octets_of.Goals as goal

pub groups-preserved : goal.groups-preserved
groups-preserved c =
    let step = letters_step c.groups.rest.now _ refl c.in-len4-up.len_at_least c.groups.invariant.letters in
    record {
      so_far = group_added octets_of c.groups.octets.items c.extend_from_slice.new.self.items _ c.groups.rest.now _ (octets_of c.args.letters.now)
          (c.in_ok-extend_from_slice.ensures.items ∙ ap (λ (l : List ℕ). c.groups.octets.items ++ l) c.three_octets.ensures ∙ ap (λ (l : List ℕ). c.groups.octets.items ++ l) (three_of _ _ _ _ _ _ _ _ c.value.ensures c.value-in-len4-up.ensures c.value-in-len4-up-2.ensures c.value-in-len4-up-3.ensures))
          step.octets c.groups.invariant.so_far;
      letters = step.letters;
      whole = omega (arith, step.long, c.groups.invariant.whole);
    }

pub returns : goal.returns
returns c = no_letters c.groups.octets.items c.groups.rest.now (octets_of c.args.letters.now) c.in_default.len_below c.groups.invariant.whole c.groups.invariant.so_far
