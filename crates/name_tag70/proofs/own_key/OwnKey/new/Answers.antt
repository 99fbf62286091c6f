use Rattle.std.proofs.Common.{◌≡◌, true, List, ℕ, length, sym, ap, subst, ◌∙◌, arith}
use Rattle.name_tag70.specs.NameKey.{are_octets}
use Rattle.coding_model.proofs.Signatures.{octets_pass}
use Rattle.name_tag70.proofs.own_key.OwnKey.new.Goals as goal

pub invariant_of-result : goal.invariant_of-result
invariant_of-result c = record {
  long = ap (λ (l : List ℕ). length l) (sym c.signature.ensures.value) ∙ c.signature.ensures.length;
  octets = subst (λ (l : List ℕ). are_octets l ≡ true) c.signature.ensures.value (octets_pass c.signature.result c.are_octets.ensures);
}
