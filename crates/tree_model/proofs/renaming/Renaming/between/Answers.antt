use Rattle.std.proofs.Common.{◌≡◌, [], ◌∷◌, ◌++◌, arith}
use Rattle.std.proofs.lemmas.Grind.{common_steps}
use Rattle.tree_model.proofs.RenamingLemmas.{Joins, joins}
use Rattle.tree_model.proofs.renaming.Renaming.between.Goals as goal

both : (c : goal.After-unwrap-2) → Joins c.into_octets-octets.result.items c.octets-names.result.now c.extend_from_slice.new.self.items
both c =
    let octets : c.extend_from_slice.new.self.items ≡ (c.into_octets-octets.result.items ++ 0 ∷ []) ++ c.octets-names.result.now = grind (arith, common_steps) in
    joins _ _ _ c.into_octets-octets.ensures.keeps c.octets-names.ensures.keeps octets

pub invariant_of-result : goal.invariant_of-result
invariant_of-result c = (both c).keeps

pub returns : goal.returns
returns c = let b = both c in let old = c.into_octets-octets.ensures.parts in let new = c.octets-names.ensures.parts in cc
