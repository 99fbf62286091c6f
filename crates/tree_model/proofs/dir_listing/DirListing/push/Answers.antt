use Rattle.std.proofs.Common.{◌≡◌, [], ◌∷◌, ◌++◌, ap, ◌∙◌, arith}
use Rattle.std.proofs.lemmas.Grind.{common_steps}
use Rattle.tree_model.proofs.DirListingLemmas.{listed-push}
use Rattle.tree_model.proofs.dir_listing.DirListing.push.Goals as goal

kinds : (c : goal.After-unwrap) → c.push-2.new.self.items ≡ c.self.inside.columns.value.kinds.items ++ c.args.kind ∷ []
kinds c = grind (arith, common_steps)

names : (c : goal.After-unwrap) → c.deref_mut-3.result.now.names ≡ c.self.inside.columns.value.names ++ c.args.name.now ∷ []
names c = grind (arith, common_steps)

pub returns-clause-ok : goal.returns-clause-ok
returns-clause-ok c = rw (kinds c, names c) (listed-push _ _ c.args.kind c.args.name.now c.self.invariant ∙ ap (λ entries. entries ++ record { kind = c.args.kind; name = c.args.name.now } ∷ []) c.self.view_is)
