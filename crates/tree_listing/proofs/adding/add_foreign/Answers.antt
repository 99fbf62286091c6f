use Rattle.std.proofs.Common.{◌≡◌, [], ◌∷◌, ◌++◌, take, ap, ◌∙◌, arith}
use Rattle.tree_model.specs.declared.listed.Listed.TheVariants.{Foreign}
use Rattle.tree_model.specs.Listing.{foreign_items}
use Rattle.tree_listing.specs.Adding.{path_at}
use Rattle.tree_listing.proofs.Items.{path_kept, foreign_more}
use Rattle.tree_listing.proofs.adding.add_foreign.Goals as goal

pub loop-entry-preserved : goal.loop-entry-preserved
loop-entry-preserved c =
    let old = c.args.items.now.items in
    let now = c.loop-entry.items.items in
    let f = c.entry-item.result in
    let i = c.loop-entry.entry-index in
    let path = path_at old c.args.directory in
    let kept = path_kept c.args.directory old (foreign_items path (take i c.args.foreign.now)) now c.loop-entry.invariant c.requires in
    let path_is : c.in_ok-path.path ≡ path = c.in_ok-path.ensures ∙ ap (λ items. path_at items c.args.directory) c.deref.ensures.value ∙ kept in
    let lower_is : c.in_ok-lower.lower ≡ f.lower = c.in_ok-lower.ensures ∙ c.as_slice.ensures in
    let pushed : c.push.new.self.items ≡ now ++ foreign_items path (f ∷ []) = c.in_ok-push.ensures.items ∙ ap (λ p. now ++ Foreign p c.in_ok-lower.lower f.node ∷ []) path_is ∙ ap (λ l. now ++ Foreign path l f.node ∷ []) lower_is in
    foreign_more path c.args.foreign.now i f old now c.push.new.self.items (omega arith) c.entry-item.is c.loop-entry.invariant pushed
