use Rattle.std.proofs.Common.{◌≡◌, ◌-◌, ◌++◌, length, replicate, ap, ◌∙◌, subst, sym, refl, arith}
use Rattle.tree_model.specs.declared.place.Place.TheVariants.{Nothing}
use Rattle.tree_model.specs.IsTree.{IsTree}
use Rattle.plain_tree.proofs.IsTreeLemmas.{is_tree_grown}
use Rattle.plain_tree.proofs.tree.Tree.grow.Goals as goal

pub invariant_of-self : goal.invariant_of-self
invariant_of-self c = (
  subst IsTree (sym c.loop.invariant.0)
      (is_tree_grown c.self.inside.places.items c.loop.counter c.self.invariant.0 (omega (arith, c.requires, c.self.invariant.0.few, c.saturating_sub-more.ensures, c.len.ensures, c.loop.auto.counter-end, c.self.inside.places.ok.0))),
  c.loop.invariant.1,
)

pub returns : goal.returns
returns c =
    let count : c.loop.counter ≡ c.args.count - length c.self.inside.places.items = omega (arith, c.saturating_sub-more.ensures, c.len.ensures, c.loop.auto.counter-end, c.loop-test.false, c.self.inside.places.ok.0) in
    let places : c.loop.self-inside.places.items ≡ c.self.inside.places.items ++ replicate (c.args.count - length c.self.inside.places.items) Nothing = c.loop.invariant.0 ∙ ap (λ n. c.self.inside.places.items ++ replicate n Nothing) count in
    rw (← c.self.view_is, c.loop.invariant.2, places) refl
