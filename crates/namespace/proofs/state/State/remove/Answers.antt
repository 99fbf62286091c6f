use Rattle.std.proofs.Common.{◌≡◌, get_or, [], refl, ap, ◌∙◌}
use Rattle.tree_model.specs.PlainTree.{PlainTree}
use Rattle.namespace_model.proofs.States.{Keeps-same}
use Rattle.namespace_model.proofs.Changed.{stays_removed, Stays-same, stays_still, may_remove, keeps_removed, kept_at}
use Rattle.namespace.proofs.state.State.remove.Goals as goal

pub remove-requires : goal.remove-requires
remove-requires g c = λ t.
    let w : c.as_slice-lower.result.now ≡ get_or c.args.self.now.kept.items c.args.r.node [] = c.as_slice-lower.ensures ∙ c.index.ensures ∙ kept_at c.args.self.now.tree c.args.self.now.kept.items c.args.r.dir c.args.r.name c.args.r.node c.index.result.now c.places-nodes.ensures.lawful c.requires.may.there c.requires.size in
    rw w (may_remove _ _ _ _ (c.requires.keeps t) c.args.r c.requires.may)

pub returns-in-Err-Failed-clause-keeps : goal.returns-in-Err-Failed-clause-keeps
returns-in-Err-Failed-clause-keeps g c = λ t. Keeps-same _ _ _ _ _ _ _ (c.requires.keeps t) refl refl (c.in-Err-Failed.ensures.change t)

pub returns-in-Err-Memory-clause-keeps : goal.returns-in-Err-Memory-clause-keeps
returns-in-Err-Memory-clause-keeps g c = λ t. Keeps-same _ _ _ _ _ _ _ (c.requires.keeps t) refl refl (c.in-Err-Memory.ensures.change t)

pub returns-clause-keeps : goal.returns-clause-keeps
returns-clause-keeps g c = λ t.
    let w : c.as_slice-lower.result.now ≡ get_or c.args.self.now.kept.items c.args.r.node [] = c.as_slice-lower.ensures ∙ c.index.ensures ∙ kept_at c.args.self.now.tree c.args.self.now.kept.items c.args.r.dir c.args.r.name c.args.r.node c.index.result.now c.places-nodes.ensures.lawful c.requires.may.there c.requires.size in
    Keeps-same _ _ _ _ _ _ _ (keeps_removed _ _ _ _ (c.requires.keeps t) c.args.r c.requires.may) (ap (λ (p : PlainTree). p.places) c.change.ensures.tree) refl
    (λ j. c.in-Ok.ensures.change t j ∙ rw w refl)

pub returns-in-Err-Failed-clause-stays : goal.returns-in-Err-Failed-clause-stays
returns-in-Err-Failed-clause-stays g c = λ t. stays_still _ _ _ _ _ _ refl (c.in-Err-Failed.ensures.change t)

pub returns-in-Err-Memory-clause-stays : goal.returns-in-Err-Memory-clause-stays
returns-in-Err-Memory-clause-stays g c = λ t. stays_still _ _ _ _ _ _ refl (c.in-Err-Memory.ensures.change t)

pub returns-clause-stays : goal.returns-clause-stays
returns-clause-stays g c = λ t.
    let w : c.as_slice-lower.result.now ≡ get_or c.args.self.now.kept.items c.args.r.node [] = c.as_slice-lower.ensures ∙ c.index.ensures ∙ kept_at c.args.self.now.tree c.args.self.now.kept.items c.args.r.dir c.args.r.name c.args.r.node c.index.result.now c.places-nodes.ensures.lawful c.requires.may.there c.requires.size in
    Stays-same _ _ _ _ _ _ _ _ _ _ (stays_removed _ _ _ _ (c.requires.keeps t) c.places-nodes.ensures.lawful c.args.r c.requires.may) (ap (λ (p : PlainTree). p.places) c.change.ensures.tree) refl
    (λ j. c.in-Ok.ensures.change t j ∙ rw w refl)
