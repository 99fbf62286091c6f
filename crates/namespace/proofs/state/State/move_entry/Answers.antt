use Rattle.std.proofs.Common.{◌≡◌, ℕ, List, get_or, [], length, refl, ap, ◌∙◌, arith}
use Rattle.std.specs.Prelude.{slice_set}
use Rattle.tree_model.specs.PlainTree.{PlainTree}
use Rattle.namespace_model.specs.LowerFor.{lower_for}
use Rattle.namespace_model.proofs.States.{Keeps-same}
use Rattle.namespace_model.proofs.Changed.{stays_moved, Stays-same, stays_still, may_rename, keeps_moved, kept_at, kept_within}
use Rattle.namespace.proofs.Forms.{is_form}
use Rattle.namespace.proofs.state.State.move_entry.Goals as goal

pub rename-requires : goal.rename-requires
rename-requires g c = λ t.
    let w : c.as_slice-was.result.now ≡ get_or c.args.self.now.kept.items c.args.m.node [] = c.as_slice-was.ensures ∙ c.index.ensures ∙ kept_at c.args.self.now.tree c.args.self.now.kept.items c.args.m.from c.args.m.was c.args.m.node c.index.result.now c.places-nodes.ensures.lawful c.requires.may.there c.requires.size in
    let x : c.as_slice.result.now ≡ lower_for (g.U.NameForm.written c.args.self.now.form) c.args.self.now.kept.items c.args.m.name c.args.m.target =
    c.as_slice.ensures ∙ c.in-Ok.ensures.value ∙ ap (λ (ks : List (List ℕ)). lower_for (g.U.NameForm.written c.args.self.now.form) ks c.args.m.name c.args.m.target) c.deref.ensures.value in
    rw (w, x) (may_rename _ _ _ _ (c.requires.keeps t) (is_form _ _ _ (λ name is fits. g.met.U.NameForm.reads_written c.args.self.now.form name is fits) (λ lower name is reads. g.met.U.NameForm.reads_names c.args.self.now.form lower name is reads) (λ name is fits. g.met.U.NameForm.writes_names c.args.self.now.form name is fits)) c.requires.limit c.args.m c.requires.may c.in-Ok.ensures.lawful)

pub returns-in-Err-Failed-clause-keeps : goal.returns-in-Err-Failed-clause-keeps
returns-in-Err-Failed-clause-keeps g c = λ t. Keeps-same _ _ _ _ _ _ _ (c.requires.keeps t) refl refl (c.in-Err-Failed.ensures.change t)

pub returns-in-Err-Memory-clause-keeps : goal.returns-in-Err-Memory-clause-keeps
returns-in-Err-Memory-clause-keeps g c = λ t. Keeps-same _ _ _ _ _ _ _ (c.requires.keeps t) refl refl (c.in-Err-Memory.ensures.change t)

pub index_mut-requires : goal.index_mut-requires
index_mut-requires g c =
    let same : length c.deref.result.now ≡ length c.args.self.now.kept.items = ap (λ (l : List (List ℕ)). length l) c.deref.ensures.value in
    omega (arith, same, c.deref.ensures.len, kept_within c.args.self.now.tree c.args.self.now.kept.items c.args.m.from c.args.m.was c.args.m.node c.places-nodes.ensures.lawful c.requires.may.there c.requires.size)

pub returns-clause-keeps : goal.returns-clause-keeps
returns-clause-keeps g c = λ t.
    let w : c.as_slice-was.result.now ≡ get_or c.args.self.now.kept.items c.args.m.node [] = c.as_slice-was.ensures ∙ c.index.ensures ∙ kept_at c.args.self.now.tree c.args.self.now.kept.items c.args.m.from c.args.m.was c.args.m.node c.index.result.now c.places-nodes.ensures.lawful c.requires.may.there c.requires.size in
    let v : c.in-Ok.lower ≡ lower_for (g.U.NameForm.written c.args.self.now.form) c.args.self.now.kept.items c.args.m.name c.args.m.target =
    c.in-Ok.ensures.value ∙ ap (λ (ks : List (List ℕ)). lower_for (g.U.NameForm.written c.args.self.now.form) ks c.args.m.name c.args.m.target) c.deref.ensures.value in
    let x : c.as_slice.result.now ≡ lower_for (g.U.NameForm.written c.args.self.now.form) c.args.self.now.kept.items c.args.m.name c.args.m.target = c.as_slice.ensures ∙ v in
    Keeps-same _ _ _ _ _ _ _
    (keeps_moved _ _ _ _ (c.requires.keeps t) (is_form _ _ _ (λ name is fits. g.met.U.NameForm.reads_written c.args.self.now.form name is fits) (λ lower name is reads. g.met.U.NameForm.reads_names c.args.self.now.form lower name is reads) (λ name is fits. g.met.U.NameForm.writes_names c.args.self.now.form name is fits)) c.requires.limit c.args.m c.requires.may c.in-Ok.ensures.lawful)
    (ap (λ (p : PlainTree). p.places) c.change-reply.ensures.tree) (ap (slice_set c.args.self.now.kept.items c.args.m.node) v)
    (λ j. c.in-Ok-rename.ensures.change t j ∙ rw (w, x) refl)

pub returns-in-Err-Failed-clause-stays : goal.returns-in-Err-Failed-clause-stays
returns-in-Err-Failed-clause-stays g c = λ t. stays_still _ _ _ _ _ _ refl (c.in-Err-Failed.ensures.change t)

pub returns-in-Err-Memory-clause-stays : goal.returns-in-Err-Memory-clause-stays
returns-in-Err-Memory-clause-stays g c = λ t. stays_still _ _ _ _ _ _ refl (c.in-Err-Memory.ensures.change t)

pub returns-clause-stays : goal.returns-clause-stays
returns-clause-stays g c = λ t.
    let w : c.as_slice-was.result.now ≡ get_or c.args.self.now.kept.items c.args.m.node [] = c.as_slice-was.ensures ∙ c.index.ensures ∙ kept_at c.args.self.now.tree c.args.self.now.kept.items c.args.m.from c.args.m.was c.args.m.node c.index.result.now c.places-nodes.ensures.lawful c.requires.may.there c.requires.size in
    let v : c.in-Ok.lower ≡ lower_for (g.U.NameForm.written c.args.self.now.form) c.args.self.now.kept.items c.args.m.name c.args.m.target =
    c.in-Ok.ensures.value ∙ ap (λ (ks : List (List ℕ)). lower_for (g.U.NameForm.written c.args.self.now.form) ks c.args.m.name c.args.m.target) c.deref.ensures.value in
    let x : c.as_slice.result.now ≡ lower_for (g.U.NameForm.written c.args.self.now.form) c.args.self.now.kept.items c.args.m.name c.args.m.target = c.as_slice.ensures ∙ v in
    Stays-same _ _ _ _ _ _ _ _ _ _
    (stays_moved _ _ _ _ (c.requires.keeps t) (is_form _ _ _ (λ name is fits. g.met.U.NameForm.reads_written c.args.self.now.form name is fits) (λ lower name is reads. g.met.U.NameForm.reads_names c.args.self.now.form lower name is reads) (λ name is fits. g.met.U.NameForm.writes_names c.args.self.now.form name is fits)) c.requires.limit c.places-nodes.ensures.lawful c.args.m c.requires.may c.in-Ok.ensures.lawful)
    (ap (λ (p : PlainTree). p.places) c.change-reply.ensures.tree) (ap (slice_set c.args.self.now.kept.items c.args.m.node) v)
    (λ j. c.in-Ok-rename.ensures.change t j ∙ rw (w, x) refl)
