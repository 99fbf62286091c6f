use Rattle.std.proofs.Common.{◌≡◌, ◌++◌, ◌∷◌, ℕ, List, [], length, refl, ap, ◌∙◌, arith}
use Rattle.tree_model.specs.PlainTree.{PlainTree}
use Rattle.namespace_model.proofs.States.{Keeps-same}
use Rattle.namespace_model.proofs.Changed.{stays_made, Stays-same, stays_still, may_create, keeps_made}
use Rattle.namespace.proofs.Forms.{is_form}
use Rattle.namespace.proofs.state.State.make.Goals as goal

pub create-requires : goal.create-requires
create-requires g c = λ t.
    let w : c.as_slice.result.now ≡ g.U.NameForm.written c.args.self.now.form c.args.m.name = c.as_slice.ensures ∙ c.in-Ok.ensures ∙ ap (g.U.NameForm.written c.args.self.now.form) c.octets.ensures.value in
    let n : length c.places.result.now ≡ length c.args.self.now.tree.places = ap (λ (l : List _). length l) c.places.ensures.places in
    rw (w, n) (may_create _ _ _ _ (c.requires.keeps t) (is_form _ _ _ (λ name is fits. g.met.U.NameForm.reads_written c.args.self.now.form name is fits) (λ lower name is reads. g.met.U.NameForm.reads_names c.args.self.now.form lower name is reads) (λ name is fits. g.met.U.NameForm.writes_names c.args.self.now.form name is fits)) c.requires.limit c.args.m c.requires.may c.octets.ensures.name)

pub returns-in-Err-Failed-clause-keeps : goal.returns-in-Err-Failed-clause-keeps
returns-in-Err-Failed-clause-keeps g c = λ t. Keeps-same _ _ _ _ _ _ _ (c.requires.keeps t) refl c.try_reserve.ensures.items (c.in-Err-Failed.ensures.change t)

pub returns-in-Err-Memory-clause-keeps : goal.returns-in-Err-Memory-clause-keeps
returns-in-Err-Memory-clause-keeps g c = λ t. Keeps-same _ _ _ _ _ _ _ (c.requires.keeps t) refl c.try_reserve.ensures.items (c.in-Err-Memory.ensures.change t)

pub returns-clause-keeps : goal.returns-clause-keeps
returns-clause-keeps g c = λ t.
    let v : c.in-Ok.written ≡ g.U.NameForm.written c.args.self.now.form c.args.m.name = c.in-Ok.ensures ∙ ap (g.U.NameForm.written c.args.self.now.form) c.octets.ensures.value in
    let w : c.as_slice.result.now ≡ g.U.NameForm.written c.args.self.now.form c.args.m.name = c.as_slice.ensures ∙ v in
    let n : length c.places.result.now ≡ length c.args.self.now.tree.places = ap (λ (l : List _). length l) c.places.ensures.places in
    let ks : c.push.new.self.items ≡ c.args.self.now.kept.items ++ g.U.NameForm.written c.args.self.now.form c.args.m.name ∷ [] = (rw (c.push.ensures.succeeds (omega (arith, c.in-Ok-try_reserve.ensures.ok, c.try_reserve.ensures.len)), c.try_reserve.ensures.items) at c.push.ensures.items) ∙ ap (λ (x : List ℕ). c.args.self.now.kept.items ++ x ∷ []) v in
    Keeps-same _ _ _ _ _ _ _
    (keeps_made _ _ _ _ (c.requires.keeps t) (is_form _ _ _ (λ name is fits. g.met.U.NameForm.reads_written c.args.self.now.form name is fits) (λ lower name is reads. g.met.U.NameForm.reads_names c.args.self.now.form lower name is reads) (λ name is fits. g.met.U.NameForm.writes_names c.args.self.now.form name is fits)) c.requires.limit c.args.m c.requires.may c.octets.ensures.name)
    (ap (λ (p : PlainTree). p.places) c.change-reply.ensures.tree) ks
    (λ j. c.in-Ok-create.ensures.change t j ∙ rw (w, n) refl)

pub returns-in-Err-Failed-clause-stays : goal.returns-in-Err-Failed-clause-stays
returns-in-Err-Failed-clause-stays g c = λ t. stays_still _ _ _ _ _ _ c.try_reserve.ensures.items (c.in-Err-Failed.ensures.change t)

pub returns-in-Err-Memory-clause-stays : goal.returns-in-Err-Memory-clause-stays
returns-in-Err-Memory-clause-stays g c = λ t. stays_still _ _ _ _ _ _ c.try_reserve.ensures.items (c.in-Err-Memory.ensures.change t)

pub returns-clause-stays : goal.returns-clause-stays
returns-clause-stays g c = λ t.
    let v : c.in-Ok.written ≡ g.U.NameForm.written c.args.self.now.form c.args.m.name = c.in-Ok.ensures ∙ ap (g.U.NameForm.written c.args.self.now.form) c.octets.ensures.value in
    let w : c.as_slice.result.now ≡ g.U.NameForm.written c.args.self.now.form c.args.m.name = c.as_slice.ensures ∙ v in
    let n : length c.places.result.now ≡ length c.args.self.now.tree.places = ap (λ (l : List _). length l) c.places.ensures.places in
    let ks : c.push.new.self.items ≡ c.args.self.now.kept.items ++ g.U.NameForm.written c.args.self.now.form c.args.m.name ∷ [] = (rw (c.push.ensures.succeeds (omega (arith, c.in-Ok-try_reserve.ensures.ok, c.try_reserve.ensures.len)), c.try_reserve.ensures.items) at c.push.ensures.items) ∙ ap (λ (x : List ℕ). c.args.self.now.kept.items ++ x ∷ []) v in
    Stays-same _ _ _ _ _ _ _ _ _ _
    (stays_made _ _ _ _ (c.requires.keeps t) (is_form _ _ _ (λ name is fits. g.met.U.NameForm.reads_written c.args.self.now.form name is fits) (λ lower name is reads. g.met.U.NameForm.reads_names c.args.self.now.form lower name is reads) (λ name is fits. g.met.U.NameForm.writes_names c.args.self.now.form name is fits)) c.requires.limit c.places.ensures.lawful c.args.m c.requires.may c.octets.ensures.name)
    (ap (λ (p : PlainTree). p.places) c.change-reply.ensures.tree) ks
    (λ j. c.in-Ok-create.ensures.change t j ∙ rw (w, n) refl)
