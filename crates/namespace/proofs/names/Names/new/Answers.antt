use Rattle.std.proofs.Common.{◌≡◌, true, sym, ◌∙◌}
use Rattle.opening_model.proofs.Openings.{shown_keeps, shown_rises, HoldsTree-same, ShowsTree-same}
use Rattle.namespace.proofs.Forms.{is_form}
use Rattle.namespace.proofs.names.Names.new.Goals as goal

pub invariant_of-result : goal.invariant_of-result
invariant_of-result g c = record {
  limit = c.in-Ok.ensures.limit;
  size = c.in-Ok.ensures.size;
  keeps = λ t.
      let told : (g.N.LowerNames.held c.args.lower).told ≡ true = sym c.in-Ok.ensures.told ∙ t in
      shown_keeps _ (is_form _ _ _ (λ name is fits. g.met.U.NameForm.reads_written c.args.form name is fits) (λ lower name is reads. g.met.U.NameForm.reads_names c.args.form lower name is reads) (λ name is fits. g.met.U.NameForm.writes_names c.args.form name is fits)) _ _ _
      (HoldsTree-same _ _ (c.in-Ok.ensures.stays told) (c.requires told)) (ShowsTree-same _ _ _ _ _ (c.in-Ok.ensures.stays told) (c.in-Ok.ensures.shows told)) c.in-Ok.ensures.size;
}

pub returns-in-Ok-clause-keeps : goal.returns-in-Ok-clause-keeps
returns-in-Ok-clause-keeps g c = λ t.
    shown_keeps _ (is_form _ _ _ (λ name is fits. g.met.U.NameForm.reads_written c.args.form name is fits) (λ lower name is reads. g.met.U.NameForm.reads_names c.args.form lower name is reads) (λ name is fits. g.met.U.NameForm.writes_names c.args.form name is fits)) _ _ _
    (HoldsTree-same _ _ (c.in-Ok.ensures.stays t) (c.requires t)) (ShowsTree-same _ _ _ _ _ (c.in-Ok.ensures.stays t) (c.in-Ok.ensures.shows t)) c.in-Ok.ensures.size

pub returns-in-Ok-clause-rise : goal.returns-in-Ok-clause-rise
returns-in-Ok-clause-rise g c = λ t.
    shown_rises _ (is_form _ _ _ (λ name is fits. g.met.U.NameForm.reads_written c.args.form name is fits) (λ lower name is reads. g.met.U.NameForm.reads_names c.args.form lower name is reads) (λ name is fits. g.met.U.NameForm.writes_names c.args.form name is fits)) _ _ _
    (c.requires t) (c.in-Ok.ensures.shows t)
