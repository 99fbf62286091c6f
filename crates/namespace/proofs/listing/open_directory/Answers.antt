use Rattle.std.proofs.Common.{List, sym, ap, ◌∙◌, map}
use Rattle.std.specs.Prelude.{slice_get}
use Rattle.names_model.specs.declared.entry.LowerName.{LowerName}
use Rattle.tree_model.specs.declared.place.Place.{Place}
use Rattle.tree_model.specs.PlainTree.{is_dir}
use Rattle.plain_tree.proofs.IsTreeLemmas.{the_directory}
use Rattle.opening_model.specs.InTurn.{with_lowers}
use Rattle.name_form.specs.FormOf.{form_of}
use Rattle.opening_model.specs.Openings.{told}
use Rattle.opening_model.proofs.Openings.{opened_dir, opened_listed, opened_skipped, IsOpenedTo-is}
use Rattle.namespace.proofs.Forms.{is_form}
use Rattle.namespace.proofs.listing.open_directory.Goals as goal

pub returns-then-not-is_directory-clause-opened : goal.returns-then-not-is_directory-clause-opened
returns-then-not-is_directory-clause-opened g c = λ t.
    opened_skipped _ (is_form _ _ _ (λ name is fits. g.met.U.NameForm.reads_written c.args.form.now name is fits) (λ lower name is reads. g.met.U.NameForm.reads_names c.args.form.now lower name is reads) (λ name is fits. g.met.U.NameForm.writes_names c.args.form.now name is fits)) _ c.args.number _ (c.requires.opened t) c.requires.within
    (ap (λ (ps : List Place). is_dir (slice_get ps c.args.number)) (sym c.places.ensures.places) ∙ sym c.is_directory.ensures.value ∙ c.if-not-is_directory.true)

pub list-requires : goal.list-requires
list-requires g c = λ t.
    let d = the_directory (slice_get c.places.result.now c.args.number) (c.is_directory.ensures.directory c.if-not-is_directory.false) in
    opened_dir _ (is_form _ _ _ (λ name is fits. g.met.U.NameForm.reads_written c.args.form.now name is fits) (λ lower name is reads. g.met.U.NameForm.reads_names c.args.form.now lower name is reads) (λ name is fits. g.met.U.NameForm.writes_names c.args.form.now name is fits)) _ c.args.number _ d.0 (c.requires.holds t) (c.requires.opened t) c.requires.within
    (ap (λ (ps : List Place). slice_get ps c.args.number) (sym c.places.ensures.places) ∙ d.1)

pub returns-in-Ok-clause-opened : goal.returns-in-Ok-clause-opened
returns-in-Ok-clause-opened g c = λ t.
    let d = the_directory (slice_get c.places.result.now c.args.number) (c.is_directory.ensures.directory c.if-not-is_directory.false) in
    IsOpenedTo-is _ _ _ _ _ (c.in-Ok.ensures.entered ∙ ap (λ (listed : List LowerName). with_lowers (form_of (g.U.NameForm.upper c.args.form.now) (g.U.NameForm.written c.args.form.now) (g.U.NameForm.longest c.args.form.now)) (record { tree = c.args.tree.now; kept = c.args.kept.now.items }) c.args.number (map told listed)) c.as_slice.ensures)
    (opened_listed _ (is_form _ _ _ (λ name is fits. g.met.U.NameForm.reads_written c.args.form.now name is fits) (λ lower name is reads. g.met.U.NameForm.reads_names c.args.form.now lower name is reads) (λ name is fits. g.met.U.NameForm.writes_names c.args.form.now name is fits)) _ c.args.number _ d.0 c.in_ok-listed.listed (c.requires.opened t) c.requires.within
    (ap (λ (ps : List Place). slice_get ps c.args.number) (sym c.places.ensures.places) ∙ d.1) (c.in_ok-listed.ensures.entries t))
