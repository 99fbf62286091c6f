use Rattle.std.proofs.Common.{◌≡◌, true, length, List, sym, ap, ◌∙◌, arith}
use Rattle.tree_model.specs.declared.place.Place.{Place}
use Rattle.opening_model.proofs.Openings.{IsOpenedTo-same, opened_shows, IsOpenedTo-at}
use Rattle.namespace.proofs.Forms.{is_form}
use Rattle.namespace.proofs.listing.open_all.Goals as goal

pub open_directory-requires-clause-opened : goal.open_directory-requires-clause-opened
open_directory-requires-clause-opened g c = λ t.
    let told : (g.N.LowerNames.held c.args.lower.now).told ≡ true = sym c.loop-number.invariant.told ∙ t in
    IsOpenedTo-same _ _ _ _ _ (c.loop-number.invariant.stays told) (c.loop-number.invariant.opened told)

pub returns-clause-shows : goal.returns-clause-shows
returns-clause-shows g c = λ t.
    let all : length c.places.result.now ≡ length c.args.tree.now.places = ap (λ (ps : List Place). length ps) c.places.ensures.places in
    opened_shows _ (is_form _ _ _ (λ name is fits. g.met.U.NameForm.reads_written c.args.form.now name is fits) (λ lower name is reads. g.met.U.NameForm.reads_names c.args.form.now lower name is reads) (λ name is fits. g.met.U.NameForm.writes_names c.args.form.now name is fits)) _ _
    (IsOpenedTo-at _ _ _ _ _ (omega (arith, c.loop-number.invariant.places, c.loop-number-test.false, c.loop-number.auto.number-end)) (c.loop-number.invariant.opened t))
