use Rattle.std.proofs.Common.{◌≡◌, List, ap, ◌∙◌, subst}
use Rattle.std.specs.List.{AllByRecursion}
use Rattle.std.proofs.lemmas.Result.{IfOk-weaker}
use Rattle.tree_model.specs.declared.place.Place.{Place}
use Rattle.tree_model.specs.PlainTree.{PlainTree}
use Rattle.tree_model.specs.Listing.{LeadsToNode}
use Rattle.names_model.specs.ShownBy.{shown_of}
use Rattle.name_form.specs.FormOf.{form_of}
use Rattle.mount_run.proofs.ListedNumbers.{numbers}
use Rattle.mount_run.proofs.listed.image_listing.Goals as goal

pub returns-in-Ok-clause-numbers : goal.returns-in-Ok-clause-numbers
returns-in-Ok-clause-numbers g c =
    let U = g.U.NameForm in
    let form = form_of (U.upper c.args.form) (U.written c.args.form) (U.longest c.args.form) in
    let image = c.args.image.now in
    let tree : c.in-Ok.names.tree ≡ shown_of form image = (c.in-Ok.ensures.shows c.in_ok-names.ensures.told).tree image (record { lawful = c.requires.lawful; entries = c.in_ok-names.ensures.entries }) in
    let same : c.places.result.now ≡ (shown_of form image).places = c.places.ensures.places ∙ ap (λ (t : PlainTree). t.places) tree in
    IfOk-weaker c.listing.result _ _ (λ items nodes. numbers form image items.items (subst (λ (places : List Place). AllByRecursion (LeadsToNode places) items.items) same nodes)) c.listing.ensures.nodes
