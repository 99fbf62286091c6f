use Rattle.std.proofs.Common.{ap, ◌∙◌, sym, subst}
use Rattle.std.specs.Prelude.{IfOk}
use Rattle.names_model.specs.NameForm.{NameForm}
use Rattle.names_model.specs.ShownBy.{shown_of}
use Rattle.tree_model.specs.Listing.{ListsTree}
use Rattle.name_tag70.proofs.SameNames.{plain_form}
use Rattle.coding_model.specs.CodedForm.{coded_form}
use Rattle.job_model.specs.declared.job.NameCoding.{NameCoding}
use Rattle.mount_model.specs.MountForm.{key_of, form_by}
use Rattle.mount_run.proofs.show.job_listing.Goals as goal

pub returns-in-Plain-clause-lists : goal.returns-in-Plain-clause-lists
returns-in-Plain-clause-lists c =
    let job = c.args.job.now in
    let same = plain_form ∙ ap (λ (names : NameCoding). form_by names (key_of job.namesalt job.passphrase)) (sym c.in-Plain.is) in
    subst (λ (form : NameForm). IfOk c.image_listing.result (λ items. ListsTree (shown_of form job.image).places items.items)) same c.image_listing.ensures.lists

pub returns-in-Tag70-clause-lists : goal.returns-in-Tag70-clause-lists
returns-in-Tag70-clause-lists c =
    let job = c.args.job.now in
    let key = c.new-form.ensures ∙ c.name_key.ensures ∙ ap (key_of job.namesalt) c.as_slice.ensures in
    let same = ap coded_form key ∙ ap (λ (names : NameCoding). form_by names (key_of job.namesalt job.passphrase)) (sym c.in-Tag70.is) in
    subst (λ (form : NameForm). IfOk c.image_listing-listing.result (λ items. ListsTree (shown_of form job.image).places items.items)) same c.image_listing-listing.ensures.lists
