-- The form of names of a mount with coded names.
use Rattle.key_model.specs.SignedKey.{SignedKey}
use Rattle.names_model.specs.NameForm.{NameForm}
use Rattle.name_form.specs.FormOf.{form_of}
use Rattle.coding_model.specs.declared.constants.TheConstants.{LONGEST_CODED_NAME}
use Rattle.coding_model.specs.CodedName.{upper_name, written_name}

abbrev pub coded_form : SignedKey → NameForm
coded_form key = form_of (upper_name key) (written_name key) LONGEST_CODED_NAME
