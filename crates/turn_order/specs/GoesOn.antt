-- How a tree over lower names goes on from its opening.
use Rattle.std.specs.Prelude.{◌≡◌, true}
use Rattle.names_model.specs.NameForm.{NameForm}
use Rattle.lower_tree.specs.Held.{HeldNames}
use Rattle.session_model.specs.TreeLog.{IsTreeLog}
use Rattle.namespace_model.specs.Carried.{Stays}
use Rattle.namespace.specs.Namespace.{Namespace}

-- The log leads from the opening's tree and count of faults to those that are now; and as far as the store tells what it holds, foreign entries, what lies below them
-- and the lower names of entries stay as they have to.
pub record GoesOn {N U : Type 0} (held : N → HeldNames) (form : NameForm) (opening now : Namespace N U) : Type 0 where
  pub history : IsTreeLog opening.tree (held opening.lower).faults now.log now.tree (held now.lower).faults
  pub told : (held now.lower).told ≡ (held opening.lower).told
  pub same_form : now.form ≡ opening.form
  pub stays : (held opening.lower).told ≡ true → Stays form opening.tree.places opening.kept (held opening.lower).entries now.tree.places now.kept (held now.lower).entries
