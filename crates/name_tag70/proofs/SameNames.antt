-- The form of the type of plain names is the plain form.
use Rattle.std.proofs.Common.{◌≡◌, ℕ, Bool, true, false, cond, List, Some, None, Ok, Err, refl}
use Rattle.lower_model.specs.Name.{is_name}
use Rattle.names_model.specs.declared.fault.NameFault.TheVariants.{BadName}
use Rattle.names_model.specs.declared.limits.TheConstants.{LONGEST_PLAIN_NAME}
use Rattle.names_model.specs.NameForm.{plain}
use Rattle.name_form.specs.FormOf.{upper_in, form_of}
use Rattle.name_tag70.specs.PlainNames.{upper_of}

same_upper : (is : Bool) (lower : List ℕ) → upper_in (cond is (Ok lower) (Err BadName)) ≡ cond is (Some lower) None
same_upper true lower = refl
same_upper false lower = refl

-- the form that the type's reading and writing make is the plain one
pub plain_form : form_of upper_of (λ name. name) LONGEST_PLAIN_NAME ≡ plain
plain_form = λ i. record { longest = LONGEST_PLAIN_NAME; upper = λ lower. same_upper (is_name lower) lower i; written = λ name. name }
