-- The laws of the form that a type gives.
use Rattle.std.proofs.Common.{◌≡◌, ℕ, ◌≤◌, List, length, Some, Result, Ok, Err, IsTrue, ap}
use Rattle.lower_model.specs.Name.{is_name}
use Rattle.names_model.specs.declared.fault.NameFault.{NameFault}
use Rattle.name_form.specs.FormOf.{upper_in, form_of}
use Rattle.namespace_model.specs.Carried.{IsForm}

from_some : (r : Result (List ℕ) NameFault) (name : List ℕ) → upper_in r ≡ Some name → r ≡ Ok name
from_some (Ok x) name h = cc
from_some (Err f) name h = absurd cc

pub is_form : (upper : List ℕ → Result (List ℕ) NameFault) (written : List ℕ → List ℕ) (longest : ℕ)
    → ((name : List ℕ) → IsTrue (is_name name) → length name ≤ longest → upper (written name) ≡ Ok name)
    → ((lower name : List ℕ) → IsTrue (is_name lower) → upper lower ≡ Ok name → IsTrue (is_name name))
    → ((name : List ℕ) → IsTrue (is_name name) → length name ≤ longest → IsTrue (is_name (written name)))
    → IsForm (form_of upper written longest)
is_form upper written longest reads names writes = record {
  reads_written = λ name is fits. ap upper_in (reads name is fits);
  reads_names = λ lower name is h. names lower name is (from_some (upper lower) name h);
  writes_names = writes;
}
