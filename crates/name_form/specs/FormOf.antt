-- A form of names as one value.
use Rattle.std.specs.Prelude.{ℕ, List, Option, Some, None, Result, Ok, Err}
use Rattle.names_model.specs.declared.fault.NameFault.{NameFault}
use Rattle.names_model.specs.NameForm.{NameForm}

-- the upper name, where there is one
abbrev pub upper_in : Result (List ℕ) NameFault → Option (List ℕ)
upper_in (Ok name) = Some name
upper_in (Err fault) = None

-- the form that reads, writes and measures names so
abbrev pub form_of : (List ℕ → Result (List ℕ) NameFault) → (List ℕ → List ℕ) → ℕ → NameForm
form_of upper written longest = record { longest = longest; upper = λ lower. upper_in (upper lower); written = written }
