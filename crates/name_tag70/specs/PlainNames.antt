-- Names that stand for themselves.
use Rattle.std.specs.Prelude.{ℕ, List, Result, Ok, Err, if◌then◌else◌}
use Rattle.lower_model.specs.Name.{is_name}
use Rattle.names_model.specs.declared.fault.NameFault.{NameFault}
use Rattle.names_model.specs.declared.fault.NameFault.TheVariants.{BadName}

-- a name stands for itself, other octets stand for none
abbrev pub upper_of : List ℕ → Result (List ℕ) NameFault
upper_of lower = if is_name lower then Ok lower else Err BadName
