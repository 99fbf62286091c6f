-- What a decoder answers where letters code no octets.
use Rattle.std.specs.Prelude.{ℕ, List, Option, Some, None, Result, Ok, Err}
use Rattle.names_model.specs.declared.fault.CodingFault.{CodingFault}
use Rattle.name_coding.specs.declared.error.CodingError.{CodingError}
use Rattle.name_coding.specs.declared.error.CodingError.TheVariants.{Fault, Memory}

-- the fault that an error tells: none where memory ran out
abbrev pub fault_of : CodingError → Option CodingFault
fault_of (Fault fault) = Some fault
fault_of Memory = None

-- the fault of letters that code no octets
abbrev pub fault_in : Result (List ℕ) CodingFault → Option CodingFault
fault_in (Ok octets) = None
fault_in (Err fault) = Some fault
