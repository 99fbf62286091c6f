-- The lower file of a node.
use Rattle.std.specs.Prelude.{ℕ, List, [], Option, None, IfSome}
use Rattle.octet_model.specs.Octets.{AreOctets}

-- what the lower file of a node holds: the attribute `user.ecryptfs`, where it has it, and its body
pub record LowerFile : Type 0 where
  pub attribute : Option (List ℕ)
  pub body : List ℕ

abbrev pub no_octets : LowerFile
no_octets = record { attribute = None; body = [] }

-- both are octets
abbrev pub IsOfOctets : LowerFile → Type 0
IsOfOctets file = AreOctets file.body × IfSome file.attribute AreOctets
