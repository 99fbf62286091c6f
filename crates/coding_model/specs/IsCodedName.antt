-- What a coded name stands for, as a relation: whatever its lead, as long as it is one.
use Rattle.std.specs.Prelude.{ℕ, ◌≡◌, ◌<◌, ◌≤◌, ◌+◌, ◌%◌, List, ◌∷◌, ◌++◌, length}
use Rattle.std.specs.List.{AllByRecursion}
use Rattle.octet_model.specs.Octets.{AreOctets}
use Rattle.key_model.specs.SignedKey.{SignedKey}
use Rattle.packet_model.specs.declared.length.TheConstants.{MAX_LENGTH}
use Rattle.coding_model.specs.declared.constants.TheConstants.{LEAST_LEAD}
use Rattle.coding_model.specs.CodedName.{coded_name}

-- at least so many octets, none of them zero
pub record IsLead (lead : List ℕ) : Type 0 where
  pub long : LEAST_LEAD ≤ length lead
  pub octets : AreOctets lead
  pub no_zero : AllByRecursion (λ c. 0 < c) lead

-- This lower name holds these octets: behind a lead and a zero they are its plain text, which has whole blocks and fits a packet.
pub record IsCodedName (key : SignedKey) (lower octets : List ℕ) : Type 0 where
  pub lead : List ℕ
  pub lead_is : IsLead lead
  pub some : 0 < length octets
  pub fits : AreOctets octets
  pub whole : (length lead + 1 + length octets) % 16 ≡ 0
  pub short : 9 + (length lead + 1 + length octets) ≤ MAX_LENGTH
  pub lower_is : lower ≡ coded_name key (lead ++ 0 ∷ octets)
