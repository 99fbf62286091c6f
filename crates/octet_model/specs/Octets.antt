-- Lists of octets.
use Rattle.std.specs.Prelude.{ℕ, ◌≡◌, ◌<◌, List, ◌++◌, length}
use Rattle.std.specs.List.{AllByRecursion}

-- each number fits an octet
abbrev pub AreOctets : List ℕ → Type 0
AreOctets octets = AllByRecursion (λ c. c < 256) octets

-- this many octets
pub record HasOctets (count : ℕ) (list : List ℕ) : Type 0 where
  pub length_is : length list ≡ count
  pub octets : AreOctets list

-- The list begins with this front; more may stand behind it.
pub record BeginsWith (list front : List ℕ) : Type 0 where
  pub behind : List ℕ
  pub is : list ≡ front ++ behind
