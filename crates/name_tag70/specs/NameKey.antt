-- What contracts see of the form of coded names.
use Rattle.std.specs.Prelude.{ℕ, ◌≡◌, ◌<◌, Bool, nat_lt, IsTrue, List, length}
use Rattle.std.specs.List.{list_all}
use Rattle.key_model.specs.SignedKey.{SignedKey}

-- whether each number fits an octet
abbrev pub are_octets : List ℕ → Bool
are_octets octets = list_all (λ c. nat_lt c 256) octets

-- A name key, whose signature has 8 octets.
pub record NameKey : Type 0 where
  pub key : SignedKey
  pub long : length key.signature ≡ 8
  pub octets : IsTrue (are_octets key.signature)
