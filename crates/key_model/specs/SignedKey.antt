-- Keys that wrap other keys, each with its signature. A list of them is the ring of a mount.
use Rattle.std.specs.Prelude.{ℕ, List, map, Option}
use Rattle.std.specs.List.{find}
use Rattle.std.specs.Option.{option_map}
use Rattle.std.specs.Str.{bytes_eq}

-- A key and its signature, lists of octets.
pub record SignedKey : Type 0 where
  pub signature : List ℕ
  pub key : List ℕ

abbrev pub signatures : List SignedKey → List (List ℕ)
signatures ring = map (λ k. k.signature) ring

abbrev pub keys : List SignedKey → List (List ℕ)
keys ring = map (λ k. k.key) ring

-- the key with this signature, the first of several
abbrev pub key_with : List ℕ → List SignedKey → Option (List ℕ)
key_with signature ring = option_map (λ k. k.key) (find (λ k. bytes_eq k.signature signature) ring)
