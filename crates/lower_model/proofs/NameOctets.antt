-- A name is a list of octets.
use Rattle.std.proofs.Common.{◌≡◌, ℕ, ◌<◌, true, List, [], ◌∷◌, length}
use Rattle.std.specs.List.{list_all}
use Rattle.std.proofs.lemmas.Bool.{and_parts, ltb-true}
use Rattle.octet_model.specs.Octets.{AreOctets}
use Rattle.lower_model.specs.Name.{is_name, is_name_octet}

AreOctets-list_all : (octets : List ℕ) → list_all is_name_octet octets ≡ true → AreOctets octets
AreOctets-list_all [] e = tt
AreOctets-list_all (x ∷ xs) e =
    let parts = and_parts (is_name_octet x) (list_all is_name_octet xs) e in
    (ltb-true x 256 (and_parts _ _ (and_parts _ _ parts.0).0).0, AreOctets-list_all xs parts.1)

-- a name consists of octets
pub AreOctets-name : (name : List ℕ) → is_name name ≡ true → AreOctets name
AreOctets-name name e = AreOctets-list_all name (and_parts _ _ (and_parts _ _ e).0).1

-- a name is shorter than 256 octets
pub length-name : (name : List ℕ) → is_name name ≡ true → length name < 256
length-name name e = ltb-true (length name) 256 (and_parts _ _ (and_parts _ _ e).0).0
