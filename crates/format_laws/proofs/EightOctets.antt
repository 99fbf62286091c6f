-- Signatures and salts as lists of octets.
use Rattle.std.proofs.Common.{◌≡◌, ℕ, true, ltb, eqb, List, [], ◌∷◌, length, refl}
use Rattle.std.specs.List.{list_all}
use Rattle.std.proofs.lemmas.Bool.{and_parts, eqb-true, eq-eqb, lt-ltb, ltb-true}
use Rattle.octet_model.specs.Octets.{AreOctets, HasOctets}
use Rattle.content_model.specs.Ecryptfs.{IsMount, FormatMount, are_eight_octets}

pub octets_by_test : (xs : List ℕ) → list_all (λ c. ltb c 256) xs ≡ true → AreOctets xs
octets_by_test [] h = tt
octets_by_test (x ∷ xs) h =
    let parts = and_parts (ltb x 256) (list_all (λ c. ltb c 256) xs) h in
    (ltb-true x 256 parts.0, octets_by_test xs parts.1)

octets_pass : (xs : List ℕ) → AreOctets xs → list_all (λ c. ltb c 256) xs ≡ true
octets_pass [] fits = refl
octets_pass (x ∷ xs) fits = let first : ltb x 256 ≡ true = lt-ltb x 256 fits.0 in rw (first, octets_pass xs fits.1) refl

pub eight_octets : (xs : List ℕ) → are_eight_octets xs ≡ true → HasOctets 8 xs
eight_octets xs h =
    let parts = and_parts (eqb (length xs) 8) (list_all (λ c. ltb c 256) xs) h in
    record { length_is = eqb-true (length xs) 8 parts.0; octets = octets_by_test xs parts.1 }

pub eight_pass : (xs : List ℕ) → length xs ≡ 8 → AreOctets xs → are_eight_octets xs ≡ true
eight_pass xs long fits = let first : eqb (length xs) 8 ≡ true = eq-eqb (length xs) 8 long in rw (first, octets_pass xs fits) refl

pub is_mount : (f : FormatMount) → IsMount f.mount
is_mount f = record { signature = eight_octets f.mount.key.signature f.signature; salt = eight_octets f.mount.salt f.salt }
