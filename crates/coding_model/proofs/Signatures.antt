-- Signatures as lists of octets.
use Rattle.std.proofs.Common.{◌≡◌, ℕ, Bool, true, ltb, ◌&&◌, List, [], ◌∷◌, length, refl}
use Rattle.std.specs.List.{list_all}
use Rattle.std.proofs.lemmas.Bool.{lt-ltb, ltb-true, and_parts}
use Rattle.octet_model.specs.Octets.{AreOctets, HasOctets}

-- whether each number fits an octet
abbrev are_octets : List ℕ → Bool
are_octets octets = list_all (λ c. ltb c 256) octets

both : (a b : Bool) → a ≡ true → b ≡ true → (a && b) ≡ true
both a b ha hb = rw (ha, hb) refl

pub octets_pass : (xs : List ℕ) → AreOctets xs → are_octets xs ≡ true
octets_pass [] fits = refl
octets_pass (x ∷ xs) fits = both (ltb x 256) (are_octets xs) (lt-ltb x 256 fits.0) (octets_pass xs fits.1)

octets_of_pass : (xs : List ℕ) → are_octets xs ≡ true → AreOctets xs
octets_of_pass [] h = tt
octets_of_pass (x ∷ xs) h =
    let parts = and_parts (ltb x 256) (are_octets xs) h in
    (ltb-true x 256 parts.0, octets_of_pass xs parts.1)

pub eight_octets : (xs : List ℕ) → length xs ≡ 8 → are_octets xs ≡ true → HasOctets 8 xs
eight_octets xs long fits = record { length_is = long; octets = octets_of_pass xs fits }
