-- Octets of a list, of its parts, and of lists joined.
use Rattle.std.proofs.Common.{◌≡◌, ℕ, zero, suc, ◌<◌, List, [], ◌∷◌, ◌++◌, get_or, take, drop, subst, arith}
use Rattle.std.specs.Int.{w16, w32, to_be_bytes}
use Rattle.octet_model.specs.Octets.{AreOctets}

-- at each index of a list of octets, and past its end, there is a number that fits an octet
pub octet_at : (octets : List ℕ) (i : ℕ) → AreOctets octets → get_or octets i 0 < 256
octet_at [] i fits = omega arith
octet_at (x ∷ xs) zero fits = fits.0
octet_at (x ∷ xs) (suc i) fits = octet_at xs i fits.1

-- a list that has such a number at each index
pub AreOctets-from_each : (octets : List ℕ) → ((i : ℕ) → get_or octets i 0 < 256) → AreOctets octets
AreOctets-from_each [] each = tt
AreOctets-from_each (x ∷ xs) each = (each 0, AreOctets-from_each xs (λ i. each (suc i)))

-- two lists of octets, joined
pub AreOctets-append : (xs ys : List ℕ) → AreOctets xs → AreOctets ys → AreOctets (xs ++ ys)
AreOctets-append [] ys fits others = others
AreOctets-append (x ∷ xs) ys fits others = (fits.0, AreOctets-append xs ys fits.1 others)

-- the first of two lists joined
pub AreOctets-front : (xs ys : List ℕ) → AreOctets (xs ++ ys) → AreOctets xs
AreOctets-front [] ys fits = tt
AreOctets-front (x ∷ xs) ys fits = (fits.0, AreOctets-front xs ys fits.1)

-- the second of two lists joined
pub AreOctets-back : (xs ys : List ℕ) → AreOctets (xs ++ ys) → AreOctets ys
AreOctets-back [] ys fits = fits
AreOctets-back (x ∷ xs) ys fits = AreOctets-back xs ys fits.1

-- what stands behind a text in octets
pub AreOctets-rest : (octets text rest : List ℕ) → octets ≡ text ++ rest → AreOctets octets → AreOctets rest
AreOctets-rest octets text rest e fits = AreOctets-back text rest (subst AreOctets e fits)

-- the first n octets of a list
pub AreOctets-take : (n : ℕ) (octets : List ℕ) → AreOctets octets → AreOctets (take n octets)
AreOctets-take zero octets fits = tt
AreOctets-take (suc n) [] fits = tt
AreOctets-take (suc n) (x ∷ xs) fits = (fits.0, AreOctets-take n xs fits.1)

-- what stands behind the first n octets of a list
pub AreOctets-drop : (n : ℕ) (octets : List ℕ) → AreOctets octets → AreOctets (drop n octets)
AreOctets-drop zero octets fits = fits
AreOctets-drop (suc n) [] fits = tt
AreOctets-drop (suc n) (x ∷ xs) fits = AreOctets-drop n xs fits.1

-- the octets of a number, the highest first
pub AreOctets-be_16 : (n : ℕ) → AreOctets (to_be_bytes w16 n)
AreOctets-be_16 n = (omega arith, (omega arith, tt))

-- the four octets of a number
pub AreOctets-be_32 : (n : ℕ) → AreOctets (to_be_bytes w32 n)
AreOctets-be_32 n = (omega arith, (omega arith, (omega arith, (omega arith, tt))))
