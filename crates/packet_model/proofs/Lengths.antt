-- A length that is read is the one that was written, and what was written is read again.
use Rattle.std.proofs.Common.{◌≡◌, ◌⊎◌, inl, inr, ℕ, ◌+◌, ◌-◌, ◌*◌, ◌/◌, ◌%◌, ◌<◌, ◌≤◌, true, false, cond, ltb, List, [], ◌∷◌, ◌++◌, length, Result, Ok, Err, refl, subst, arith}
use Rattle.std.proofs.lemmas.Bool.{cases_Bool, ltb-true, ltb-false, lt-ltb, le-ltb}
use Rattle.octet_model.specs.Octets.{AreOctets}
use Rattle.packet_model.specs.declared.length.LengthFault.{LengthFault}
use Rattle.packet_model.specs.declared.length.LengthFault.TheVariants.{First}
use Rattle.packet_model.specs.declared.length.TheConstants.{MAX_LENGTH}
use Rattle.packet_model.specs.Length.{length_octets, length_at, two_octets}
use Rattle.packet_model.proofs.Found.{Found, chosen}

again_from : (n : ℕ) (rest : List ℕ) → n ≤ MAX_LENGTH → (ltb n 192 ≡ true) ⊎ (ltb n 192 ≡ false) → length_at (length_octets n ++ rest) ≡ Ok (n, length (length_octets n))
again_from n rest h (inl e) = rw (e, e) refl
again_from n rest h (inr e) =
    let least : 192 ≤ n = ltb-false n 192 e in
    let low : ltb (192 + (n - 192) / 256) 192 ≡ false = le-ltb (192 + (n - 192) / 256) 192 (omega arith) in
    let high : ltb (192 + (n - 192) / 256) 224 ≡ true = lt-ltb (192 + (n - 192) / 256) 224 (omega arith) in
    let value : (192 + (n - 192) / 256 - 192) * 256 + (n - 192) % 256 + 192 ≡ n = omega arith in
    rw (e, low, high, value) refl

-- what was written is read again, whatever follows
pub length_again : (n : ℕ) (rest : List ℕ) → n ≤ MAX_LENGTH → length_at (length_octets n ++ rest) ≡ Ok (n, length (length_octets n))
length_again n rest h = again_from n rest h (cases_Bool (ltb n 192))

abbrev pub IsFront : List ℕ → ℕ → ℕ → Type 0
IsFront octets n used = Found (length_octets n) octets used × (n ≤ MAX_LENGTH)

abbrev ok : ℕ × ℕ → Result (ℕ × ℕ) LengthFault
ok x = Ok x

ok_is : (x y : ℕ × ℕ) → ok x ≡ ok y → x ≡ y
ok_is x y e = cc

one_octet : (a : ℕ) (rest : List ℕ) → a < 192 → IsFront (a ∷ rest) a 1
one_octet a rest h = let e : ltb a 192 ≡ true = lt-ltb a 192 h in (record { parts = rw e refl; long = rw e refl }, omega arith)

two_of : (a b : ℕ) (rest : List ℕ) → 192 ≤ a → a < 224 → b < 256 → IsFront (a ∷ b ∷ rest) ((a - 192) * 256 + b + 192) 2
two_of a b rest low high fits =
    let e : ltb ((a - 192) * 256 + b + 192) 192 ≡ false = le-ltb ((a - 192) * 256 + b + 192) 192 (omega arith) in
    let first : 192 + ((a - 192) * 256 + b + 192 - 192) / 256 ≡ a = omega arith in
    let second : ((a - 192) * 256 + b + 192 - 192) % 256 ≡ b = omega arith in
    (record { parts = rw (e, first, second) refl; long = rw e refl }, omega arith)

second_takes : (a : ℕ) (rest : List ℕ) (x : ℕ × ℕ) → 192 ≤ a → a < 224 → AreOctets rest → two_octets a rest ≡ ok x → IsFront (a ∷ rest) x.0 x.1
second_takes a [] x low high fits e = absurd cc
second_takes a (b ∷ rest) x low high fits e =
    subst (λ (y : ℕ × ℕ). IsFront (a ∷ b ∷ rest) y.0 y.1) (ok_is ((a - 192) * 256 + b + 192, 2) x e) (two_of a b rest low high fits.0)

rest_takes : (a : ℕ) (rest : List ℕ) (x : ℕ × ℕ) → 192 ≤ a → AreOctets rest → cond (ltb a 224) (two_octets a rest) (Err (First a)) ≡ ok x → IsFront (a ∷ rest) x.0 x.1
rest_takes a rest x low fits e = elim (chosen (ltb a 224) (two_octets a rest) (Err (First a)) (ok x) e) [
  | inl t ↦ second_takes a rest x low (ltb-true a 224 t.0) fits t.1
  | inr f ↦ absurd (let g : Err (First a) ≡ ok x = f.1 in cc)
]

-- what is read is what was written
pub length_takes : (octets : List ℕ) (x : ℕ × ℕ) → AreOctets octets → length_at octets ≡ ok x → IsFront octets x.0 x.1
length_takes [] x fits e = absurd cc
length_takes (a ∷ rest) x fits e = elim (chosen (ltb a 192) (ok (a, 1)) (cond (ltb a 224) (two_octets a rest) (Err (First a))) (ok x) e) [
  | inl t ↦ subst (λ (y : ℕ × ℕ). IsFront (a ∷ rest) y.0 y.1) (ok_is (a, 1) x t.1) (one_octet a rest (ltb-true a 192 t.0))
  | inr f ↦ rest_takes a rest x (ltb-false a 192 f.0) fits.1 f.1
]

length-octets_from : (n : ℕ) → (ltb n 192 ≡ true) ⊎ (ltb n 192 ≡ false) → length (length_octets n) ≤ 2
length-octets_from n (inl e) = rw e (omega arith)
length-octets_from n (inr e) = rw e (omega arith)

-- a length has at most two octets
pub length-octets : (n : ℕ) → length (length_octets n) ≤ 2
length-octets n = length-octets_from n (cases_Bool (ltb n 192))
