-- What letters code, and that coded octets are read again.
use Rattle.std.proofs.Common.{◌≡◌, inl, inr, ℕ, suc, ◌+◌, ◌*◌, ◌/◌, ◌%◌, ◌<◌, ◌≤◌, Bool, true, false, not, cond, eqb, ltb, List, [], ◌∷◌, ◌++◌, length, replicate, slice_index, Option, Some, None, Result, Ok, Err, refl, sym, ap, subst, ◌∙◌, arith}
use Rattle.std.specs.List.{prefix_len, position_or_len, position}
use Rattle.std.proofs.lemmas.Bool.{cases_Bool, eqb-true, eqb-false, eq-eqb, le-ltb, ltb-false}
use Rattle.std.proofs.lemmas.List.{length-take}
use Rattle.std.proofs.lemmas.List.Folds.{length-prefix_len}
use Rattle.octet_model.specs.Octets.{AreOctets}
use Rattle.names_model.specs.declared.fault.CodingFault.{CodingFault}
use Rattle.names_model.specs.declared.fault.CodingFault.TheVariants.{Length, Letter}
use Rattle.packet_model.proofs.Found.{chosen}
use Rattle.coding_model.specs.declared.constants.TheConstants.{LETTERS}
use Rattle.coding_model.specs.NameCoding.{letter, letter_value, missing, coded, octets_of, octets_unless, decoded, AreLetters}
use Rattle.coding_model.proofs.Groups.{same_below, coded_group, coded_one, coded_two, octets_group}

-- ---- letters and what they stand for

pub letter_value-letter : (n : ℕ) → n < 64 → letter_value (letter n) ≡ n
unfolding letter letter_value
letter_value-letter = same_below 64 (λ n. letter_value (letter n)) (λ n. n) refl

pub letter_value_within : (c : ℕ) → letter_value c ≤ 64
unfolding letter_value
letter_value_within c =
    omega (arith, length-prefix_len (λ (l : ℕ). not (eqb l c)) LETTERS, length-take (prefix_len (λ (l : ℕ). not (eqb l c)) LETTERS) LETTERS)

abbrev pub is_none : ℕ → Bool
is_none c = eqb (letter_value c) 64

not_none : (c : ℕ) → letter_value c < 64 → is_none c ≡ false
not_none c h = elim (cases_Bool (is_none c)) [ inl t ↦ absurd (omega (arith, eqb-true (letter_value c) 64 t)) | inr f ↦ f ]

is_letter : (c : ℕ) → is_none c ≡ false → letter_value c < 64
is_letter c h = let other : letter_value c ≡ 64 → ⊥ = eqb-false (letter_value c) 64 h in omega (arith, letter_value_within c)

letters_from : (c : ℕ) (cs : List ℕ) (b : Bool) → is_none c ≡ b → length cs + 1 ≤ cond (not b) (1 + position_or_len is_none cs) 0
    → (letter_value c < 64) × (length cs ≤ position_or_len is_none cs)
letters_from c cs true e h = absurd (omega arith)
letters_from c cs false e h = (is_letter c e, omega arith)

are_letters : (cs : List ℕ) → length cs ≤ position_or_len is_none cs → AreLetters cs
are_letters [] h = tt
are_letters (c ∷ cs) h =
    let more : length cs + 1 ≤ cond (not (is_none c)) (1 + position_or_len is_none cs) 0 = omega arith in
    let both = letters_from c cs (is_none c) refl more in
    (both.0, are_letters cs both.1)

all_pass : (cs : List ℕ) → AreLetters cs → position_or_len is_none cs ≡ length cs
all_pass [] h = refl
all_pass (c ∷ cs) h =
    ap (λ (b : Bool). cond (not b) (1 + position_or_len is_none cs) 0) (not_none c h.0)
    ∙ (let e : position_or_len is_none cs ≡ length cs = all_pass cs h.1 in omega arith)

pub no_other : (cs : List ℕ) → AreLetters cs → position is_none cs ≡ None
no_other cs h =
    let n : ℕ = position_or_len is_none cs in
    let e : ltb n (length cs) ≡ false = le-ltb n (length cs) (omega (arith, all_pass cs h)) in
    ap (λ (b : Bool). cond b (Some n) None) e

cond_none : (b : Bool) (n : ℕ) → cond b (Some n) None ≡ None → b ≡ false
cond_none true n e = absurd (let g : Some n ≡ None = e in cc)
cond_none false n e = refl

pub letters_of_none : (cs : List ℕ) → position is_none cs ≡ None → AreLetters cs
letters_of_none cs h =
    let n : ℕ = position_or_len is_none cs in
    are_letters cs (ltb-false n (length cs) (cond_none (ltb n (length cs)) n h))

-- ---- what letters code

abbrev ok : List ℕ → Result (List ℕ) CodingFault
ok x = Ok x

pub decoded_letters : (cs : List ℕ) → length cs % 4 ≡ 0 → AreLetters cs → decoded cs ≡ ok (octets_of cs)
decoded_letters cs whole h =
    ap (λ (b : Bool). cond b (octets_unless cs (position is_none cs)) (Err (Length (length cs)))) (eq-eqb (length cs % 4) 0 whole)
    ∙ ap (λ (o : Option ℕ). octets_unless cs o) (no_other cs h)

-- letters that code octets
pub record Codes (cs octets : List ℕ) : Type 0 where
  pub whole : length cs % 4 ≡ 0
  pub letters : AreLetters cs
  pub octets_are : octets ≡ octets_of cs

unless_ok : (cs octets : List ℕ) (o : Option ℕ) → octets_unless cs o ≡ ok octets → (o ≡ None) × (octets ≡ octets_of cs)
unless_ok cs octets (Some i) e = absurd (let g : Err (Letter i (slice_index cs i)) ≡ ok octets = e in cc)
unless_ok cs octets None e = (refl, (let g : ok (octets_of cs) ≡ ok octets = e in cc))

pub codes_of_decoded : (cs octets : List ℕ) → decoded cs ≡ ok octets → Codes cs octets
codes_of_decoded cs octets e = elim (chosen (eqb (length cs % 4) 0) (octets_unless cs (position is_none cs)) (Err (Length (length cs))) (ok octets) e) [
  | inl t ↦ (let both = unless_ok cs octets (position is_none cs) t.1 in
      record { whole = eqb-true (length cs % 4) 0 t.0; letters = letters_of_none cs both.0; octets_are = both.1 })
  | inr f ↦ absurd (let g : Err (Length (length cs)) ≡ ok octets = f.1 in cc)
]

-- ---- coded octets are read again, with zeros behind them

pub record AreCoded (octets letters : List ℕ) : Type 0 where
  pub whole : length letters % 4 ≡ 0
  pub letters_are : AreLetters letters
  pub back : octets_of letters ≡ octets ++ replicate (missing 3 (length octets)) 0
  pub long : length letters ≡ (length octets + 2) / 3 * 4

letter_is : (n : ℕ) → n < 64 → letter_value (letter n) < 64
letter_is n h = omega (arith, letter_value-letter n h)

-- four letters of three octets
group_back : (a b c : ℕ) (rest : List ℕ) → a < 256 → b < 256 → c < 256
    → octets_of (letter (a / 4) ∷ letter (a % 4 * 16 + b / 16) ∷ letter (b % 16 * 4 + c / 64) ∷ letter (c % 64) ∷ rest) ≡ a ∷ b ∷ c ∷ octets_of rest
group_back a b c rest ha hb hc =
    let p : ℕ = a / 4 in
    let q : ℕ = a % 4 * 16 + b / 16 in
    let r : ℕ = b % 16 * 4 + c / 64 in
    let s : ℕ = c % 64 in
    let ep : letter_value (letter p) ≡ p = letter_value-letter p (omega arith) in
    let eq : letter_value (letter q) ≡ q = letter_value-letter q (omega arith) in
    let er : letter_value (letter r) ≡ r = letter_value-letter r (omega arith) in
    let es : letter_value (letter s) ≡ s = letter_value-letter s (omega arith) in
    let first : p * 4 + q / 16 ≡ a = omega arith in
    let second : q % 16 * 16 + r / 4 ≡ b = omega arith in
    let third : r % 4 * 64 + s ≡ c = omega arith in
    octets_group (letter p) (letter q) (letter r) (letter s) rest (letter_is p (omega arith)) (letter_is q (omega arith)) (letter_is r (omega arith)) (letter_is s (omega arith))
    ∙ (λ t. (ep t * 4 + eq t / 16) ∷ (eq t % 16 * 16 + er t / 4) ∷ (er t % 4 * 64 + es t) ∷ octets_of rest)
    ∙ (λ t. first t ∷ second t ∷ third t ∷ octets_of rest)

group_coded : (a b c : ℕ) (rest : List ℕ) → a < 256 → b < 256 → c < 256 → AreCoded rest (coded rest) → AreCoded (a ∷ b ∷ c ∷ rest) (coded (a ∷ b ∷ c ∷ rest))
group_coded a b c rest ha hb hc h =
    let more : missing 3 (length rest) ≡ missing 3 (suc (suc (suc (length rest)))) = omega arith in
    subst (AreCoded (a ∷ b ∷ c ∷ rest)) (sym (coded_group a b c rest ha hb hc)) record {
      whole = omega (arith, h.whole);
      letters_are = (letter_is _ (omega arith), (letter_is _ (omega arith), (letter_is _ (omega arith), (letter_is _ (omega arith), h.letters_are))));
      back = group_back a b c (coded rest) ha hb hc ∙ ap (λ (l : List ℕ). a ∷ b ∷ c ∷ l) (h.back ∙ ap (λ (n : ℕ). rest ++ replicate n 0) more);
      long = omega (arith, h.long);
    }

none_coded : AreCoded [] (coded [])
unfolding coded octets_of
none_coded = record { whole = refl; letters_are = tt; back = refl; long = refl }

one_coded : (a : ℕ) → a < 256 → AreCoded (a ∷ []) (coded (a ∷ []))
one_coded a ha =
    let h = group_coded a 0 0 [] ha (omega arith) (omega arith) none_coded in
    subst (AreCoded (a ∷ [])) (sym (coded_one a)) record { whole = h.whole; letters_are = h.letters_are; back = h.back; long = h.long }

two_coded : (a b : ℕ) → a < 256 → b < 256 → AreCoded (a ∷ b ∷ []) (coded (a ∷ b ∷ []))
two_coded a b ha hb =
    let h = group_coded a b 0 [] ha hb (omega arith) none_coded in
    subst (AreCoded (a ∷ b ∷ [])) (sym (coded_two a b)) record { whole = h.whole; letters_are = h.letters_are; back = h.back; long = h.long }

pub are_coded : (octets : List ℕ) → AreOctets octets → AreCoded octets (coded octets)
are_coded [] fits = none_coded
are_coded (a ∷ []) fits = one_coded a fits.0
are_coded (a ∷ b ∷ []) fits = two_coded a b fits.0 fits.1.0
are_coded (a ∷ b ∷ c ∷ rest) fits = group_coded a b c rest fits.0 fits.1.0 fits.1.1.0 (are_coded rest fits.1.1.1)

pub decoded-coded : (octets : List ℕ) → AreOctets octets → decoded (coded octets) ≡ ok (octets ++ replicate (missing 3 (length octets)) 0)
decoded-coded octets fits =
    let h = are_coded octets fits in
    decoded_letters (coded octets) h.whole h.letters_are ∙ ap ok h.back
