-- A step of each loop over groups, and what a decoder's tests tell.
use Rattle.std.proofs.Common.{◌≡◌, ℕ, ◌+◌, ◌-◌, ◌*◌, ◌/◌, ◌%◌, ◌<◌, ◌≤◌, Bool, cond, List, [], ◌∷◌, ◌++◌, length, take, drop, get_or, Option, Some, None, Result, Ok, Err, refl, sym, ap, ◌∙◌, append_assoc, append-nil, arith}
use Rattle.std.specs.List.{position}
use Rattle.std.proofs.lemmas.Bool.{eq-eqb}
use Rattle.names_model.specs.declared.fault.CodingFault.{CodingFault}
use Rattle.names_model.specs.declared.fault.CodingFault.TheVariants.{Length}
use Rattle.coding_model.specs.NameCoding.{letter, letter_value, coded, octets_of, octets_unless, decoded, AreLetters}
use Rattle.coding_model.proofs.Groups.{coded_group, coded_one, coded_two, octets_group}
use Rattle.coding_model.proofs.Decoding.{is_none, Codes, codes_of_decoded}
use Rattle.name_coding.specs.Decoding.{fault_in}

take_whole : (xs : List ℕ) (n : ℕ) → n ≡ length xs → take n xs ≡ xs
take_whole [] n h = rw h refl
take_whole (x ∷ xs) n h = rw h (ap (λ (l : List ℕ). x ∷ l) (take_whole xs (length xs) refl))

abbrev four : ℕ → ℕ → ℕ → List ℕ
four a b c = letter (a / 4) ∷ letter (a % 4 * 16 + b / 16) ∷ letter (b % 16 * 4 + c / 64) ∷ letter (c % 64) ∷ []

pub coded_step : (rest : List ℕ) (n : ℕ) → n ≡ length rest - 3 → 3 ≤ length rest → get_or rest 0 0 < 256 → get_or rest 1 0 < 256 → get_or rest 2 0 < 256
    → coded rest ≡ four (get_or rest 0 0) (get_or rest 1 0) (get_or rest 2 0) ++ coded (take n (drop 3 rest))
coded_step [] n is h ha hb hc = absurd (omega arith)
coded_step (a ∷ []) n is h ha hb hc = absurd (omega arith)
coded_step (a ∷ b ∷ []) n is h ha hb hc = absurd (omega arith)
coded_step (a ∷ b ∷ c ∷ more) n is h ha hb hc =
    coded_group a b c more ha hb hc ∙ ap (λ (l : List ℕ). four a b c ++ coded l) (sym (take_whole more n (omega arith)))

-- a group that is added at the end of what was made of the groups before it
pub group_added : (f : List ℕ → List ℕ) (old new group rest behind all : List ℕ) → new ≡ old ++ group → f rest ≡ group ++ f behind → old ++ f rest ≡ all → new ++ f behind ≡ all
group_added f old new group rest behind all e step so_far =
    ap (λ (l : List ℕ). l ++ f behind) e ∙ append_assoc old group (f behind) ∙ ap (λ (l : List ℕ). old ++ l) (sym step) ∙ so_far

abbrev pub three : ℕ → ℕ → ℕ → ℕ → List ℕ
three u v w x = (u * 4 + v / 16) ∷ (v % 16 * 16 + w / 4) ∷ (w % 4 * 64 + x) ∷ []

pub three_of : (a b c d p q r s : ℕ) → a ≡ p → b ≡ q → c ≡ r → d ≡ s → three a b c d ≡ three p q r s
three_of a b c d p q r s ea eb ec ed = λ t. three (ea t) (eb t) (ec t) (ed t)

-- the first four of some letters, and those behind them
pub record FourLetters (rest behind : List ℕ) : Type 0 where
  pub first : letter_value (get_or rest 0 0) < 64
  pub second : letter_value (get_or rest 1 0) < 64
  pub third : letter_value (get_or rest 2 0) < 64
  pub fourth : letter_value (get_or rest 3 0) < 64
  pub octets : octets_of rest ≡ three (letter_value (get_or rest 0 0)) (letter_value (get_or rest 1 0)) (letter_value (get_or rest 2 0)) (letter_value (get_or rest 3 0)) ++ octets_of behind
  pub letters : AreLetters behind
  pub long : length behind + 4 ≡ length rest

four_letters : (a b c d : ℕ) (more : List ℕ) → AreLetters (a ∷ b ∷ c ∷ d ∷ more) → FourLetters (a ∷ b ∷ c ∷ d ∷ more) more
four_letters a b c d more h = record {
  first = h.0;
  second = h.1.0;
  third = h.1.1.0;
  fourth = h.1.1.1.0;
  octets = octets_group a b c d more h.0 h.1.0 h.1.1.0 h.1.1.1.0;
  letters = h.1.1.1.1;
  long = omega arith;
}

pub letters_step : (rest : List ℕ) (n : ℕ) → n ≡ length rest - 4 → 4 ≤ length rest → AreLetters rest → FourLetters rest (take n (drop 4 rest))
letters_step [] n is h all = absurd (omega arith)
letters_step (a ∷ []) n is h all = absurd (omega arith)
letters_step (a ∷ b ∷ []) n is h all = absurd (omega arith)
letters_step (a ∷ b ∷ c ∷ []) n is h all = absurd (omega arith)
letters_step (a ∷ b ∷ c ∷ d ∷ more) n is h all = rw (take_whole more n (omega arith)) (four_letters a b c d more all)

-- fewer than four letters, in whole groups, are none
pub no_letters : (octets rest all : List ℕ) → length rest < 4 → length rest % 4 ≡ 0 → octets ++ octets_of rest ≡ all → octets ≡ all
unfolding octets_of
no_letters octets [] all h whole e = sym (append-nil octets) ∙ e
no_letters octets (a ∷ []) all h whole e = absurd (omega arith)
no_letters octets (a ∷ b ∷ []) all h whole e = absurd (omega arith)
no_letters octets (a ∷ b ∷ c ∷ []) all h whole e = absurd (omega arith)
no_letters octets (a ∷ b ∷ c ∷ d ∷ more) all h whole e = absurd (omega arith)

-- ---- faults

pub fault_found : (cs : List ℕ) (o : Option ℕ) → length cs % 4 ≡ 0 → o ≡ position is_none cs → fault_in (octets_unless cs o) ≡ fault_in (decoded cs)
fault_found cs o whole e =
    ap (λ (p : Option ℕ). fault_in (octets_unless cs p)) e
    ∙ sym (ap (λ (b : Bool). fault_in (cond b (octets_unless cs (position is_none cs)) (Err (Length (length cs))))) (eq-eqb (length cs % 4) 0 whole))

no_fault_in : (r : Result (List ℕ) CodingFault) → None ≡ fault_in r → (octets : List ℕ) × (r ≡ Ok octets)
no_fault_in (Ok octets) e = (octets, refl)
no_fault_in (Err fault) e = absurd (let g : None ≡ Some fault = e in cc)

pub no_fault : (cs : List ℕ) → None ≡ fault_in (decoded cs) → (octets : List ℕ) × Codes cs octets
no_fault cs e = let found = no_fault_in (decoded cs) e in (found.0, codes_of_decoded cs found.0 found.1)

-- ---- the last octets

none_coded : coded [] ≡ []
unfolding coded
none_coded = refl

no_more : (letters : List ℕ) → letters ++ coded [] ≡ letters
no_more letters = ap (λ (l : List ℕ). letters ++ l) none_coded ∙ append-nil letters

pub last_one : (rest : List ℕ) → length rest ≡ 1 → get_or rest 0 0 < 256 → coded rest ≡ four (get_or rest 0 0) 0 0
last_one [] h ha = absurd (omega arith)
last_one (a ∷ []) h ha = coded_one a ∙ coded_group a 0 0 [] ha (omega arith) (omega arith) ∙ no_more (four a 0 0)
last_one (a ∷ b ∷ more) h ha = absurd (omega arith)

pub last_two : (rest : List ℕ) → length rest ≡ 2 → get_or rest 0 0 < 256 → get_or rest 1 0 < 256 → coded rest ≡ four (get_or rest 0 0) (get_or rest 1 0) 0
last_two [] h ha hb = absurd (omega arith)
last_two (a ∷ []) h ha hb = absurd (omega arith)
last_two (a ∷ b ∷ []) h ha hb = coded_two a b ∙ coded_group a b 0 [] ha hb (omega arith) ∙ no_more (four a b 0)
last_two (a ∷ b ∷ c ∷ more) h ha hb = absurd (omega arith)

pub last_none : (rest : List ℕ) → length rest < 1 → coded rest ≡ []
last_none [] h = none_coded
last_none (a ∷ more) h = absurd (omega arith)
