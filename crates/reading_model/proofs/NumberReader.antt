-- Numbers are read as they are spelled.
use Rattle.std.proofs.Common.{◌≡◌, ℕ, zero, suc, ◌-◌, ◌<◌, ◌≤◌, ◌^◌, min, Bool, true, false, ltb, get_or, List, [], ◌∷◌, length, Some, None, Result, Ok, Err, refl, sym, ap, ◌∙◌, eq-eqb, arith, inl, inr, rules}
use Rattle.std.specs.Prelude.{◌&&◌, ◌||◌, not, ◌==◌}
use Rattle.std.specs.Fmt.{decimal}
use Rattle.std.specs.List.{list_all}
use Rattle.std.specs.Char.{is_ascii_digit}
use Rattle.std.proofs.lemmas.Bool.{and_parts, ltb-true, lt-ltb, le-ltb, cases_lt, eqb-true}
use Rattle.std.proofs.lemmas.Option.{cond_some}
use Rattle.std.proofs.lemmas.Fmt.{decimal-digits_value, digits_decimal, digits_value-decimal, decimal_nonempty, first_decimal, decimal_digit}
use Rattle.std.specs.Option.{option_map}
use Rattle.std.specs.Result.{result_ok, result_unwrap_or, OkIff}
use Rattle.std.specs.Str.{IsUtf8}
use Rattle.std.specs.Str.Parse.{ParsesUnsigned}
use Rattle.std.proofs.lemmas.Str.{IsUtf8-from_ascii}
use Rattle.std.proofs.lemmas.Fmt.{IsAscii-from_digits}
use Rattle.std.proofs.lemmas.Str.Parse.{IsNumeralModel, numerals_by_fold, parse_digits}
use Rattle.text_model.specs.Line.{number}
use Rattle.reading_model.specs.Fields.{IsU64, value_behind, is_number, any_number_in, number_in}
use Rattle.reading_model.proofs.Readers.{IsReader}

abbrev pub AreDigits : List ℕ → Type 0
AreDigits text = list_all is_ascii_digit text ≡ true

-- the value of digits is that of decimal numerals
pub own : IsNumeralModel AreDigits (value_behind 0)
own = numerals_by_fold AreDigits (search rules) value_behind (search rules)

pub record IsNumeral (text : List ℕ) : Type 0 where
  pub digits : AreDigits text
  pub some : 0 < length text
  pub lead : get_or text 0 0 ≡ 48 → length text ≡ 1

lead_is : (c n : ℕ) → (not (c == 48) || n == 0) ≡ true → c ≡ 48 → n ≡ 0
lead_is c n e is =
    let first : (c == 48) ≡ true = eq-eqb c 48 is in
    eqb-true n 0 (ap (λ b. not b || n == 0) (sym first) ∙ e)

pub numeral_from : (text : List ℕ) → is_number text ≡ true → IsNumeral text
numeral_from [] e = absurd cc
numeral_from (c ∷ cs) e =
    let parts = and_parts (list_all is_ascii_digit (c ∷ cs)) (not (c == 48) || length cs == 0) e in
    record { digits = parts.0; some = omega arith; lead = λ is. ap suc (lead_is c (length cs) parts.1 is) }

is_numeral : (text : List ℕ) → IsNumeral text → is_number text ≡ true
is_numeral [] h = absurd (omega (arith, h.some))
is_numeral (c ∷ cs) h = by (c == 48) refl
  where
    by : (b : Bool) → (c == 48) ≡ b → (list_all is_ascii_digit (c ∷ cs) && (not (c == 48) || length cs == 0)) ≡ true
    by false e = rw (h.digits, e) refl
    by true e =
        let one : length cs ≡ 0 = let all = h.lead (eqb-true c 48 e) in omega arith in
        rw (h.digits, e, one) refl

decimal_is : (n : ℕ) → n < 2 ^ 64 → IsNumeral (decimal n)
decimal_is zero fits = rw (decimal_digit zero (omega arith)) (record { digits = refl; some = omega arith; lead = λ is. refl })
decimal_is (suc n) fits =
    let first = first_decimal (suc n) (omega arith) fits in
    record { digits = digits_decimal own (suc n) fits; some = decimal_nonempty (suc n) fits; lead = λ is. absurd (omega arith) }

-- numbers below 2^64 are read exactly
pub number_reader : IsReader number_in number IsU64
unfolding number_in
number_reader = record { found = found; again = again }
  where
    found : (text : List ℕ) (n : ℕ) → number_in text ≡ Some n → (text ≡ number n) × (n < 2 ^ 64)
    found text n e =
        let c = cond_some (is_number text && ltb (value_behind 0 text) (2 ^ 64)) (value_behind 0 text) n e in
        let parts = and_parts (is_number text) (ltb (value_behind 0 text) (2 ^ 64)) c.0 in
        let h = numeral_from text parts.0 in
        let fits : value_behind 0 text < 2 ^ 64 = ltb-true (value_behind 0 text) (2 ^ 64) parts.1 in
        (sym (decimal-digits_value own text h.digits h.some h.lead fits) ∙ ap decimal c.1, rw (← c.1) fits)

    again : (n : ℕ) → n < 2 ^ 64 → number_in (decimal n) ≡ Some n
    again n fits =
        let value = digits_value-decimal own n fits in
        rw (is_numeral (decimal n) (decimal_is n fits), value, lt-ltb n (2 ^ 64) fits) refl

pub no_number : (text : List ℕ) → is_number text ≡ false → number_in text ≡ None
unfolding number_in
no_number text e = rw e refl

pub numeral_text : (text : List ℕ) → is_number text ≡ true → IsUtf8 text
numeral_text text e = IsUtf8-from_ascii text (IsAscii-from_digits text (own.to text (numeral_from text e).digits))

not_fits : (n : ℕ) → (n < 2 ^ 64 → ⊥) → 2 ^ 64 ≤ n
not_fits n h = elim (cases_lt n (2 ^ 64)) [ inl lt ↦ absurd (h lt) | inr le ↦ le ]

-- what `parse` answers of a numeral
parsed_as : {E : Type 0} (text : List ℕ) (r : Result ℕ E) → is_number text ≡ true → OkIff r ((0 < length text) × (value_behind 0 text < 2 ^ 64)) (value_behind 0 text) → result_ok r ≡ number_in text
unfolding number_in
parsed_as text (Ok n) e h = rw (e, lt-ltb (value_behind 0 text) (2 ^ 64) h.0.1, h.1) refl
parsed_as text (Err d) e h =
    let most : 2 ^ 64 ≤ value_behind 0 text = not_fits (value_behind 0 text) (λ fits. h ((numeral_from text e).some, fits)) in
    rw (e, le-ltb (value_behind 0 text) (2 ^ 64) most) refl

pub parsed : {E : Type 0} (text : List ℕ) (r : Result ℕ E) → is_number text ≡ true → ParsesUnsigned 64 10 text r → result_ok r ≡ number_in text
parsed text r e h = parsed_as text r e (parse_digits own 64 text r h (numeral_from text e).digits)

-- ---- numbers of any size

-- a number below 2^64 is a number of any size
pub any_from_number : (text : List ℕ) (n : ℕ) → number_in text ≡ Some n → any_number_in text ≡ Some n
unfolding number_in any_number_in
any_from_number text n e =
    let c = cond_some (is_number text && ltb (value_behind 0 text) (2 ^ 64)) (value_behind 0 text) n e in
    rw (and_parts (is_number text) (ltb (value_behind 0 text) (2 ^ 64)) c.0).0 (ap Some c.1)

-- a number of any size that is below 2^64 is read as one
pub number_from_any : (text : List ℕ) (n : ℕ) → n < 2 ^ 64 → any_number_in text ≡ Some n → number_in text ≡ Some n
unfolding number_in any_number_in
number_from_any text n fits e =
    let c = cond_some (is_number text) (value_behind 0 text) n e in
    rw (c.0, c.1, lt-ltb n (2 ^ 64) fits) refl

-- what is answered of a numeral, where the last u64 stands for greater ones
saturates_as : {E : Type 0} (text : List ℕ) (r : Result ℕ E) → is_number text ≡ true → OkIff r ((0 < length text) × (value_behind 0 text < 2 ^ 64)) (value_behind 0 text)
    → Some (result_unwrap_or r (2 ^ 64 - 1)) ≡ option_map (λ n. min n (2 ^ 64 - 1)) (any_number_in text)
unfolding any_number_in
saturates_as text (Ok n) e h = let below : min (value_behind 0 text) (2 ^ 64 - 1) ≡ value_behind 0 text = omega (arith, h.0.1) in rw (e, below, h.1) refl
saturates_as text (Err d) e h =
    let most : 2 ^ 64 ≤ value_behind 0 text = not_fits (value_behind 0 text) (λ fits. h ((numeral_from text e).some, fits)) in
    let top : min (value_behind 0 text) (2 ^ 64 - 1) ≡ 2 ^ 64 - 1 = omega (arith, most) in
    rw (e, top) refl

pub saturates : {E : Type 0} (text : List ℕ) (r : Result ℕ E) → is_number text ≡ true → ParsesUnsigned 64 10 text r → Some (result_unwrap_or r (2 ^ 64 - 1)) ≡ option_map (λ n. min n (2 ^ 64 - 1)) (any_number_in text)
saturates text r e h = saturates_as text r e (parse_digits own 64 text r h (numeral_from text e).digits)

pub no_number_of_any_size : (text : List ℕ) → is_number text ≡ false → any_number_in text ≡ None
unfolding any_number_in
no_number_of_any_size text e = rw e refl
