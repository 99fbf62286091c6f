-- Octets are read as they are spelled in hexadecimal.
use Rattle.std.proofs.Common.{◌≡◌, ℕ, zero, suc, ◌+◌, ◌*◌, ◌/◌, ◌%◌, ◌<◌, Bool, true, false, cond, ltb, List, [], ◌∷◌, Option, Some, None, Result, Ok, Err, refl, sym, ap, ◌∙◌, arith, inl, inr}
use Rattle.std.specs.Prelude.{◌&&◌, ◌==◌, slice_index}
use Rattle.std.specs.List.{list_all}
use Rattle.std.proofs.lemmas.List.Sums.{list_all-from_AllPass}
use Rattle.std.specs.Result.{result_ok}
use Rattle.std.proofs.lemmas.Bool.{and_parts, eqb-true, cases_lt}
use Rattle.std.proofs.lemmas.Bool.Decides.{nat_tests}
use Rattle.hex.specs.declared.error.FromHexError.{FromHexError}
use Rattle.hex.specs.Hex.{is_hex_digit as is_any_digit, decode_of, decode_pairs, decode_sized, digit_or_error, hex_digit_value, encode_lower, encode_with, lower_digits, pair_value, value_at, ◌>>=◌}
use Rattle.hex.proofs.HexLemmas.{decode_of-even, decode_of-ok, decode_of-encode_lower, decode_sized-ok, decode_sized-twice, decode_sized-encode_lower}
use Rattle.octet_model.specs.Octets.{AreOctets, HasOctets}
use Rattle.octet_model.proofs.Octets.{octet_at, AreOctets-from_each}
use Rattle.text_model.specs.Line.{hex}
use Rattle.reading_model.specs.Fields.{is_hex_digit, is_no_capital, hex_in, sized_hex_in}
use Rattle.reading_model.proofs.Readers.{IsReader, guard_some}
use Rattle.reading_model.proofs.Words.{is_word}

-- ---- digits

-- the digit of a value
abbrev glyph : ℕ → ℕ
glyph n = cond (ltb n 10) (48 + n) (87 + n)

abbrev is_table : ℕ → Bool
is_table zero = true
is_table (suc n) = slice_index lower_digits n == glyph n && is_table n

table_at : (n k : ℕ) → is_table n ≡ true → k < n → slice_index lower_digits k ≡ glyph k
table_at zero k e lt = absurd (omega arith)
table_at (suc n) k e lt =
    let parts = and_parts (slice_index lower_digits n == glyph n) (is_table n) e in
    elim (cases_lt k n) [
      | inl below ↦ table_at n k parts.1 below
      | inr top ↦ let same : k ≡ n = omega arith in rw same (eqb-true _ _ parts.0)
    ]

digit_is : (k : ℕ) → k < 16 → slice_index lower_digits k ≡ glyph k
digit_is k lt = table_at 16 k refl lt

-- a lower-case digit is the one of its value
record IsDigitOf (c n : ℕ) : Type 0 where
  small : n < 16
  is : glyph n ≡ c

small_value : (c n : ℕ) → is_hex_digit c ≡ true → hex_digit_value c ≡ Some n → n < 16
small_value c n e v = grind (arith, nat_tests)

glyph_value : (c n : ℕ) → is_hex_digit c ≡ true → hex_digit_value c ≡ Some n → glyph n ≡ c
glyph_value c n e v = grind (arith, nat_tests)

digit_of : (c n : ℕ) → is_hex_digit c ≡ true → hex_digit_value c ≡ Some n → IsDigitOf c n
digit_of c n e v = record { small = small_value c n e v; is = glyph_value c n e v }

value_ok : (c i n : ℕ) (o : Option ℕ) → hex_digit_value c ≡ o → digit_or_error c i o ≡ Ok n → hex_digit_value c ≡ Some n
value_ok c i n (Some v) is e = let same : v ≡ n = cc in is ∙ ap Some same
value_ok c i n None is e = absurd cc

digit_read : (c i n : ℕ) → is_hex_digit c ≡ true → value_at c i ≡ Ok n → IsDigitOf c n
digit_read c i n e v = digit_of c n e (value_ok c i n (hex_digit_value c) refl v)

bind_ok : {A B : Type 0} (r : Result A FromHexError) (f : A → Result B FromHexError) (y : B) → (r >>= f) ≡ Ok y → (x : A) × (r ≡ Ok x) × (f x ≡ Ok y)
bind_ok (Ok x) f y e = (x, refl, e)
bind_ok (Err d) f y e = absurd cc

-- two digits of an octet
pair_is : (a b i octet : ℕ) → is_hex_digit a ≡ true → is_hex_digit b ≡ true → pair_value a b i ≡ Ok octet → (slice_index lower_digits (octet / 16) ≡ a) × (slice_index lower_digits (octet % 16) ≡ b)
pair_is a b i octet ea eb e =
    let p = bind_ok (value_at a i) _ octet e in
    let q = bind_ok (value_at b (i + 1)) _ octet p.2 in
    let high = digit_read a i p.0 ea p.1 in
    let low = digit_read b (i + 1) q.0 eb q.1 in
    let whole : p.0 * 16 + q.0 ≡ octet = cc in
    let h : octet / 16 ≡ p.0 = omega (arith, high.small, low.small) in
    let l : octet % 16 ≡ q.0 = omega (arith, high.small, low.small) in
    (rw h (digit_is p.0 high.small ∙ high.is), rw l (digit_is q.0 low.small ∙ low.is))

pairs_are : (i : ℕ) (text octets : List ℕ) → list_all is_hex_digit text ≡ true → decode_pairs i text ≡ Ok octets → text ≡ encode_lower octets
unfolding decode_pairs encode_with
pairs_are i [] octets e h = let none : [] ≡ octets = cc in rw (← none) refl
pairs_are i (a ∷ []) octets e h = absurd cc
pairs_are i (a ∷ b ∷ rest) octets e h =
    let first = and_parts (is_hex_digit a) (list_all is_hex_digit (b ∷ rest)) e in
    let second = and_parts (is_hex_digit b) (list_all is_hex_digit rest) first.1 in
    let p = bind_ok (pair_value a b i) _ octets h in
    let q = bind_ok (decode_pairs (i + 2) rest) _ octets p.2 in
    let made : p.0 ∷ q.0 ≡ octets = cc in
    let pair = pair_is a b i p.0 first.0 second.0 p.1 in
    let others = pairs_are (i + 2) rest q.0 second.1 q.1 in
    rw (← made, pair.0, pair.1, ← others) refl

is_ok : (r : Result (List ℕ) FromHexError) (octets : List ℕ) → result_ok r ≡ Some octets → r ≡ Ok octets
is_ok (Ok x) octets e = let same : x ≡ octets = cc in ap Ok same
is_ok (Err d) octets e = absurd cc

decoded : (text octets : List ℕ) → list_all is_hex_digit text ≡ true → decode_of text ≡ Ok octets → (text ≡ hex octets) × AreOctets octets
decoded text octets e h =
    let ok = decode_of-ok text octets h in
    (pairs_are 0 text octets e (sym (decode_of-even text ok.0) ∙ h), AreOctets-from_each octets ok.3)

-- the digits of octets are lower-case ones, and words
glyph_hex : (n : ℕ) → n < 16 → is_hex_digit (glyph n) ≡ true
glyph_hex n lt = grind (arith, nat_tests)

glyph_word : (n : ℕ) → n < 16 → is_word (glyph n) ≡ true
glyph_word n lt = grind (arith, nat_tests)

glyph_digit : (n : ℕ) → n < 16 → (is_hex_digit (glyph n) ≡ true) × (is_word (glyph n) ≡ true)
glyph_digit n lt = (glyph_hex n lt, glyph_word n lt)

-- the spelling of octets has digits alone, and no blank or line end
pub hex_digits : (octets : List ℕ) → AreOctets octets → (list_all is_hex_digit (hex octets) ≡ true) × (list_all is_word (hex octets) ≡ true)
unfolding encode_with
hex_digits [] fits = (refl, refl)
hex_digits (x ∷ xs) fits =
    let high : x / 16 < 16 = omega (arith, fits.0) in
    let low : x % 16 < 16 = omega arith in
    let h = glyph_digit (x / 16) high in
    let l = glyph_digit (x % 16) low in
    let others = hex_digits xs fits.1 in
    (rw (digit_is (x / 16) high, digit_is (x % 16) low, h.0, l.0) others.0, rw (digit_is (x / 16) high, digit_is (x % 16) low, h.1, l.1) others.1)

-- ---- a text without capitals

lower_digit : (c : ℕ) → is_any_digit c ≡ true → is_no_capital c ≡ true → is_hex_digit c ≡ true
lower_digit c any plain = grind (arith, nat_tests)

no_capital : (c : ℕ) → is_hex_digit c ≡ true → is_no_capital c ≡ true
no_capital c e = grind (arith, nat_tests)

lower_digits_all : (text : List ℕ) → list_all is_any_digit text ≡ true → list_all is_no_capital text ≡ true → list_all is_hex_digit text ≡ true
lower_digits_all [] any plain = refl
lower_digits_all (c ∷ text) any plain =
    let a = and_parts (is_any_digit c) (list_all is_any_digit text) any in
    let n = and_parts (is_no_capital c) (list_all is_no_capital text) plain in
    rw (lower_digit c a.0 n.0, lower_digits_all text a.1 n.1) refl

no_capitals : (text : List ℕ) → list_all is_hex_digit text ≡ true → list_all is_no_capital text ≡ true
no_capitals [] e = refl
no_capitals (c ∷ text) e =
    let p = and_parts (is_hex_digit c) (list_all is_hex_digit text) e in
    rw (no_capital c p.0, no_capitals text p.1) refl

-- where the digits of any case are read, and none is a capital, all are those of a text here
digits_here : (text octets : List ℕ) → list_all is_no_capital text ≡ true → decode_of text ≡ Ok octets → list_all is_hex_digit text ≡ true
digits_here text octets plain e = lower_digits_all text (list_all-from_AllPass is_any_digit text (decode_of-ok text octets e).1) plain

guarded : (b : Bool) (r : Result (List ℕ) FromHexError) → ((octets : List ℕ) → r ≡ Ok octets → b ≡ true) → cond b (result_ok r) None ≡ result_ok r
guarded true r digits = refl
guarded false (Err d) digits = refl
guarded false (Ok octets) digits = absurd (let e = digits octets refl in cc)

pub hex_in_value : (text : List ℕ) → list_all is_no_capital text ≡ true → hex_in text ≡ result_ok (decode_of text)
unfolding hex_in
hex_in_value text plain = guarded (list_all is_hex_digit text) (decode_of text) (λ octets e. digits_here text octets plain e)

pub hex_in_refused : (text : List ℕ) (e : FromHexError) → decode_of text ≡ Err e → hex_in text ≡ None
unfolding hex_in
hex_in_refused text e bad = by (list_all is_hex_digit text)
  where
    by : (b : Bool) → cond b (result_ok (decode_of text)) None ≡ None
    by true = rw bad refl
    by false = refl

pub sized_hex_in_value : (count : ℕ) (text : List ℕ) → list_all is_no_capital text ≡ true → sized_hex_in count text ≡ result_ok (decode_sized text count)
unfolding sized_hex_in
sized_hex_in_value count text plain =
    guarded (list_all is_hex_digit text) (decode_sized text count) (λ octets e.
    let len = decode_sized-ok text count octets e in digits_here text octets plain (sym (decode_sized-twice text count len) ∙ e))

refused : (b : Bool) (r : Option (List ℕ)) → b ≡ false → cond b r None ≡ None
refused true r e = absurd cc
refused false r e = refl

capital_refused : (b plain : Bool) → (b ≡ true → plain ≡ true) → plain ≡ false → b ≡ false
capital_refused true plain all e = absurd (let yes = all refl in cc)
capital_refused false plain all e = refl

-- a text with a capital is none
pub hex_in_none : (text : List ℕ) → list_all is_no_capital text ≡ false → hex_in text ≡ None
unfolding hex_in
hex_in_none text e = refused _ _ (capital_refused (list_all is_hex_digit text) (list_all is_no_capital text) (no_capitals text) e)

pub sized_hex_in_none : (count : ℕ) (text : List ℕ) → list_all is_no_capital text ≡ false → sized_hex_in count text ≡ None
unfolding sized_hex_in
sized_hex_in_none count text e = refused _ _ (capital_refused (list_all is_hex_digit text) (list_all is_no_capital text) (no_capitals text) e)

-- octets in hexadecimal are read exactly
pub hex_reader : IsReader hex_in hex AreOctets
unfolding hex_in
hex_reader = record { found = found; again = again }
  where
    found : (text octets : List ℕ) → hex_in text ≡ Some octets → (text ≡ hex octets) × AreOctets octets
    found text octets e =
        let g = guard_some (list_all is_hex_digit text) (result_ok (decode_of text)) octets e in
        decoded text octets g.0 (is_ok (decode_of text) octets g.1)

    again : (octets : List ℕ) → AreOctets octets → hex_in (hex octets) ≡ Some octets
    again octets fits = rw ((hex_digits octets fits).0, decode_of-encode_lower octets (λ i. octet_at octets i fits)) refl

-- so many octets in hexadecimal are read exactly
pub sized_hex_reader : (count : ℕ) → IsReader (sized_hex_in count) hex (HasOctets count)
unfolding sized_hex_in
sized_hex_reader count = record { found = found; again = again }
  where
    found : (text octets : List ℕ) → sized_hex_in count text ≡ Some octets → (text ≡ hex octets) × HasOctets count octets
    found text octets e =
        let g = guard_some (list_all is_hex_digit text) (result_ok (decode_sized text count)) octets e in
        let ok = is_ok (decode_sized text count) octets g.1 in
        let len = decode_sized-ok text count octets ok in
        let all = sym (decode_sized-twice text count len) ∙ ok in
        let twice = (decode_of-ok text octets all).2 in
        let d = decoded text octets g.0 all in
        (d.0, record { length_is = omega (arith, len, twice); octets = d.1 })

    again : (octets : List ℕ) → HasOctets count octets → sized_hex_in count (hex octets) ≡ Some octets
    again octets fits = rw ((hex_digits octets fits.octets).0, decode_sized-encode_lower octets count fits.length_is (λ i. octet_at octets i fits.octets)) refl
