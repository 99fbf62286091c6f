-- Hexadecimal digits, written piece by piece.
use Rattle.std.proofs.Common.{◌≡◌, ℕ, ◌+◌, ◌/◌, ◌%◌, ◌<◌, ◌≤◌, true, false, cond, ltb, arith, zero-add, List, [], ◌∷◌, ◌++◌, refl, sym, ap, ◌∙◌, length, slice_index, append_assoc, append-nil}
use Rattle.std.proofs.lemmas.Bool.{lt-ltb, le-ltb}
use Rattle.std.proofs.lemmas.List.{nil_from_length}
use Rattle.std.proofs.lemmas.List.FromFn.{get_or-map-range_with_len}
use Rattle.text_model.specs.Line.{hex}
use Rattle.hex.specs.Hex.{lower_digits, encode_with}

abbrev digit_octet : ℕ → ℕ
digit_octet n = cond (ltb n 10) (48 + n) (87 + n)

lower_digit : (n : ℕ) → n < 16 → slice_index lower_digits n ≡ digit_octet n
lower_digit n h = get_or-map-range_with_len digit_octet 0 16 n n 0 h (zero-add n)

pub digit_of : (n : ℕ) → n < 10 → 48 + n ≡ slice_index lower_digits n
digit_of n h = let below : ltb n 10 ≡ true = lt-ltb n 10 h in sym (lower_digit n (omega arith) ∙ rw below refl)

pub letter_of : (n : ℕ) → 10 ≤ n → n < 16 → 87 + n ≡ slice_index lower_digits n
letter_of n low h = let above : ltb n 10 ≡ false = le-ltb n 10 low in sym (lower_digit n h ∙ rw above refl)

pub hex-append : (a b : List ℕ) → hex (a ++ b) ≡ hex a ++ hex b
unfolding encode_with
hex-append [] b = refl
hex-append (c ∷ a) b = ap (λ rest. slice_index lower_digits (c / 16) ∷ slice_index lower_digits (c % 16) ∷ rest) (hex-append a b)

-- the digits of a piece, and then those of the rest
pub hex-more : (out piece rest : List ℕ) → (out ++ hex piece) ++ hex rest ≡ out ++ hex (piece ++ rest)
hex-more out piece rest = append_assoc out (hex piece) (hex rest) ∙ ap (λ digits. out ++ digits) (sym (hex-append piece rest))

pub hex-none : (out octets : List ℕ) → length octets ≡ 0 → out ++ hex octets ≡ out
unfolding encode_with
hex-none out octets none = ap (λ o. out ++ hex o) (nil_from_length octets none) ∙ append-nil out
