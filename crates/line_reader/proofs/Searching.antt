-- The first place of an octet, as a search tells it.
use Rattle.std.proofs.Common.{◌≡◌, ℕ, Bool, true, false, List, length, Option, Some, None, refl, arith}
use Rattle.std.specs.Prelude.{◌==◌}
use Rattle.std.specs.List.{position}
use Rattle.std.proofs.lemmas.Bool.{lt-ltb}
use Rattle.std.proofs.lemmas.List.Sums.{position_or_len_is}
use Rattle.memchr.specs.Find.{IsFirstByte, is_byte}

is_false : (b : Bool) → (b ≡ true → ⊥) → b ≡ false
is_false true f = absurd (f refl)
is_false false f = refl

pub first_place : (octet : ℕ) (text : List ℕ) (found : Option ℕ) → IsFirstByte (is_byte octet) text found → found ≡ position (λ c. c == octet) text
first_place octet text None first =
    let end = position_or_len_is (λ c. c == octet) text (length text) 0 (omega arith) (λ k lt. is_false _ (first k (omega arith) lt)) (λ lt. absurd (omega arith)) in
    rw end grind arith
first_place octet text (Some place) first =
    let here = position_or_len_is (λ c. c == octet) text place 0 (omega (arith, first.0.high)) (λ k lt. is_false _ (first.0.before k (omega arith) lt)) (λ lt. first.1) in
    rw (here, lt-ltb place (length text) first.0.high) refl
