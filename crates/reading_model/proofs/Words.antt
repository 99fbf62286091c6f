-- Texts in which an octet doesn't stand.
use Rattle.std.proofs.Common.{◌≡◌, ℕ, zero, suc, ◌<◌, Bool, true, false, List, [], ◌∷◌, ◌++◌, refl, ap, ◌∙◌, arith}
use Rattle.std.specs.Prelude.{◌&&◌, ◌||◌, not, ◌==◌, All}
use Rattle.std.specs.List.{list_all, AllByRecursion}
use Rattle.std.proofs.lemmas.Bool.{and_parts}
use Rattle.std.proofs.lemmas.List.Folds.{list_all-append}
use Rattle.std.proofs.lemmas.List.Elements.{All-from_recursion}
use Rattle.text_model.specs.Line.{is_plain}

-- The octets that numbers, octets in hexadecimal and names are spelled with: no blank, slash or line end.
abbrev pub is_word : ℕ → Bool
is_word c = is_plain c || c == 37

-- whether an octet is another one
abbrev pub is_other : ℕ → ℕ → Bool
is_other octet c = not (c == octet)

-- a test that holds in two lists holds in both of them joined
pub both : (p : ℕ → Bool) (xs ys : List ℕ) → list_all p xs ≡ true → list_all p ys ≡ true → list_all p (xs ++ ys) ≡ true
both p xs ys e f = list_all-append p xs ys ∙ ap (λ b. b && list_all p ys) e ∙ f

-- a weaker test holds as well
pub weaker : (p q : ℕ → Bool) → ((c : ℕ) → p c ≡ true → q c ≡ true) → (xs : List ℕ) → list_all p xs ≡ true → list_all q xs ≡ true
weaker p q h [] e = refl
weaker p q h (x ∷ xs) e =
    let parts = and_parts (p x) (list_all p xs) e in
    ap (λ b. b && list_all q xs) (h x parts.0) ∙ weaker p q h xs parts.1

is_not : (b : Bool) → not b ≡ true → b ≡ false
is_not true e = absurd cc
is_not false e = refl

absent_each : (octet : ℕ) (xs : List ℕ) → list_all (is_other octet) xs ≡ true → AllByRecursion (λ c. (c == octet) ≡ false) xs
absent_each octet [] e = tt
absent_each octet (x ∷ xs) e =
    let parts = and_parts (is_other octet x) (list_all (is_other octet) xs) e in
    (is_not (x == octet) parts.0, absent_each octet xs parts.1)

-- where an octet doesn't stand
pub is_absent : (octet : ℕ) (xs : List ℕ) → list_all (is_other octet) xs ≡ true → All (λ c. (c == octet) ≡ false) xs
is_absent octet xs e = All-from_recursion (λ c. (c == octet) ≡ false) xs (absent_each octet xs e)

pub is_some : (n : ℕ) → (n == 0) ≡ false → 0 < n
is_some zero e = absurd cc
is_some (suc n) e = omega arith
