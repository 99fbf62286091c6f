-- Octets that move in several calls.
use Rattle.std.proofs.Common.{◌≡◌, ℕ, zero, suc, ◌+◌, ◌<◌, ◌≤◌, List, [], ◌∷◌, ◌++◌, length, get_or, take, drop, Option, sym, ap, ap₂, ◌∙◌, zero-add, arith}
use Rattle.std.proofs.lemmas.Grind.{common_steps}
use Rattle.std.proofs.lemmas.List.{take-append-drop, take_at, drop-drop, length-take-le}
use Rattle.std.proofs.KnownBytes.{Appends-trans}
use Rattle.std.specs.Io.KnownBytes.{Appends}

pub one_item : {X : Type 0} (xs : List X) (x : X) → 1 ≤ length xs → length xs < 2 → x ≡ get_or xs 0 x → xs ≡ x ∷ []
one_item [] x low high is = absurd (omega arith)
one_item (y ∷ []) x low high is = ap (λ z. z ∷ []) (sym is)
one_item (y ∷ z ∷ zs) x low high is = absurd (omega arith)

pub two_items : {X : Type 0} (xs : List X) (x y : X) → 2 ≤ length xs → length xs < 3 → x ≡ get_or xs 0 x → y ≡ get_or xs 1 y → xs ≡ x ∷ y ∷ []
two_items [] x y low high first second = absurd (omega arith)
two_items (a ∷ []) x y low high first second = absurd (omega arith)
two_items (a ∷ b ∷ []) x y low high first second = ap₂ (λ l m. l ∷ m ∷ []) (sym first) (sym second)
two_items (a ∷ b ∷ c ∷ xs) x y low high first second = absurd (omega arith)

take_on : (at n : ℕ) (xs : List ℕ) → take at xs ++ take n (drop at xs) ≡ take (at + n) xs
take_on zero n xs = ap (λ k. take k xs) (sym (zero-add n))
take_on (suc at) n [] = grind (arith, common_steps)
take_on (suc at) n (x ∷ xs) =
    let e : suc at + n ≡ suc (at + n) = omega arith in
    rw e (ap (λ (t : List ℕ). x ∷ t) (take_on at n xs))

-- a piece that was written behind what was written before it
pub appends_on : (a b c : Option (List ℕ)) (at n : ℕ) (xs : List ℕ) → Appends a b (take at xs) → Appends b c (take n (drop at xs)) → Appends a c (take (at + n) xs)
appends_on a b c at n xs p q = rw (← take_on at n xs) (Appends-trans a b c (take at xs) (take n (drop at xs)) p q)

-- a read that copies a front of what is left consumes it
pub copied_front : (at count : ℕ) (octets copied rest : List ℕ) → copied ≡ take count (drop at octets) → count ≤ length (drop at octets) → drop at octets ≡ take count (copied ++ rest) ++ drop (at + count) octets
copied_front at count octets copied rest e within =
    let left = drop at octets in
    let len : length copied ≡ count = ap length e ∙ length-take-le count left within in
    rw (take_at copied rest count len, e, ← drop-drop count at octets) (sym (take-append-drop count left))
