-- A text that is cut at an octet.
use Rattle.std.proofs.Common.{◌≡◌, ℕ, ◌+◌, ◌<◌, ◌≤◌, Bool, true, false, cond, ltb, get_or, List, [], ◌∷◌, ◌++◌, length, take, drop, Some, None, refl, sym, ap, ◌∙◌, eq-eqb, append_assoc, arith}
use Rattle.std.specs.Prelude.{◌==◌}
use Rattle.std.specs.List.{list_all, position_or_len, slice_split}
use Rattle.std.proofs.lemmas.Bool.{lt-ltb, ltb-true, ltb-false, eqb-true, and_parts}
use Rattle.std.proofs.lemmas.List.Splits.{slice_split_first, slice_split_none}
use Rattle.std.proofs.lemmas.List.Sums.{split_at_first, passes_at_first, fails_before_first}
use Rattle.std.proofs.lemmas.List.{take_at, drop_at, length-append}
use Rattle.std.proofs.lemmas.Option.{none-some, same_Some}
use Rattle.std.specs.Option.{option_map}
use Rattle.reading_model.specs.Lines.{cut_in}
use Rattle.reading_model.proofs.Words.{is_other}

-- whether this is the octet at which a text is cut
abbrev pub is_at : ℕ → ℕ → Bool
is_at octet c = c == octet

mapped : {A B : Type 0} (f : A → B) (test : Bool) (x : A) (y : B) → option_map f (cond test (Some x) None) ≡ Some y → (test ≡ true) × (f x ≡ y)
mapped f true x y e = (refl, same_Some (f x) y e)
mapped f false x y e = absurd (none-some y e)

unmapped : {A B : Type 0} (f : A → B) (test : Bool) (x : A) → option_map f (cond test (Some x) None) ≡ None → test ≡ false
unmapped f true x e = absurd (none-some (f x) (sym e))
unmapped f false x e = refl

abbrev parts_of : List ℕ → List ℕ → List ℕ × List ℕ
parts_of part rest = (part, rest)

abbrev cut_place : List ℕ → ℕ → List ℕ × List ℕ
cut_place text place = (take place text, drop (place + 1) text)

-- where it is cut
cut_is : (octet : ℕ) (text part rest : List ℕ) → cut_in octet text ≡ Some (part, rest)
    → (position_or_len (is_at octet) text < length text) × (cut_place text (position_or_len (is_at octet) text) ≡ parts_of part rest)
unfolding cut_in
cut_is octet text part rest e =
    let place = position_or_len (is_at octet) text in
    let m = mapped (cut_place text) (ltb place (length text)) place (part, rest) e in
    (ltb-true place (length text) m.0, m.1)

-- what is cut off is what stood there
pub cut_parts : (octet : ℕ) (text part rest : List ℕ) → cut_in octet text ≡ Some (part, rest) → text ≡ part ++ octet ∷ rest
cut_parts octet text part rest e =
    let place = position_or_len (is_at octet) text in
    let c = cut_is octet text part rest e in
    let at : get_or text place 0 ≡ octet = eqb-true (get_or text place 0) octet (passes_at_first (is_at octet) text 0 c.0) in
    split_at_first (is_at octet) text 0 c.0 ∙ rw at (ap (λ (x : List ℕ × List ℕ). x.0 ++ octet ∷ x.1) c.1)

place_is : (octet : ℕ) (part rest : List ℕ) → list_all (is_other octet) part ≡ true → position_or_len (is_at octet) (part ++ octet ∷ rest) ≡ length part
place_is octet [] rest e = rw (eq-eqb octet octet refl) refl
place_is octet (x ∷ xs) rest e =
    let parts = and_parts (is_other octet x) (list_all (is_other octet) xs) e in
    rw parts.0 (omega (arith, place_is octet xs rest parts.1))

-- a text without the octet is cut off at the octet behind it
pub cut_again : (octet : ℕ) (part rest : List ℕ) → list_all (is_other octet) part ≡ true → cut_in octet (part ++ octet ∷ rest) ≡ Some (part, rest)
unfolding cut_in
cut_again octet part rest e =
    let inside : ltb (length part) (length (part ++ octet ∷ rest)) ≡ true = lt-ltb _ _ (omega (arith, length-append part (octet ∷ rest))) in
    let behind : drop (length part + 1) (part ++ octet ∷ rest) ≡ rest =
    ap (drop (length part + 1)) (sym (append_assoc part (octet ∷ []) rest)) ∙ drop_at (part ++ octet ∷ []) rest (length part + 1) (omega (arith, length-append part (octet ∷ []))) in
    rw (place_is octet part rest e, inside, take_at part (octet ∷ rest) (length part) refl, behind) refl

-- the parts of a text from the first on
pub split_more : (octet : ℕ) (text part rest : List ℕ) → cut_in octet text ≡ Some (part, rest) → slice_split (is_at octet) text ≡ part ∷ slice_split (is_at octet) rest
split_more octet text part rest e =
    let c = cut_is octet text part rest e in
    slice_split_first (is_at octet) text 0 c.0 ∙ ap (λ (x : List ℕ × List ℕ). x.0 ∷ slice_split (is_at octet) x.1) c.1

-- a text without the octet is its one part
pub split_last : (octet : ℕ) (text : List ℕ) → cut_in octet text ≡ None → slice_split (is_at octet) text ≡ text ∷ []
unfolding cut_in
split_last octet text e =
    let place = position_or_len (is_at octet) text in
    let none = unmapped (cut_place text) (ltb place (length text)) place e in
    let past : length text ≤ place = ltb-false place (length text) none in
    slice_split_none (is_at octet) text (λ k d lt. fails_before_first (is_at octet) text k d (omega arith))
