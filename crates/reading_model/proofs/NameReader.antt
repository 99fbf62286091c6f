-- Names are read as they are spelled.
use Rattle.std.proofs.Common.{◌≡◌, ℕ, ◌-◌, ◌<◌, ◌≤◌, Bool, true, false, cond, get_or, List, [], ◌∷◌, ◌++◌, length, take, drop, Option, Some, None, refl, sym, ap, ◌∙◌, arith, inl, inr}
use Rattle.std.specs.Prelude.{◌==◌, ◌⊎◌, slice_index}
use Rattle.std.specs.List.{list_all}
use Rattle.std.proofs.lemmas.Bool.{eqb-true, ne_eqb, cases_Bool}
use Rattle.std.proofs.lemmas.List.{take_all}
use Rattle.std.proofs.lemmas.Option.{none-some, same_Some}
use Rattle.hex.specs.Hex.{encode_with}
use Rattle.octet_model.specs.Octets.{AreOctets}
use Rattle.lower_model.specs.Name.{is_name}
use Rattle.lower_model.proofs.NameOctets.{AreOctets-name}
use Rattle.text_model.specs.Line.{hex, is_plain, name, name_octet}
use Rattle.reading_model.specs.Fields.{IsName, sized_hex_in, escaped_in, put, octets_in, name_in, ◌>>=◌}
use Rattle.reading_model.proofs.Readers.{IsReader, bind_some, guard_some, unless_some}
use Rattle.reading_model.proofs.Words.{is_word, both}
use Rattle.reading_model.proofs.HexReader.{sized_hex_reader, hex_digits}

-- which way a test went
pub chosen : {A : Type 0} (test : Bool) (x y z : A) → cond test x y ≡ z → ((test ≡ true) × (x ≡ z)) ⊎ ((test ≡ false) × (y ≡ z))
chosen true x y z e = inl (refl, e)
chosen false x y z e = inr (refl, e)

put_some : (c : ℕ) (o : Option (List ℕ)) (octets : List ℕ) → put c o ≡ Some octets → (others : List ℕ) × (o ≡ Some others) × (c ∷ others ≡ octets)
put_some c None octets e = absurd (none-some octets e)
put_some c (Some others) octets e = (others, refl, same_Some (c ∷ others) octets e)

-- ---- what is read is spelled so

plain_found : (c : ℕ) (text octets : List ℕ) → is_plain c ≡ true → put c (octets_in text) ≡ Some octets
    → ((others : List ℕ) → octets_in text ≡ Some others → text ≡ name others) → c ∷ text ≡ name octets
plain_found c text octets p e by =
    let others = put_some c (octets_in text) octets e in
    rw (← others.2, p) (ap (λ (t : List ℕ). c ∷ t) (by others.0 others.1))

one_octet : (octets : List ℕ) → length octets ≡ 1 → octets ≡ slice_index octets 0 ∷ []
one_octet [] e = absurd (omega (arith, e))
one_octet (x ∷ []) e = refl
one_octet (x ∷ y ∷ more) e = absurd (omega (arith, e))

spelled_escaped : (octet high low : ℕ) (rest others octets : List ℕ) → is_plain octet ≡ false → high ∷ low ∷ [] ≡ hex (octet ∷ []) → rest ≡ name others → octet ∷ others ≡ octets → 37 ∷ high ∷ low ∷ rest ≡ name octets
spelled_escaped octet high low rest others octets q digits e made =
    rw (← made, q) (ap (λ (t : List ℕ). 37 ∷ (high ∷ low ∷ t)) e ∙ ap (λ (t : List ℕ). 37 ∷ (t ++ name others)) digits)

-- the digits of an octet that doesn't stand for itself
escaped_is : (digits : List ℕ) (octet : ℕ) → escaped_in digits ≡ Some octet → (digits ≡ hex (octet ∷ [])) × (is_plain octet ≡ false)
escaped_is digits octet e =
    let b = bind_some (sized_hex_in 1 digits) (λ octets. cond (is_plain (slice_index octets 0)) None (Some (slice_index octets 0))) octet e in
    let u = unless_some (is_plain (slice_index b.0 0)) (Some (slice_index b.0 0)) octet b.2 in
    let is = same_Some (slice_index b.0 0) octet u.1 in
    let f = (sized_hex_reader 1).found digits b.0 b.1 in
    (f.0 ∙ ap hex (one_octet b.0 f.1.length_is) ∙ ap (λ (o : ℕ). hex (o ∷ [])) is, ap is_plain (sym is) ∙ u.0)

escaped_found : (c high low : ℕ) (rest octets : List ℕ) → cond (c == 37) (escaped_in (high ∷ low ∷ []) >>= λ octet. put octet (octets_in rest)) None ≡ Some octets
    → ((others : List ℕ) → octets_in rest ≡ Some others → rest ≡ name others) → c ∷ high ∷ low ∷ rest ≡ name octets
escaped_found c high low rest octets e by =
    let g = guard_some (c == 37) (escaped_in (high ∷ low ∷ []) >>= λ octet. put octet (octets_in rest)) octets e in
    let b = bind_some (escaped_in (high ∷ low ∷ [])) (λ octet. put octet (octets_in rest)) octets g.1 in
    let is = escaped_is (high ∷ low ∷ []) b.0 b.1 in
    let others = put_some b.0 (octets_in rest) octets b.2 in
    ap (λ (k : ℕ). k ∷ high ∷ low ∷ rest) (eqb-true c 37 g.0) ∙ spelled_escaped b.0 high low rest others.0 octets is.1 is.0 (by others.0 others.1) others.2

octets_found : (text octets : List ℕ) → octets_in text ≡ Some octets → text ≡ name octets
unfolding octets_in
octets_found [] octets e = ap name (same_Some [] octets e)
octets_found (c ∷ []) octets e =
    let g = guard_some (is_plain c) (Some (c ∷ [])) octets e in
    rw (← same_Some (c ∷ []) octets g.1, g.0) refl
octets_found (c ∷ d ∷ []) octets e =
    let g = guard_some (is_plain c) (put c (octets_in (d ∷ []))) octets e in
    plain_found c (d ∷ []) octets g.0 g.1 (λ others h. octets_found (d ∷ []) others h)
octets_found (c ∷ high ∷ low ∷ rest) octets e =
    elim (chosen (is_plain c) (put c (octets_in (high ∷ low ∷ rest))) (cond (c == 37) (escaped_in (high ∷ low ∷ []) >>= λ octet. put octet (octets_in rest)) None) (Some octets) e) [
      | inl p ↦ plain_found c (high ∷ low ∷ rest) octets p.0 p.1 (λ others h. octets_found (high ∷ low ∷ rest) others h)
      | inr q ↦ escaped_found c high low rest octets q.1 (λ others h. octets_found rest others h)
    ]

-- ---- what is spelled is read

-- an octet that stands for itself
pub plain_first : (c : ℕ) (rest : List ℕ) → is_plain c ≡ true → octets_in (c ∷ rest) ≡ put c (octets_in rest)
unfolding octets_in
plain_first c [] p = rw p refl
plain_first c (d ∷ []) p = rw p refl
plain_first c (high ∷ low ∷ rest) p = rw p refl

pub plain_text : (text : List ℕ) → 0 < length text → is_plain (get_or text 0 0) ≡ true → octets_in text ≡ put (get_or text 0 0) (octets_in (take (length text - 1) (drop 1 text)))
plain_text [] some p = absurd (omega (arith, some))
plain_text (c ∷ rest) some p = plain_first c rest p ∙ ap (λ (t : List ℕ). put c (octets_in t)) (sym (take_all (length (c ∷ rest) - 1) rest (omega arith)))

-- an octet that begins no spelling
other_first : (c : ℕ) (rest : List ℕ) → is_plain c ≡ false → (c == 37) ≡ false → octets_in (c ∷ rest) ≡ None
unfolding octets_in
other_first c [] p q = rw p refl
other_first c (d ∷ []) p q = rw p refl
other_first c (high ∷ low ∷ rest) p q = rw (p, q) refl

pub other_text : (text : List ℕ) → 0 < length text → is_plain (get_or text 0 0) ≡ false → (get_or text 0 0 ≡ 37 → ⊥) → octets_in text ≡ None
other_text [] some p q = absurd (omega (arith, some))
other_text (c ∷ rest) some p q = other_first c rest p (ne_eqb c 37 q)

-- a percent sign and two digits, or fewer
pub escaped_first : (text : List ℕ) (octet : ℕ) → 2 ≤ length text → escaped_in (take 2 text) ≡ Some octet → octets_in (37 ∷ text) ≡ put octet (octets_in (drop 2 text))
unfolding octets_in
escaped_first [] octet two e = absurd (omega (arith, two))
escaped_first (d ∷ []) octet two e = absurd (omega (arith, two))
escaped_first (high ∷ low ∷ rest) octet two e = ap (λ o. o >>= λ octet. put octet (octets_in rest)) e

pub wrong_digits : (text : List ℕ) → 2 ≤ length text → escaped_in (take 2 text) ≡ None → octets_in (37 ∷ text) ≡ None
unfolding octets_in
wrong_digits [] two e = absurd (omega (arith, two))
wrong_digits (d ∷ []) two e = absurd (omega (arith, two))
wrong_digits (high ∷ low ∷ rest) two e = ap (λ o. o >>= λ octet. put octet (octets_in rest)) e

pub few_digits : (text : List ℕ) → length text < 2 → octets_in (37 ∷ text) ≡ None
unfolding octets_in
few_digits [] few = refl
few_digits (d ∷ []) few = refl
few_digits (high ∷ low ∷ rest) few = absurd (omega (arith, few))

octets_again : (octets : List ℕ) → AreOctets octets → octets_in (name octets) ≡ Some octets
unfolding octets_in encode_with
octets_again [] fits = refl
octets_again (x ∷ xs) fits =
    elim (cases_Bool (is_plain x)) [
      | inl p ↦ rw p (plain_first x (name xs) p ∙ ap (put x) (octets_again xs fits.1))
      | inr q ↦ rw (q, (sized_hex_reader 1).again (x ∷ []) (record { length_is = refl; octets = (fits.0, tt) }), q) (ap (put x) (octets_again xs fits.1))
    ]

-- the spelling of octets in a name has no blank and no line end
pub name_words : (octets : List ℕ) → AreOctets octets → list_all is_word (name octets) ≡ true
name_words [] fits = refl
name_words (x ∷ xs) fits = both is_word (name_octet x) (name xs) octet (name_words xs fits.1)
  where
    octet : list_all is_word (name_octet x) ≡ true
    octet =
        elim (cases_Bool (is_plain x)) [
          | inl p ↦ rw (p, p) refl
          | inr q ↦ rw q ((hex_digits (x ∷ []) (fits.0, tt)).1)
        ]

pub name_reader : IsReader name_in name IsName
name_reader = record { found = found; again = again }
  where
    found : (text octets : List ℕ) → name_in text ≡ Some octets → (text ≡ name octets) × (is_name octets ≡ true)
    found text octets e =
        let b = bind_some (octets_in text) (λ octets. cond (is_name octets) (Some octets) None) octets e in
        let g = guard_some (is_name b.0) (Some b.0) octets b.2 in
        let same = same_Some b.0 octets g.1 in
        (octets_found text b.0 b.1 ∙ ap name same, rw (← same) g.0)

    again : (octets : List ℕ) → is_name octets ≡ true → name_in (name octets) ≡ Some octets
    again octets e = rw (octets_again octets (AreOctets-name octets e), e) refl
