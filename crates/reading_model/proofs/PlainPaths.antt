-- A path whose octets all stand for themselves is its octets.
use Rattle.std.proofs.Common.{◌≡◌, ℕ, ◌≤◌, Bool, true, false, cond, inl, inr, get_or, List, [], ◌∷◌, length, take, drop, Option, Some, None, refl, sym, ap, ◌∙◌, eq-eqb, arith}
use Rattle.std.specs.Prelude.{MatchOption, ◌-◌, ◌&&◌, ◌||◌, ◌==◌}
use Rattle.std.specs.List.{list_all, slice_split, onto_first, AllByRecursion}
use Rattle.std.proofs.lemmas.Bool.{cases_Bool, and_parts}
use Rattle.std.proofs.lemmas.List.{take_all}
use Rattle.std.proofs.lemmas.List.Splits.{slice_split-cons_yes, slice_split-cons_no}
use Rattle.lower_model.specs.Name.{is_name}
use Rattle.text_model.specs.Line.{is_plain, is_plain_in_path}
use Rattle.tree_model.specs.Path.{KeepsNames, is_slash, parts_behind}
use Rattle.tree_model.proofs.PathLemmas.{tested_keeps, keeps_tested}
use Rattle.reading_model.specs.Fields.{put, octets_in, name_in, each_in, path_in, ◌>>=◌}
use Rattle.reading_model.proofs.NameReader.{plain_first}

-- octets that stand for themselves
plain_octets : (text : List ℕ) → list_all is_plain text ≡ true → octets_in text ≡ Some text
unfolding octets_in
plain_octets [] e = refl
plain_octets (x ∷ xs) e =
    let each = and_parts (is_plain x) (list_all is_plain xs) e in
    plain_first x xs each.0 ∙ ap (put x) (plain_octets xs each.1)

plain_name : (text : List ℕ) → list_all is_plain text ≡ true → name_in text ≡ cond (is_name text) (Some text) None
plain_name text e = ap (λ o. o >>= λ octets. cond (is_name octets) (Some octets) None) (plain_octets text e)

-- ---- the parts between slashes

abbrev ArePlain : List (List ℕ) → Type 0
ArePlain parts = AllByRecursion (λ part. list_all is_plain part ≡ true) parts

plain_alone : (p q : Bool) → (p || q) ≡ true → q ≡ false → p ≡ true
plain_alone true q e f = refl
plain_alone false true e f = absurd cc
plain_alone false false e f = absurd cc

onto_plain : (x : ℕ) (parts : List (List ℕ)) → is_plain x ≡ true → ArePlain parts → ArePlain (onto_first x parts)
onto_plain x [] e h = (ap (λ b. b && true) e, tt)
onto_plain x (part ∷ parts) e h = (ap (λ b. b && list_all is_plain part) e ∙ h.0, h.1)

parts_plain : (text : List ℕ) → list_all is_plain_in_path text ≡ true → ArePlain (slice_split is_slash text)
parts_plain [] e = (refl, tt)
parts_plain (x ∷ xs) e =
    let each = and_parts (is_plain_in_path x) (list_all is_plain_in_path xs) e in
    elim (cases_Bool (is_slash x)) [
      | inl slash ↦ rw (slice_split-cons_yes is_slash x xs slash) (refl, parts_plain xs each.1)
      | inr other ↦ rw (slice_split-cons_no is_slash x xs other) (onto_plain x (slice_split is_slash xs) (plain_alone (is_plain x) (is_slash x) each.0 other) (parts_plain xs each.1))
    ]

both_or_none : (part : List ℕ) (parts : List (List ℕ)) (first others : Bool) → (cond first (Some part) None >>= λ value. cond others (Some parts) None >>= λ values. Some (value ∷ values)) ≡ cond (first && others) (Some (part ∷ parts)) None
both_or_none part parts true true = refl
both_or_none part parts true false = refl
both_or_none part parts false others = refl

-- each part is a name, or none is read
plain_names : (parts : List (List ℕ)) → ArePlain parts → each_in name_in parts ≡ cond (list_all is_name parts) (Some parts) None
unfolding each_in
plain_names [] h = refl
plain_names (part ∷ parts) h = rw (plain_name part h.0, plain_names parts h.1) (both_or_none part parts (is_name part) (list_all is_name parts))

-- ---- paths

-- what is found where octets keep names
abbrev IsFound : List ℕ → Option (List (List ℕ)) → Type 0
IsFound text found = MatchOption found (KeepsNames text → ⊥) (λ path. KeepsNames text × (path ≡ parts_behind text))

found_names : (first : ℕ) (spelled : List ℕ) (found : Option (List (List ℕ))) → is_slash first ≡ true → IsFound (first ∷ spelled) found → found ≡ cond (list_all is_name (slice_split is_slash spelled)) (Some (slice_split is_slash spelled)) None
found_names first spelled None slash none =
    elim (cases_Bool (list_all is_name (slice_split is_slash spelled))) [
      | inl names ↦ absurd (none (tested_keeps first spelled slash names))
      | inr other ↦ rw other refl
    ]
found_names first spelled (Some path) slash some =
    rw (keeps_tested first spelled some.0).1 (ap Some (some.1 ∙ ap (drop 1) (slice_split-cons_yes is_slash first spelled slash)))

pub plain_path : (text : List ℕ) (found : Option (List (List ℕ))) → 1 ≤ length text → get_or text 0 0 ≡ 47 → (length (take (length text - 1) (drop 1 text)) == 0) ≡ false → list_all is_plain_in_path text ≡ true → IsFound text found → found ≡ path_in text
unfolding path_in
plain_path [] found begins slash some plain is = absurd (omega (arith, begins))
plain_path (first ∷ spelled) found begins slash some plain is =
    let all : take (length (first ∷ spelled) - 1) spelled ≡ spelled = take_all (length (first ∷ spelled) - 1) spelled (omega arith) in
    let stands : is_slash first ≡ true = eq-eqb first 47 slash in
    let below : (length spelled == 0) ≡ false = ap (λ (t : List ℕ). length t == 0) (sym all) ∙ some in
    let parts = parts_plain spelled (and_parts (is_plain_in_path first) (list_all is_plain_in_path spelled) plain).1 in
    rw (stands, below) (found_names first spelled found stands is ∙ sym (plain_names (slice_split is_slash spelled) parts))
