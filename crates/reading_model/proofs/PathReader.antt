-- Fields in a row and paths are read as they are spelled.
use Rattle.std.proofs.Common.{◌≡◌, ℕ, ◌<◌, Bool, true, false, cond, List, [], ◌∷◌, ◌++◌, length, map, Option, Some, refl, sym, ap, subst, ◌∙◌, eq-eqb, arith, inl, inr}
use Rattle.std.specs.Prelude.{not, ◌==◌}
use Rattle.std.specs.List.{list_all, slice_split, join_with_byte, flat_map, AllByRecursion}
use Rattle.std.proofs.lemmas.Bool.{eqb-true, ne_eqb, cases_Bool}
use Rattle.std.proofs.lemmas.Bool.Decides.{nat_tests}
use Rattle.std.proofs.lemmas.List.{append-nil, nil_from_length, length-append, length-map}
use Rattle.std.proofs.lemmas.List.Splits.{join_with_byte-slice_split, length-slice_split, slice_split_at, slice_split_none}
use Rattle.std.proofs.lemmas.Option.{none-some, same_Some}
use Rattle.tree_model.specs.Path.{IsPath}
use Rattle.lower_model.specs.Name.{is_name}
use Rattle.text_model.specs.Line.{is_plain, name, slash_name, path}
use Rattle.reading_model.specs.Fields.{IsName, each_in, name_in, path_in, ◌>>=◌}
use Rattle.reading_model.proofs.Readers.{IsReader, bind_some, unless_some}
use Rattle.reading_model.proofs.Words.{is_word, is_other, is_absent, weaker}
use Rattle.reading_model.proofs.Cutting.{is_at}
use Rattle.lower_model.proofs.NameOctets.{AreOctets-name}
use Rattle.reading_model.proofs.NameReader.{chosen, name_words, name_reader}

-- ---- fields in a row

-- texts in none of which this octet stands
abbrev pub AreWithout : ℕ → List (List ℕ) → Type 0
AreWithout octet texts = AllByRecursion (λ text. list_all (is_other octet) text ≡ true) texts

-- texts without an octet, joined by it, are cut at it
pub split_join : (octet : ℕ) (text : List ℕ) (texts : List (List ℕ)) → AreWithout octet (text ∷ texts) → slice_split (is_at octet) (join_with_byte octet (text ∷ texts)) ≡ text ∷ texts
split_join octet text [] h = slice_split_none (is_at octet) text (is_absent octet text h.0)
split_join octet text (next ∷ texts) h =
    slice_split_at (is_at octet) text octet (join_with_byte octet (next ∷ texts)) (is_absent octet text h.0) (eq-eqb octet octet refl) ∙ ap (λ (ts : List (List ℕ)). text ∷ ts) (split_join octet next texts h.1)

same_cons : (x y : List ℕ) (xs ys : List (List ℕ)) → x ≡ y → xs ≡ ys → x ∷ xs ≡ y ∷ ys
same_cons x y xs ys e f = ap (λ (t : List ℕ). t ∷ xs) e ∙ ap (λ (ts : List (List ℕ)). y ∷ ts) f

each_found : {A : Type 0} {read : List ℕ → Option A} {spell : A → List ℕ} {Fits : A → Type 0} → IsReader read spell Fits → (texts : List (List ℕ)) (values : List A) → each_in read texts ≡ Some values
    → (texts ≡ map spell values) × AllByRecursion Fits values
unfolding each_in
each_found {A} {read} {spell} {Fits} r [] values e = subst (λ (vs : List A). ([] ≡ map spell vs) × AllByRecursion Fits vs) (same_Some [] values e) (refl, tt)
each_found {A} {read} {spell} {Fits} r (text ∷ texts) values e =
    let b = bind_some (read text) (λ value. each_in read texts >>= λ values. Some (value ∷ values)) values e in
    let c = bind_some (each_in read texts) (λ values. Some (b.0 ∷ values)) values b.2 in
    let first = r.found text b.0 b.1 in
    let others = each_found r texts c.0 c.1 in
    subst (λ (vs : List A). (text ∷ texts ≡ map spell vs) × AllByRecursion Fits vs) (same_Some (b.0 ∷ c.0) values c.2) (same_cons text (spell b.0) texts (map spell c.0) first.0 others.0, (first.1, others.1))

each_again : {A : Type 0} {read : List ℕ → Option A} {spell : A → List ℕ} {Fits : A → Type 0} → IsReader read spell Fits → (values : List A) → AllByRecursion Fits values → each_in read (map spell values) ≡ Some values
unfolding each_in
each_again r [] h = refl
each_again r (value ∷ values) h = rw (r.again value h.0, each_again r values h.1) refl

each_without : {A : Type 0} (octet : ℕ) (spell : A → List ℕ) (Fits : A → Type 0) → ((value : A) → Fits value → list_all (is_other octet) (spell value) ≡ true) → (values : List A) → AllByRecursion Fits values → AreWithout octet (map spell values)
each_without octet spell Fits clean [] h = tt
each_without octet spell Fits clean (value ∷ values) h = (clean value h.0, each_without octet spell Fits clean values h.1)

-- some fields
pub record AreSome {A : Type 0} (Fits : A → Type 0) (values : List A) : Type 0 where
  pub some : 0 < length values
  pub each : AllByRecursion Fits values

-- fields between octets that none of them has are read exactly
pub fields_reader : {A : Type 0} (octet : ℕ) (read : List ℕ → Option A) (spell : A → List ℕ) (Fits : A → Type 0) → IsReader read spell Fits → ((value : A) → Fits value → list_all (is_other octet) (spell value) ≡ true)
    → IsReader (λ text. each_in read (slice_split (is_at octet) text)) (λ values. join_with_byte octet (map spell values)) (AreSome Fits)
fields_reader {A} octet read spell Fits r clean = record { found = found; again = again }
  where
    found : (text : List ℕ) (values : List A) → each_in read (slice_split (is_at octet) text) ≡ Some values → (text ≡ join_with_byte octet (map spell values)) × AreSome Fits values
    found text values e =
        let f = each_found r (slice_split (is_at octet) text) values e in
        (sym (join_with_byte-slice_split octet text) ∙ ap (join_with_byte octet) f.0, record { some = omega (arith, length-slice_split (is_at octet) text, ap length f.0, length-map values spell); each = f.1 })

    by : (values : List A) → 0 < length values → AllByRecursion Fits values → slice_split (is_at octet) (join_with_byte octet (map spell values)) ≡ map spell values
    by [] some h = absurd (omega (arith, some))
    by (value ∷ values) some h = split_join octet (spell value) (map spell values) (each_without octet spell Fits clean (value ∷ values) h)

    again : (values : List A) → AreSome Fits values → each_in read (slice_split (is_at octet) (join_with_byte octet (map spell values))) ≡ Some values
    again values h = ap (each_in read) (by values h.some h.each) ∙ each_again r values h.each

-- ---- paths

no_slash : (c : ℕ) → is_word c ≡ true → is_other 47 c ≡ true
no_slash c e = grind (arith, nat_tests)

name_alone : (octets : List ℕ) → is_name octets ≡ true → list_all (is_other 47) (name octets) ≡ true
name_alone octets e = weaker is_word (is_other 47) no_slash (name octets) (name_words octets (AreOctets-name octets e))

names_reader : IsReader (λ text. each_in name_in (slice_split (is_at 47) text)) (λ names. join_with_byte 47 (map name names)) (AreSome IsName)
names_reader = fields_reader 47 name_in name IsName name_reader name_alone

slashes : (first : List ℕ) (names : List (List ℕ)) → 47 ∷ join_with_byte 47 (map name (first ∷ names)) ≡ flat_map slash_name (first ∷ names)
slashes first [] = sym (append-nil (47 ∷ name first))
slashes first (next ∷ names) = ap (λ (t : List ℕ). (47 ∷ name first) ++ t) (slashes next names)

slashes_of : (names : List (List ℕ)) → 0 < length names → 47 ∷ join_with_byte 47 (map name names) ≡ path names
slashes_of [] some = absurd (omega (arith, some))
slashes_of (first ∷ names) some = slashes first names

name_some : (octets : List ℕ) → is_name octets ≡ true → 0 < length (name octets)
name_some [] e = absurd cc
name_some (x ∷ xs) e =
    elim (cases_Bool (is_plain x)) [
      | inl p ↦ rw p (omega arith)
      | inr q ↦ rw q (omega arith)
    ]

joined_some : (first : List ℕ) (names : List (List ℕ)) → is_name first ≡ true → 0 < length (join_with_byte 47 (map name (first ∷ names)))
joined_some first [] e = name_some first e
joined_some first (next ∷ names) e = omega (arith, name_some first e, length-append (name first) (47 ∷ join_with_byte 47 (map name (next ∷ names))))

not_false : (b : Bool) → not b ≡ false → b ≡ true
not_false true e = refl
not_false false e = absurd cc

-- paths are read exactly
pub path_reader : IsReader path_in path IsPath
unfolding path_in
path_reader = record { found = found; again = again }
  where
    root : (text : List ℕ) (names : List (List ℕ)) → length text ≡ 0 → [] ≡ names → (47 ∷ text ≡ path names) × IsPath names
    root text names none made = subst (λ (ns : List (List ℕ)). (47 ∷ text ≡ path ns) × IsPath ns) made (ap (λ (t : List ℕ). 47 ∷ t) (nil_from_length text none), tt)

    below : (text : List ℕ) (names : List (List ℕ)) → each_in name_in (slice_split (is_at 47) text) ≡ Some names → (47 ∷ text ≡ path names) × IsPath names
    below text names e =
        let f = names_reader.found text names e in
        (ap (λ (t : List ℕ). 47 ∷ t) f.0 ∙ slashes_of names f.1.some, f.1.each)

    behind : (c : ℕ) (text : List ℕ) (names : List (List ℕ)) → c ≡ 47 → (47 ∷ text ≡ path names) × IsPath names → (c ∷ text ≡ path names) × IsPath names
    behind c text names e h = (ap (λ (k : ℕ). k ∷ text) e ∙ h.0, h.1)

    found : (text : List ℕ) (names : List (List ℕ)) → path_in text ≡ Some names → (text ≡ path names) × IsPath names
    found [] names e = absurd (none-some names e)
    found (c ∷ text) names e =
        let below_root = each_in name_in (slice_split (is_at 47) text) in
        let u = unless_some (not (c == 47)) (cond (length text == 0) (Some []) below_root) names e in
        let slash : c ≡ 47 = eqb-true c 47 (not_false (c == 47) u.0) in
        behind c text names slash (elim (chosen (length text == 0) (Some []) below_root (Some names) u.1) [
          | inl none ↦ root text names (eqb-true (length text) 0 none.0) (same_Some [] names none.1)
          | inr some ↦ below text names some.1
        ])

    again : (names : List (List ℕ)) → IsPath names → path_in (path names) ≡ Some names
    again [] h = refl
    again (first ∷ names) h =
        let text = join_with_byte 47 (map name (first ∷ names)) in
        ap path_in (sym (slashes first names)) ∙ rw (ne_eqb (length text) 0 (λ none. omega (arith, joined_some first names h.0)), names_reader.again (first ∷ names) (record { some = omega arith; each = h })) refl
