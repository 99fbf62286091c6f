-- What the reading of a part and its spelling have to do with each other.
use Rattle.std.proofs.Common.{◌≡◌, ℕ, zero, suc, ◌<◌, ◌^◌, Bool, true, false, cond, List, [], ◌∷◌, ◌++◌, length, take, drop, Option, Some, None, Result, Ok, Err, refl, sym, ap, subst, ◌∙◌, append_assoc, arith}
use Rattle.std.specs.Prelude.{◌==◌}
use Rattle.std.specs.List.{list_all, flat_map, AllByRecursion}
use Rattle.std.specs.Str.{bytes_eq}
use Rattle.std.proofs.lemmas.List.{length-append, take-append-drop, take_at, drop_at, append-nil, nil_from_length}
use Rattle.std.proofs.lemmas.Bool.{eqb-true}
use Rattle.std.proofs.lemmas.Slice.Eq.{bytes_eq-Decides}
use Rattle.octet_model.specs.Octets.{AreOctets}
use Rattle.octet_model.proofs.Octets.{AreOctets-rest}
use Rattle.answer_model.specs.Answer.{◌>>=◌}
use Rattle.answer_model.proofs.Binds.{bind_ok, ok_is}
use Rattle.reading_model.specs.Lines.{line_in}
use Rattle.reading_model.proofs.Readers.{IsReader, guard_some}
use Rattle.reading_model.proofs.Words.{is_other, both}
use Rattle.reading_model.proofs.Cutting.{cut_parts, cut_again}
use Rattle.std.proofs.lemmas.Option.{same_Some}
use Rattle.job_text.specs.JobReading.{Part, or_wrong, behind, word_at, whole_at, field_at, times_at}

pub or_wrong_ok : {A : Type 0} (o : Option A) (octets : List ℕ) (x : A) → or_wrong o octets ≡ Ok x → o ≡ Some x
or_wrong_ok (Some y) octets x e = let same : y ≡ x = cc in ap Some same
or_wrong_ok None octets x e = absurd cc

abbrev done : {A : Type 0} → A → Result A ℕ
done x = Ok x

-- a line holds no line end
abbrev pub HasNoEnd : List ℕ → Type 0
HasNoEnd text = list_all (is_other 10) text ≡ true

-- what a slice of octets can hold
pub record IsSlice (list : List ℕ) : Type 0 where
  pub octets : AreOctets list
  pub short : length list < 2 ^ 64

pub IsSlice-rest : (octets text rest : List ℕ) → octets ≡ text ++ rest → IsSlice octets → IsSlice rest
IsSlice-rest octets text rest e fits = record {
  octets = AreOctets-rest octets text rest e fits.octets;
  short = omega (arith, ap length e, length-append text rest, fits.short);
}

-- What is read is spelled so, and what is spelled so is read, whatever follows.
pub record IsPart {A : Type 0} (at : List ℕ → Part A) (spell : A → List ℕ) (Fits : A → Type 0) : Type 0 where
  pub found : (octets : List ℕ) → IsSlice octets → (x : A × List ℕ) → at octets ≡ Ok x → (octets ≡ spell x.0 ++ x.1) × Fits x.0
  pub again : (value : A) (rest : List ℕ) → Fits value → at (spell value ++ rest) ≡ Ok (value, rest)

pub ended : {A : Type 0} (test : Bool) (x : A) (left : ℕ) (y : A) → cond test (Ok x) (Err left) ≡ done y → (test ≡ true) × (x ≡ y)
ended true x left y e = (refl, cc)
ended false x left y e = absurd cc

-- ---- lines

line_is : (octets : List ℕ) (line : List ℕ × List ℕ) → line_in octets ≡ Some line → octets ≡ line.0 ++ 10 ∷ line.1
line_is octets line e = cut_parts 10 octets line.0 line.1 e

pub behind_is : (word text field : List ℕ) → behind word text ≡ Some field → text ≡ word ++ field
behind_is word text field e =
    let g = guard_some (bytes_eq (take (length word) text) word) (Some (drop (length word) text)) field e in
    let front : take (length word) text ≡ word = (bytes_eq-Decides (take (length word) text) word).0 g.0 in
    sym (take-append-drop (length word) text) ∙ ap (λ (t : List ℕ). t ++ drop (length word) text) front ∙ ap (λ (t : List ℕ). word ++ t) (same_Some (drop (length word) text) field g.1)

pub behind_again : (word field : List ℕ) → behind word (word ++ field) ≡ Some field
behind_again word field =
    rw (take_at word field (length word) refl, drop_at word field (length word) refl, (bytes_eq-Decides word word).1 refl) refl

pub word_found : (word octets : List ℕ) (x : List ℕ × List ℕ) → word_at word octets ≡ Ok x → octets ≡ (word ++ x.0) ++ 10 ∷ x.1
unfolding word_at
word_found word octets x e =
    let l = bind_ok (or_wrong (line_in octets) octets) _ x e in
    let t = bind_ok (or_wrong (behind word l.0.0) octets) _ x l.2 in
    let line = line_is octets l.0 (or_wrong_ok (line_in octets) octets l.0 l.1) in
    let field = behind_is word l.0.0 t.0 (or_wrong_ok (behind word l.0.0) octets t.0 t.1) in
    subst (λ (y : List ℕ × List ℕ). octets ≡ (word ++ y.0) ++ 10 ∷ y.1) (ok_is (t.0, l.0.1) x t.2) (line ∙ ap (λ (s : List ℕ). s ++ 10 ∷ l.0.1) field)

word_again : (word text rest : List ℕ) → HasNoEnd word → HasNoEnd text → word_at word ((word ++ text) ++ 10 ∷ rest) ≡ Ok (text, rest)
unfolding word_at
word_again word text rest w t = rw (cut_again 10 (word ++ text) rest (both (is_other 10) word text w t), behind_again word text) refl

-- a field that is read by one reader is read by another that answers the same
pub field_by : {A : Type 0} (read other : List ℕ → Option A) (word octets : List ℕ) (x : A × List ℕ) → ((text : List ℕ) → read text ≡ Some x.0 → other text ≡ Some x.0) → field_at word read octets ≡ Ok x → field_at word other octets ≡ Ok x
field_by {A} read other word octets x same e =
    let t = bind_ok (word_at word octets) _ x e in
    let v = bind_ok (or_wrong (read t.0.0) octets) _ x t.2 in
    let is : v.0 ≡ x.0 = ap (λ (y : A × List ℕ). y.0) (ok_is {E = ℕ} (v.0, t.0.1) x v.2) in
    let answer = same t.0.0 (or_wrong_ok (read t.0.0) octets v.0 v.1 ∙ ap Some is) in
    rw (t.1, answer) (ap (λ (y : A). done (y, t.0.1)) (sym is) ∙ v.2)

pub whole_found : (word octets rest : List ℕ) → whole_at word octets ≡ Ok rest → octets ≡ (word ++ 10 ∷ []) ++ rest
unfolding whole_at
whole_found word octets rest e =
    let t = bind_ok (word_at word octets) _ rest e in
    let g = ended (length t.0.0 == 0) t.0.1 (length octets) rest t.2 in
    let nothing : t.0.0 ≡ [] = nil_from_length t.0.0 (eqb-true (length t.0.0) 0 g.0) in
    word_found word octets t.0 t.1 ∙ ap (λ (s : List ℕ). (word ++ s) ++ 10 ∷ t.0.1) nothing ∙ ap (λ (s : List ℕ). s ++ 10 ∷ t.0.1) (append-nil word) ∙ ap (λ (s : List ℕ). word ++ 10 ∷ s) g.1 ∙ sym (append_assoc word (10 ∷ []) rest)

pub whole_again : (word rest : List ℕ) → HasNoEnd word → whole_at word ((word ++ 10 ∷ []) ++ rest) ≡ Ok rest
unfolding whole_at
whole_again word rest w =
    ap (whole_at word) (append_assoc word (10 ∷ []) rest ∙ ap (λ (s : List ℕ). s ++ 10 ∷ rest) (sym (append-nil word))) ∙ rw (word_again word [] rest w refl) refl

pub field_part : {A : Type 0} {read : List ℕ → Option A} {spell : A → List ℕ} {Fits : A → Type 0} (word : List ℕ) → HasNoEnd word → IsReader read spell Fits → ((value : A) → Fits value → HasNoEnd (spell value))
    → IsPart (field_at word read) (λ value. (word ++ spell value) ++ 10 ∷ []) Fits
field_part {A} {read} {spell} {Fits} word w r clean = record { found = found; again = again }
  where
    found : (octets : List ℕ) → IsSlice octets → (x : A × List ℕ) → field_at word read octets ≡ Ok x → (octets ≡ ((word ++ spell x.0) ++ 10 ∷ []) ++ x.1) × Fits x.0
    found octets fits x e =
        let t = bind_ok (word_at word octets) _ x e in
        let v = bind_ok (or_wrong (read t.0.0) octets) _ x t.2 in
        let f = r.found t.0.0 v.0 (or_wrong_ok (read t.0.0) octets v.0 v.1) in
        let made : A × List ℕ = (v.0, t.0.1) in
        subst (λ (y : A × List ℕ). (octets ≡ ((word ++ spell y.0) ++ 10 ∷ []) ++ y.1) × Fits y.0) (ok_is made x v.2)
        (word_found word octets t.0 t.1 ∙ ap (λ (s : List ℕ). (word ++ s) ++ 10 ∷ t.0.1) f.0 ∙ sym (append_assoc (word ++ spell v.0) (10 ∷ []) t.0.1), f.1)

    again : (value : A) (rest : List ℕ) → Fits value → field_at word read (((word ++ spell value) ++ 10 ∷ []) ++ rest) ≡ Ok (value, rest)
    again value rest fits =
        ap (field_at word read) (append_assoc (word ++ spell value) (10 ∷ []) rest) ∙ rw (word_again word (spell value) rest w (clean value fits), r.again value fits) refl

abbrev pub read_line : {A : Type 0} → (List ℕ → Option A) → List ℕ → Part A
read_line read octets = or_wrong (line_in octets) octets >>= λ line. or_wrong (read line.0) octets >>= λ value. Ok (value, line.1)

-- a line that a value's whole text is
pub line_part : {A : Type 0} {read : List ℕ → Option A} {spell : A → List ℕ} {Fits : A → Type 0} → IsReader read spell Fits → ((value : A) → Fits value → HasNoEnd (spell value))
    → IsPart (read_line read) (λ value. spell value ++ 10 ∷ []) Fits
line_part {A} {read} {spell} {Fits} r clean = record { found = found; again = again }
  where
    found : (octets : List ℕ) → IsSlice octets → (x : A × List ℕ) → read_line read octets ≡ Ok x → (octets ≡ (spell x.0 ++ 10 ∷ []) ++ x.1) × Fits x.0
    found octets fits x e =
        let l = bind_ok (or_wrong (line_in octets) octets) _ x e in
        let v = bind_ok (or_wrong (read l.0.0) octets) _ x l.2 in
        let f = r.found l.0.0 v.0 (or_wrong_ok (read l.0.0) octets v.0 v.1) in
        let made : A × List ℕ = (v.0, l.0.1) in
        subst (λ (y : A × List ℕ). (octets ≡ (spell y.0 ++ 10 ∷ []) ++ y.1) × Fits y.0) (ok_is made x v.2)
        (line_is octets l.0 (or_wrong_ok (line_in octets) octets l.0 l.1) ∙ ap (λ (s : List ℕ). s ++ 10 ∷ l.0.1) f.0 ∙ sym (append_assoc (spell v.0) (10 ∷ []) l.0.1), f.1)

    again : (value : A) (rest : List ℕ) → Fits value → read_line read ((spell value ++ 10 ∷ []) ++ rest) ≡ Ok (value, rest)
    again value rest fits =
        ap (read_line read) (append_assoc (spell value) (10 ∷ []) rest) ∙ rw (cut_again 10 (spell value) rest (clean value fits), r.again value fits) refl

-- ---- so many parts

pub record AreMany {A : Type 0} (Fits : A → Type 0) (count : ℕ) (values : List A) : Type 0 where
  pub count_is : length values ≡ count
  pub each : AllByRecursion Fits values

many_found : {A : Type 0} {at : List ℕ → Part A} {spell : A → List ℕ} {Fits : A → Type 0} → IsPart at spell Fits → (count : ℕ) (octets : List ℕ) → IsSlice octets → (x : List A × List ℕ) → times_at at count octets ≡ Ok x
    → (octets ≡ flat_map spell x.0 ++ x.1) × AreMany Fits count x.0
unfolding times_at
many_found {A} {at} {spell} {Fits} p zero octets fits x e =
    let made : List A × List ℕ = ([], octets) in
    subst (λ (y : List A × List ℕ). (octets ≡ flat_map spell y.0 ++ y.1) × AreMany Fits 0 y.0) (ok_is made x e) (refl, record { count_is = refl; each = tt })
many_found {A} {at} {spell} {Fits} p (suc count) octets fits x e =
    let a = bind_ok (at octets) _ x e in
    let b = bind_ok (times_at at count a.0.1) _ x a.2 in
    let first = p.found octets fits a.0 a.1 in
    let others = many_found p count a.0.1 (IsSlice-rest octets (spell a.0.0) a.0.1 first.0 fits) b.0 b.1 in
    let made : List A × List ℕ = (a.0.0 ∷ b.0.0, b.0.1) in
    subst (λ (y : List A × List ℕ). (octets ≡ flat_map spell y.0 ++ y.1) × AreMany Fits (suc count) y.0) (ok_is made x b.2)
    (first.0 ∙ ap (λ (t : List ℕ). spell a.0.0 ++ t) others.0 ∙ sym (append_assoc (spell a.0.0) (flat_map spell b.0.0) b.0.1), record { count_is = ap suc others.1.count_is; each = (first.1, others.1.each) })

many_again : {A : Type 0} {at : List ℕ → Part A} {spell : A → List ℕ} {Fits : A → Type 0} → IsPart at spell Fits → (count : ℕ) (values : List A) (rest : List ℕ) → AreMany Fits count values → times_at at count (flat_map spell values ++ rest) ≡ Ok (values, rest)
unfolding times_at
many_again p zero [] rest h = refl
many_again p zero (value ∷ values) rest h = absurd (omega (arith, h.count_is))
many_again p (suc count) [] rest h = absurd (omega (arith, h.count_is))
many_again {A} {at} {spell} {Fits} p (suc count) (value ∷ values) rest h =
    let many : AreMany Fits count values = record { count_is = omega (arith, h.count_is); each = h.each.1 } in
    ap (times_at at (suc count)) (append_assoc (spell value) (flat_map spell values) rest) ∙ rw (p.again value (flat_map spell values ++ rest) h.each.0, many_again p count values rest many) refl

pub times_part : {A : Type 0} {at : List ℕ → Part A} {spell : A → List ℕ} {Fits : A → Type 0} → IsPart at spell Fits → (count : ℕ) → IsPart (times_at at count) (λ values. flat_map spell values) (AreMany Fits count)
times_part p count = record { found = λ octets fits x e. many_found p count octets fits x e; again = λ values rest h. many_again p count values rest h }
