-- Entries whose names rise: by name, and as members.
use Rattle.std.proofs.Common.{◌≡◌, ℕ, true, false, cond, inl, inr, List, [], ◌∷◌, Option, Some, None, IsTrue, refl, sym, ap, subst, ◌∙◌}
use Rattle.std.specs.Ordering.{nat_cmp, is_lt, is_eq}
use Rattle.std.specs.declared.cmp.Ordering.{Ordering}
use Rattle.std.specs.declared.cmp.Ordering.TheVariants.{Less, Equal, Greater}
use Rattle.std.specs.Cmp.Lexicographic.{slice_cmp}
use Rattle.std.proofs.lemmas.Bool.{cases_Bool}
use Rattle.lower_model.specs.LowerTree.{comes_before}
use Rattle.names_model.specs.CarriedBy.{Among}
use Rattle.tree_model.specs.Names.{is_named, entry_at, RisesBehind}
use Rattle.tree_model.proofs.NameLemmas.{is_named_same, is_named_is, before_trans}
use Rattle.tree_model.proofs.Rising.{is_named-behind}

not_both : (o : Ordering) → is_lt o ≡ true → is_eq o ≡ true → ⊥
not_both Less h e = absurd cc
not_both Equal h e = absurd cc
not_both Greater h e = absurd cc

-- no name comes before itself
pub not_before_itself : (a : List ℕ) → IsTrue (comes_before a a) → ⊥
not_before_itself a h = not_both (slice_cmp nat_cmp a a) h (is_named_same a)

module _ {X : Type 0} where
  -- an entry behind a name has a name behind it
  pub among_behind : (last : List ℕ) (es : List (List ℕ × X)) (e : List ℕ × X) → RisesBehind last es → Among e es → IsTrue (comes_before last e.0)
  among_behind last [] e h among = absurd among
  among_behind last (f ∷ es) e h among = elim among [
    | inl same ↦ subst (λ (g : List ℕ × X). IsTrue (comes_before last g.0)) (sym same) h.0
    | inr later ↦ before_trans last f.0 e.0 h.0 (among_behind f.0 es e h.2 later)
  ]

  pub among_found : (last : List ℕ) (es : List (List ℕ × X)) (e : List ℕ × X) → RisesBehind last es → Among e es → entry_at e.0 es ≡ Some e.1
  among_found last [] e h among = absurd among
  among_found last (f ∷ es) e h among = elim among [
    | inl same ↦ rw same (rw (is_named_same f.0) refl)
    | inr later ↦ rw (is_named-behind f.0 e.0 (among_behind f.0 es e h.2 later)) (among_found f.0 es e h.2 later)
  ]

  pub found_among : (es : List (List ℕ × X)) (name : List ℕ) (x : X) → entry_at name es ≡ Some x → Among (name, x) es
  found_among [] name x h = absurd cc
  found_among (e ∷ es) name x h = elim (cases_Bool (is_named name e.0)) [
    | inl t ↦ (let is : Some e.1 ≡ Some x = rw t at h in let same : e.1 ≡ x = cc in inl (pair (name, x) e (is_named_is name e.0 t) (sym same)))
    | inr f ↦ (let rest : entry_at name es ≡ Some x = rw f at h in inr (found_among es name x rest))
  ]
    where
      pair : (a b : List ℕ × X) → a.0 ≡ b.0 → a.1 ≡ b.1 → a ≡ b
      pair a b p q = λ i. (p i, q i)

  -- a name isn't among those behind it
  pub absent_behind : (last : List ℕ) (es : List (List ℕ × X)) → RisesBehind last es → entry_at last es ≡ None
  absent_behind last es h = none (entry_at last es) refl
    where
      none : (o : Option X) → entry_at last es ≡ o → o ≡ None
      none None e = refl
      none (Some x) e = absurd (not_before_itself last (among_behind last es (last, x) h (found_among es last x e)))

  -- entries that rise are fixed by what each name has
  pub rising_same : (last : List ℕ) (xs ys : List (List ℕ × X)) → RisesBehind last xs → RisesBehind last ys → ((name : List ℕ) → entry_at name xs ≡ entry_at name ys) → xs ≡ ys
  rising_same last [] [] p q h = refl
  rising_same last [] (y ∷ ys) p q h = absurd (let no : None ≡ Some y.1 = h y.0 ∙ among_found last (y ∷ ys) y q (inl refl) in cc)
  rising_same last (x ∷ xs) [] p q h = absurd (let no : None ≡ Some x.1 = sym (h x.0) ∙ among_found last (x ∷ xs) x p (inl refl) in cc)
  rising_same last (x ∷ xs) (y ∷ ys) p q h = elim (cases_Bool (is_named x.0 y.0)) [
    | inl t ↦ (let same : x.0 ≡ y.0 = is_named_is x.0 y.0 t in
        let value : Some x.1 ≡ Some y.1 = sym (among_found last (x ∷ xs) x p (inl refl)) ∙ h x.0 ∙ ap (λ (n : List ℕ). entry_at n (y ∷ ys)) same ∙ among_found last (y ∷ ys) y q (inl refl) in
        let is : x.1 ≡ y.1 = cc in
        let rises : RisesBehind x.0 ys = subst (λ (n : List ℕ). RisesBehind n ys) (sym same) q.2 in
        let rest : xs ≡ ys = rising_same x.0 xs ys p.2 rises (λ name. tails name same rises) in
        λ i. (same i, is i) ∷ rest i)
    | inr f ↦ absurd (let there = found_among (y ∷ ys) x.0 x.1 (sym (h x.0) ∙ among_found last (x ∷ xs) x p (inl refl)) in
        let here = found_among (x ∷ xs) y.0 y.1 (h y.0 ∙ among_found last (y ∷ ys) y q (inl refl)) in
        apart f there here)
  ]
    where
      tails : (name : List ℕ) → x.0 ≡ y.0 → RisesBehind x.0 ys → entry_at name xs ≡ entry_at name ys
      tails name same rises = elim (cases_Bool (is_named name x.0)) [
        | inl t ↦ (let is : name ≡ x.0 = is_named_is name x.0 t in
            ap (λ (n : List ℕ). entry_at n xs) is ∙ absent_behind x.0 xs p.2 ∙ sym (absent_behind x.0 ys rises) ∙ ap (λ (n : List ℕ). entry_at n ys) (sym is))
        | inr f ↦ (let g : is_named name y.0 ≡ false = subst (λ (n : List ℕ). is_named name n ≡ false) same f in
            let both : cond false (Some x.1) (entry_at name xs) ≡ cond false (Some y.1) (entry_at name ys) = rw (f, g) at (h name) in both)
      ]

      apart : is_named x.0 y.0 ≡ false → Among (x.0, x.1) (y ∷ ys) → Among (y.0, y.1) (x ∷ xs) → ⊥
      apart f (inl e) there = (let same : x.0 ≡ y.0 = ap (λ (g : List ℕ × X). g.0) e in let t : is_named x.0 y.0 ≡ true = subst (λ (n : List ℕ). is_named x.0 n ≡ true) same (is_named_same x.0) in let no : true ≡ false = sym t ∙ f in cc)
      apart f (inr later) (inl e) = (let same : x.0 ≡ y.0 = sym (ap (λ (g : List ℕ × X). g.0) e) in let t : is_named x.0 y.0 ≡ true = subst (λ (n : List ℕ). is_named x.0 n ≡ true) same (is_named_same x.0) in let no : true ≡ false = sym t ∙ f in cc)
      apart f (inr later) (inr there) = not_before_itself x.0 (before_trans x.0 y.0 x.0 (among_behind x.0 xs (y.0, y.1) p.2 there) (among_behind y.0 ys (x.0, x.1) q.2 later))
