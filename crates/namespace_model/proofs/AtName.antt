-- Places by number and name that are one or not.
use Rattle.std.proofs.Common.{◌≡◌, ℕ, true, false, cond, ◌⊎◌, inl, inr, List, Option, Some, None, refl, sym, subst}
use Rattle.std.specs.Prelude.{◌==◌}
use Rattle.std.proofs.lemmas.Bool.{cases_Bool, and_parts, both_ways, eqb-true, eq-eqb, and_from}
use Rattle.tree_model.specs.Names.{is_named}
use Rattle.tree_model.proofs.NameLemmas.{is_named_same, is_named_is}
use Rattle.namespace_model.specs.Carried.{at_name}

pub cases_place : (at : ℕ) (name : List ℕ) (k : ℕ) (x : List ℕ) → ((at_name at name k x ≡ true) × (k ≡ at) × (x ≡ name)) ⊎ ((at_name at name k x ≡ false) × (k ≡ at → x ≡ name → ⊥))
cases_place at name k x =
    elim (cases_Bool (at_name at name k x)) [
      | inl h ↦ (let p : ((k == at) ≡ true) × (is_named name x ≡ true) = and_parts (k == at) (is_named name x) h in
          inl (h, eqb-true k at p.0, sym (is_named_is name x p.1)))
      | inr h ↦ inr (h, λ e f. both_ways (at_name at name k x) h (and_from (k == at) (is_named name x) (eq-eqb k at e) (subst (λ (z : List ℕ). is_named name z ≡ true) (sym f) (is_named_same name))))
    ]

pub place_same : (at : ℕ) (name : List ℕ) → at_name at name at name ≡ true
place_same at name = and_from (at == at) (is_named name name) (eq-eqb at at refl) (is_named_same name)

-- what a change at one place leaves elsewhere, and puts there
pub put_other : {A : Type 0} (at : ℕ) (name : List ℕ) (k : ℕ) (x : List ℕ) (new old z : Option A) → (k ≡ at → x ≡ name → ⊥) → old ≡ z → cond (at_name at name k x) new old ≡ z
put_other at name k x new old z apart is =
    elim (cases_place at name k x) [
      | inl h ↦ absurd (apart h.1 h.2)
      | inr h ↦ rw h.0 is
    ]

pub put_same : {A : Type 0} (at : ℕ) (name : List ℕ) (new old : Option A) → cond (at_name at name at name) new old ≡ new
put_same at name new old = rw (place_same at name) refl

pub cases_put : {A : Type 0} (at : ℕ) (name : List ℕ) (k : ℕ) (x : List ℕ) (n : A) (old : Option A) (m : A) → cond (at_name at name k x) (Some n) old ≡ Some m
    → ((k ≡ at) × (x ≡ name) × (m ≡ n)) ⊎ ((k ≡ at → x ≡ name → ⊥) × (old ≡ Some m))
cases_put at name k x n old m e =
    elim (cases_place at name k x) [
      | inl h ↦ (let f : Some n ≡ Some m = rw h.0 at e in inl (h.1, h.2, cc))
      | inr h ↦ (let f : old ≡ Some m = rw h.0 at e in inr (h.1, f))
    ]

pub cases_out : {A : Type 0} (at : ℕ) (name : List ℕ) (k : ℕ) (x : List ℕ) (old : Option A) (m : A) → cond (at_name at name k x) None old ≡ Some m
    → (k ≡ at → x ≡ name → ⊥) × (old ≡ Some m)
cases_out at name k x old m e =
    elim (cases_place at name k x) [
      | inl h ↦ (let f : None ≡ Some m = rw h.0 at e in absurd cc)
      | inr h ↦ (let f : old ≡ Some m = rw h.0 at e in (h.1, f))
    ]
