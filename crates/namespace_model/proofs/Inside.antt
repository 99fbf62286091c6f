-- A directory that a walk reaches is below a node only if the walk comes by that node.
use Rattle.std.proofs.Common.{◌≡◌, ℕ, Bool, true, false, ◌||◌, ◌⊎◌, inl, inr, List, [], ◌∷◌, ◌++◌, get_or, Some, Result, Ok, Err, refl, sym, ap, subst, ◌∙◌}
use Rattle.std.specs.Prelude.{◌==◌, slice_get}
use Rattle.std.proofs.lemmas.Bool.{eq-eqb, or_cases}
use Rattle.names_model.specs.NameForm.{NameForm}
use Rattle.names_model.specs.Store.{Store}
use Rattle.names_model.specs.StoreCalls.{IsAtOrBelow}
use Rattle.tree_model.specs.declared.call.TreeRefusal.{TreeRefusal}
use Rattle.tree_model.specs.declared.place.Place.{Place}
use Rattle.tree_model.specs.Walk.{◌>>=◌, entry_of, walk, comes_by, holds_then}
use Rattle.tree_model.specs.IsTree.{node_in}
use Rattle.tree_model.proofs.Walks.{entry_node}
use Rattle.namespace_model.specs.Carried.{view_of, IsCarried}

-- the last step of a walk
pub record LastStep (places : List Place) (a : ℕ) (path : List (List ℕ)) (j : ℕ) : Type 0 where
  pub before : List (List ℕ)
  pub name : List ℕ
  pub from : ℕ
  pub parts : path ≡ before ++ name ∷ []
  pub reaches : walk places a before ≡ Ok from
  pub shows : node_in (slice_get places from) name ≡ Some j

first_then : (places : List Place) (a : ℕ) (name : List ℕ) (names : List (List ℕ)) (r : Result ℕ TreeRefusal) (j : ℕ) → entry_of (slice_get places a) name ≡ r → (r >>= λ n. walk places n names) ≡ Ok j → (n : ℕ) × (r ≡ Ok n) × (walk places n names ≡ Ok j)
first_then places a name names (Ok n) j e h = (n, refl, h)
first_then places a name names (Err x) j e h = absurd cc

-- a walk that ends at a node stays where it is, or has a last step
pub last_step : (places : List Place) (a : ℕ) (path : List (List ℕ)) (j : ℕ) → walk places a path ≡ Ok j → ((path ≡ []) × (a ≡ j)) ⊎ LastStep places a path j
last_step places a [] j h = inl (refl, cc)
last_step places a (name ∷ names) j h =
    let f = first_then places a name names (entry_of (slice_get places a) name) j refl h in
    elim (last_step places f.0 names j f.2) [
      | inl e ↦ inr (record { before = []; name = name; from = a; parts = ap (λ (xs : _). name ∷ xs) e.0; reaches = refl; shows = entry_node (slice_get places a) name j (f.1 ∙ ap (λ (i : ℕ). Ok i) e.1) })
      | inr l ↦ inr (record { before = name ∷ l.before; name = l.name; from = l.from; parts = ap (λ (xs : _). name ∷ xs) l.parts; reaches = rw f.1 l.reaches; shows = l.shows })
    ]

or_true_left : (x y : Bool) → x ≡ true → (x || y) ≡ true
or_true_left x y h = rw h refl

or_true_right : (x y : Bool) → y ≡ true → (x || y) ≡ true
or_true_right true y h = refl
or_true_right false y h = h

comes_to_end : (places : List Place) (n a : ℕ) (path : List (List ℕ)) → walk places a path ≡ Ok n → comes_by places n a path ≡ true
comes_to_end places n a [] h = eq-eqb a n cc
comes_to_end places n a (name ∷ names) h =
    let f = first_then places a name names (entry_of (slice_get places a) name) n refl h in
    or_true_right (a == n) _ (rw f.1 (comes_to_end places n f.0 names f.2))

comes_first : (places : List Place) (n a : ℕ) (path : List (List ℕ)) → (a == n) ≡ true → comes_by places n a path ≡ true
comes_first places n a [] h = h
comes_first places n a (name ∷ names) h = or_true_left (a == n) _ h

then_more : (places : List Place) (n : ℕ) (path : List (List ℕ)) (name : List ℕ) → ((m : ℕ) → comes_by places n m path ≡ true → comes_by places n m (path ++ name ∷ []) ≡ true)
    → (r : Result ℕ TreeRefusal) → holds_then (λ m. comes_by places n m path) r ≡ true → holds_then (λ m. comes_by places n m (path ++ name ∷ [])) r ≡ true
then_more places n path name more (Ok m) e = more m e
then_more places n path name more (Err x) e = e

comes_more : (places : List Place) (n a : ℕ) (path : List (List ℕ)) (name : List ℕ) → comes_by places n a path ≡ true → comes_by places n a (path ++ name ∷ []) ≡ true
comes_more places n a [] name h = or_true_left (a == n) _ h
comes_more places n a (x ∷ path) name h =
    elim (or_cases (a == n) (holds_then (λ m. comes_by places n m path) (entry_of (slice_get places a) x)) h) [
      | inl e ↦ or_true_left (a == n) _ e
      | inr l ↦ or_true_right (a == n) _ (then_more places n path name (λ m e. comes_more places n m path name e) (entry_of (slice_get places a) x) l)
    ]

pub below_comes_by : (form : NameForm) (places : List Place) (kept : List (List ℕ)) (s : Store) → IsCarried form (view_of places kept s)
    → (n j : ℕ) → IsAtOrBelow s n j → (path : List (List ℕ)) → walk places 0 path ≡ Ok j → comes_by places n 0 path ≡ true
below_comes_by form places kept s c n _ IsAtOrBelow.at path reaches = comes_to_end places n 0 path reaches
below_comes_by form places kept s c n _ (IsAtOrBelow.below {k} inner name l h) path reaches =
    elim (last_step places 0 path l.node reaches) [
      | inl e ↦ absurd (c.low_root k name l h (sym e.1))
      | inr t ↦ (let one : (k ≡ t.from) × (name ≡ get_or kept l.node []) = c.low_once k t.from name (get_or kept l.node []) l _ h (c.down t.from t.name l.node t.shows) refl in
          let rest : comes_by places n 0 t.before ≡ true = below_comes_by form places kept s c n k inner t.before (t.reaches ∙ ap (λ (i : ℕ). Ok i) (sym one.0)) in
          subst (λ (p : List (List ℕ)). comes_by places n 0 p ≡ true) (sym t.parts) (comes_more places n 0 t.before t.name rest))
    ]
