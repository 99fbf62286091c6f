-- The changes keep that each lower name is the written one, or the one of the opening.
use Rattle.std.proofs.Common.{◌≡◌, ◌≢◌, ℕ, ◌<◌, ◌≤◌, Bool, ◌⊎◌, inl, List, [], ◌∷◌, ◌++◌, length, get_or, Some, None, refl, sym, ap, subst, ◌∙◌, arith, true, false}
use Rattle.std.specs.Prelude.{slice_get, slice_set}
use Rattle.names_model.specs.NameForm.{NameForm, IsWritten}
use Rattle.names_model.specs.Store.{Store}
use Rattle.names_model.specs.StoreCalls.{created, taken_from, put_into}
use Rattle.names_model.specs.StoreCalls as low
use Rattle.tree_model.specs.declared.place.Directory.{Directory}
use Rattle.tree_model.specs.declared.place.Place.{Place}
use Rattle.tree_model.specs.declared.place.Place.TheVariants.{Dir}
use Rattle.tree_model.specs.Names.{node_of}
use Rattle.tree_model.specs.PlainTree.{is_dir, is_bare, added, removed, placed, taken_out}
use Rattle.tree_model.specs.IsTree.{node_in}
use Rattle.namespace_model.specs.Carried.{View, view_of, Keeps, foreign_at, kind_by, unlinked, begun, ended}
use Rattle.namespace_model.proofs.AtName.{cases_out}
use Rattle.namespace_model.proofs.Steps.{cond_other}
use Rattle.namespace_model.proofs.States.{moved_entry, view-created, view-moved, Keeps-removed, view-removed, shown, is_still, NamesAre, NamesAre-unlinked, NamesAre-linked}

module _ (form : NameForm) (opening : View) where
  pub names_created : (places : List Place) (kept : List (List ℕ)) (s : Store) (k : Keeps form places kept s) (at : ℕ) (d : Directory) (name : List ℕ) (place : Place) (is : Bool) → slice_get places at ≡ Some (Dir d)
      → length name ≤ form.longest → is_dir (Some place) ≡ is → ((x : List ℕ) → node_in (Some place) x ≡ None) → foreign_at (Some place) ≡ []
      → NamesAre form opening (view_of places kept s) → NamesAre form opening (view_of (added places at name place) (kept ++ form.written name ∷ []) (created s at (form.written name) (record { kind = kind_by is; node = length places })))
  names_created places kept s k at d name place is is_d fits dir_is bare no_foreign names =
      let n : ℕ = length places in
      subst (NamesAre form opening) (sym (view-created form places kept s k at d name place is is_d dir_is bare no_foreign))
      (NamesAre-linked form opening (begun (view_of places kept s) is) at name n (form.written name) names (λ j x h. (let bad : n < n = k.carries.within j x n h in omega arith)) (inl (fits, refl)))

  pub names_removed : (places : List Place) (kept : List (List ℕ)) (s : Store) (k : Keeps form places kept s) (at : ℕ) (d : Directory) (name : List ℕ) (n : ℕ) → slice_get places at ≡ Some (Dir d) → node_of name d.shown ≡ Some n → is_bare (slice_get places n) ≡ true
      → NamesAre form opening (view_of places kept s) → NamesAre form opening (view_of (removed places at name n) kept (low.removed s at (get_or kept n [])))
  names_removed places kept s k at d name n is_d is_shown bare names =
      subst (NamesAre form opening) (sym (view-removed form places kept s k at d name n is_d is_shown bare)) (NamesAre-unlinked form opening (view_of places kept s) at name (get_or kept n []) names)

  pub names_moved : (places : List Place) (kept : List (List ℕ)) (s : Store) (k : Keeps form places kept s) (at : ℕ) (was : List ℕ) (n to : ℕ) (name new : List ℕ) → node_in (slice_get places at) was ≡ Some n → is_dir (slice_get places to) ≡ true
      → IsWritten form name new ⊎ ((m : ℕ) × (opening.shown to name ≡ Some m) × (opening.keeps m ≡ new))
      → NamesAre form opening (view_of places kept s)
      → NamesAre form opening (view_of (placed (taken_out places at was) to name n) (slice_set kept n new) (put_into (taken_from s at (get_or kept n [])) to new (Some (record { kind = kind_by (is_dir (slice_get places n)); node = n }))))
  names_moved places kept s k at was n to name new shown_was is_to own names =
      let lower : List ℕ = get_or kept n [] in
      let v : View = view_of places kept s in
      subst (NamesAre form opening) (sym (view-moved form places kept s k at was n to name new shown_was is_to))
      (NamesAre-linked form opening (unlinked v at was lower) to name n new (NamesAre-unlinked form opening v at was lower names)
      (λ j x h. let o = cases_out at was j x (node_in (slice_get places j) x) n h in let one = k.carries.once j at x was n o.1 shown_was in o.0 one.0 one.1) own)

  pub names_replaced : (places : List Place) (kept : List (List ℕ)) (s : Store) (k : Keeps form places kept s) (to : ℕ) (e : Directory) (name : List ℕ) (t : ℕ) (is_e : slice_get places to ≡ Some (Dir e)) (is_t : node_of name e.shown ≡ Some t) (bare : is_bare (slice_get places t) ≡ true)
      (at : ℕ) (was : List ℕ) (n : ℕ) → node_in (slice_get places at) was ≡ Some n → t ≢ n → to ≢ t
      → NamesAre form opening (view_of places kept s)
      → NamesAre form opening (view_of (moved_entry places at was n to name (Some t)) (slice_set kept n (get_or kept t [])) (put_into (taken_from (low.removed s to (get_or kept t [])) at (get_or kept n [])) to (get_or kept t []) (Some (record { kind = kind_by (is_dir (slice_get places n)); node = n }))))
  names_replaced places kept s k to e name t is_e is_t bare at was n is_n ne away names =
      let new : List ℕ = get_or kept t [] in
      let ps : List Place = removed places to name t in
      let r : Store = low.removed s to new in
      let k1 : Keeps form ps kept r = Keeps-removed form places kept s k to e name t is_e is_t bare in
      let same : view_of ps kept r ≡ ended (unlinked (view_of places kept s) to name new) t = view-removed form places kept s k to e name t is_e is_t bare in
      let is_shown : node_in (slice_get places to) name ≡ Some t = shown form places kept s k to e name t is_e is_t bare in
      let kind : is_dir (slice_get ps n) ≡ is_dir (slice_get places n) = ap (λ (w : View). w.is_dir n) same ∙ cond_other n t false (is_dir (slice_get places n)) (λ f. ne (sym f)) in
      subst (λ (b : Bool). NamesAre form opening (view_of (moved_entry places at was n to name (Some t)) (slice_set kept n new) (put_into (taken_from r at (get_or kept n [])) to new (Some (record { kind = kind_by b; node = n }))))) kind
      (names_moved ps kept r k1 at was n to name new
      (is_still form places kept s k to e name t is_e is_t bare at was n is_n ne)
      (ap (λ (w : View). w.is_dir to) same ∙ cond_other to t false (is_dir (slice_get places to)) away ∙ ap is_dir is_e)
      (names to name t is_shown)
      (names_removed places kept s k to e name t is_e is_t bare names))
