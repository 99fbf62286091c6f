-- What lies below foreign entries stays as it is: each change is in the directories of the tree alone.
use Rattle.std.proofs.Common.{◌≡◌, ◌≢◌, ℕ, Bool, true, false, ◌⊎◌, inl, inr, List, [], ◌∷◌, Option, Some, None, refl, sym, ap, subst, ◌∙◌}
use Rattle.std.specs.Prelude.{slice_get}
use Rattle.std.specs.Option.{option_and_then}
use Rattle.std.proofs.lemmas.Bool.{cases_Bool, true≢false}
use Rattle.lower_model.specs.declared.kind.Kind.TheVariants as kinds
use Rattle.names_model.specs.declared.entry.Linked.{Linked}
use Rattle.names_model.specs.NameForm.{NameForm}
use Rattle.names_model.specs.Store.{Store, linked_at}
use Rattle.names_model.specs.LowerPaths.{found}
use Rattle.names_model.specs.CarriedBy.{Among}
use Rattle.tree_model.specs.declared.place.ForeignEntry.{ForeignEntry}
use Rattle.tree_model.specs.declared.place.Place.{Place}
use Rattle.tree_model.specs.declared.place.Place.TheVariants.{Dir, File, Nothing}
use Rattle.tree_model.specs.IsTree.{IsTree, IsNode, node_in}
use Rattle.tree_model.specs.PlainTree.{is_dir}
use Rattle.namespace_model.specs.Carried.{View, view_of, IsCarried, AreBelow, foreign_at, unlinked, linked, begun, ended}
use Rattle.namespace_model.proofs.AtName.{put_other}
use Rattle.namespace_model.proofs.Inside.{last_step}

-- Foreign entries stay, and lower entries in all but directories of the tree.
pub record LowStays (v w : View) : Type 0 where
  pub foreign : (k : ℕ) → w.foreign k ≡ v.foreign k
  pub low : (k : ℕ) (y : List ℕ) → v.is_dir k ≡ false → w.low k y ≡ v.low k y
  pub link : (k : ℕ) (f : ForeignEntry) → Among f (v.foreign k) → w.low k f.lower ≡ v.low k f.lower

pub LowStays-same : (v : View) → LowStays v v
LowStays-same v = record { foreign = λ k. refl; low = λ k y h. refl; link = λ k f among. refl }

pub LowStays-begun : (v : View) (is : Bool) → LowStays v (begun v is)
LowStays-begun v is = record { foreign = λ k. refl; low = λ k y h. refl; link = λ k f among. refl }

pub LowStays-ended : (v w : View) (n : ℕ) → LowStays v w → LowStays v (ended w n)
LowStays-ended v w n stays = record { foreign = stays.foreign; low = stays.low; link = stays.link }

apart_from : (v : View) (at k : ℕ) → v.is_dir at ≡ true → v.is_dir k ≡ false → k ≡ at → ⊥
apart_from v at k is not e = true≢false (sym is ∙ ap v.is_dir (sym e) ∙ not)

-- a lower name that no foreign entry of its directory has
pub LowStays-unlinked : (v w : View) → LowStays v w → (at : ℕ) (name lower : List ℕ) → v.is_dir at ≡ true → ((f : ForeignEntry) → Among f (v.foreign at) → f.lower ≢ lower) → LowStays v (unlinked w at name lower)
LowStays-unlinked v w stays at name lower is apart = record {
  foreign = stays.foreign;
  low = λ k y h. put_other at lower k y None (w.low k y) (v.low k y) (λ e f. apart_from v at k is h e) (stays.low k y h);
  link = λ k f among. put_other at lower k f.lower None (w.low k f.lower) (v.low k f.lower) (λ e g. apart f (subst (λ (j : ℕ). Among f (v.foreign j)) e among) g) (stays.link k f among);
}

pub LowStays-linked : (v w : View) → LowStays v w → (at : ℕ) (name : List ℕ) (n : ℕ) (lower : List ℕ) → v.is_dir at ≡ true → ((f : ForeignEntry) → Among f (v.foreign at) → f.lower ≢ lower) → LowStays v (linked w at name n lower)
LowStays-linked v w stays at name n lower is apart = record {
  foreign = stays.foreign;
  low = λ k y h. put_other at lower k y _ (w.low k y) (v.low k y) (λ e f. apart_from v at k is h e) (stays.low k y h);
  link = λ k f among. put_other at lower k f.lower _ (w.low k f.lower) (v.low k f.lower) (λ e g. apart f (subst (λ (j : ℕ). Among f (v.foreign j)) e among) g) (stays.link k f among);
}

-- a lower name that isn't there is no foreign entry's
pub foreign_apart : (form : NameForm) (v : View) → IsCarried form v → (at : ℕ) (lower : List ℕ) → v.low at lower ≡ None → (f : ForeignEntry) → Among f (v.foreign at) → f.lower ≢ lower
foreign_apart form v c at lower none f among e =
    let there = c.foreign at f among in
    let no : None ≡ Some there.0 = sym none ∙ ap (v.low at) (sym e) ∙ there.1 in
    absurd cc

-- ---- what lies below

dir_node : (p : Option Place) → is_dir p ≡ true → IsNode p
dir_node (Some (Dir d)) h = tt
dir_node (Some File) h = tt
dir_node (Some Nothing) h = absurd cc
dir_node None h = absurd cc

-- a directory of the tree is the root, or is shown
shown_or_root : (places : List Place) → IsTree places → (n : ℕ) → is_dir (slice_get places n) ≡ true → (n ≡ 0) ⊎ ((k : ℕ) × (x : List ℕ) × (node_in (slice_get places k) x ≡ Some n))
shown_or_root places tree n is =
    let r = tree.reached n (dir_node (slice_get places n) is) in
    elim (last_step places 0 r.0 n r.1) [
      | inl e ↦ inl (sym e.1)
      | inr t ↦ inr (t.from, t.name, t.shows)
    ]

module _ (form : NameForm) (places : List Place) (kept : List (List ℕ)) (store : Store) (c : IsCarried form (view_of places kept store)) (tree : IsTree places) where
  abbrev v : View
  v = view_of places kept store

  -- a node that is neither the root nor shown
  abbrev IsHidden : ℕ → Type 0
  IsHidden n = (n ≢ 0) × ((k : ℕ) (x : List ℕ) → v.shown k x ≡ Some n → ⊥)

  hidden_dir : (n : ℕ) → IsHidden n → is_dir (slice_get places n) ≡ false
  hidden_dir n hidden = elim (cases_Bool (is_dir (slice_get places n))) [
    | inl t ↦ elim (shown_or_root places tree n t) [
      | inl e ↦ absurd (hidden.0 e)
      | inr s ↦ absurd (hidden.1 s.0 s.1 s.2)
    ]
    | inr f ↦ f
  ]

  hidden_next : (n : ℕ) (y : List ℕ) (l : Linked) → IsHidden n → linked_at (store n) y ≡ Some l → IsHidden l.node
  hidden_next n y l hidden h = (
    c.low_root n y l h,
    λ k x s. (let one = c.low_once n k y (v.keeps l.node) l _ h (c.down k x l.node s) refl in
        true≢false (sym (c.held k x l.node s) ∙ ap v.is_dir (sym one.0) ∙ hidden_dir n hidden)),
  )

  hidden_foreign : (k : ℕ) (f : ForeignEntry) (l : Linked) → Among f (v.foreign k) → v.low k f.lower ≡ Some l → IsHidden l.node
  hidden_foreign k f l among h = (
    c.low_root k f.lower l h,
    λ j x s. (let one = c.low_once k j f.lower (v.keeps l.node) l _ h (c.down j x l.node s) refl in
        c.apart k x l.node f (subst (λ (i : ℕ). v.shown i x ≡ Some l.node) (sym one.0) s) among one.1),
  )

  module _ (w : View) (later : Store) (is_low : (k : ℕ) (y : List ℕ) → w.low k y ≡ linked_at (later k) y) (stays : LowStays v w) where
    then_found : (path : List (List ℕ)) → ((l : Linked) → IsHidden l.node → found later l path ≡ found store l path)
        → (n : ℕ) (y : List ℕ) (o : Option Linked) → IsHidden n → linked_at (store n) y ≡ o → option_and_then (λ (l : Linked). found later l path) o ≡ option_and_then (λ (l : Linked). found store l path) o
    then_found path next n y None hidden e = refl
    then_found path next n y (Some l) hidden e = next l (hidden_next n y l hidden e)

    found_same : (path : List (List ℕ)) (l : Linked) → IsHidden l.node → found later l path ≡ found store l path
    found_same [] l hidden = refl
    found_same (y ∷ path) l hidden =
        ap (λ (o : Option Linked). option_and_then (λ (m : Linked). found later m path) o) (sym (is_low l.node y) ∙ stays.low l.node y (hidden_dir l.node hidden))
        ∙ then_found path (found_same path) l.node y (linked_at (store l.node) y) hidden refl

    pub found_below : (k : ℕ) (f : ForeignEntry) → Among f (v.foreign k) → (path : List (List ℕ)) → found later (record { kind = kinds.Dir; node = k }) (f.lower ∷ path) ≡ found store (record { kind = kinds.Dir; node = k }) (f.lower ∷ path)
    found_below k f among path =
        let there = c.foreign k f among in
        let old : linked_at (store k) f.lower ≡ Some there.0 = there.1 in
        let new : linked_at (later k) f.lower ≡ Some there.0 = sym (is_low k f.lower) ∙ stays.link k f among ∙ old in
        ap (λ (o : Option Linked). option_and_then (λ (m : Linked). found later m path) o) new
        ∙ found_same path there.0 (hidden_foreign k f there.0 among old)
        ∙ sym (ap (λ (o : Option Linked). option_and_then (λ (m : Linked). found store m path) o) old)

pub below_stays : (form : NameForm) (places ps : List Place) (kept ks : List (List ℕ)) (store later : Store) → IsCarried form (view_of places kept store) → IsTree places → LowStays (view_of places kept store) (view_of ps ks later)
    → (opening : Store) → AreBelow opening places store → AreBelow opening ps later
below_stays form places ps kept ks store later c tree stays opening h = record {
  below = λ k f among path.
      let old : Among f (foreign_at (slice_get places k)) = subst (Among f) (stays.foreign k) among in
      found_below form places kept store c tree (view_of ps ks later) later (λ j y. refl) stays k f old path ∙ h.below k f old path;
}
