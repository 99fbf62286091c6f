-- The places that a store of a lower tree shows are those of its nodes.
use Rattle.std.proofs.Common.{◌≡◌, ℕ, zero, suc, ◌+◌, ◌≤◌, inl, inr, Bool, true, false, cond, List, [], ◌∷◌, ◌++◌, length, Option, Some, None, refl, sym, ap, subst, ◌∙◌, arith, length-append}
use Rattle.std.specs.Prelude.{◌==◌, ◌||◌, slice_get}
use Rattle.std.specs.List.{list_any}
use Rattle.std.specs.Option.{option_map_or}
use Rattle.std.specs.Ordering.{nat_cmp, match_ordering}
use Rattle.std.specs.declared.cmp.Ordering.{Ordering}
use Rattle.std.specs.declared.cmp.Ordering.TheVariants.{Less, Equal, Greater}
use Rattle.std.specs.Cmp.Lexicographic.{slice_cmp}
use Rattle.std.proofs.lemmas.Bool.{cases_Bool}
use Rattle.std.proofs.lemmas.Bool.Decides.{eqb_tells}
use Rattle.std.proofs.lemmas.Map.Lookups.{exact_bytes}
use Rattle.lower_model.specs.declared.kind.Kind.{Kind}
use Rattle.lower_model.specs.declared.kind.Kind.TheVariants as kinds
use Rattle.lower_model.specs.declared.node.LowerNode.{LowerNode}
use Rattle.names_model.specs.declared.entry.Linked.{Linked}
use Rattle.names_model.specs.Store.{Entries, Store, store_of}
use Rattle.names_model.specs.NameForm.{NameForm}
use Rattle.names_model.specs.ShownBy.{kind_in, entries_in, shows, kind_shown, place_of, next_place, shown_places}
use Rattle.names_model.specs.CarriedBy.{Among}
use Rattle.tree_model.specs.declared.place.Place.{Place}
use Rattle.tree_model.specs.declared.place.Place.TheVariants.{Dir, File, Nothing}
use Rattle.tree_model.specs.Names.{is_named, node_of, put_entry, RisesBehind}
use Rattle.tree_model.proofs.NameLemmas.{is_named_same}
use Rattle.plain_tree.proofs.Places.{slice_get-push}
use Rattle.namespace_model.specs.Carried.{IsForm}
use Rattle.opening_model.specs.Filled.{IsFilled}
use Rattle.opening_model.proofs.Rising.{among_found, found_among}
use Rattle.opening_model.proofs.TreeFacts.{Facts}
use Rattle.opening_model.proofs.StoreFacts.{entries_at, is_of, in_store, store_is}
use Rattle.opening_model.proofs.Filling.{filled_directory}

-- ---- which number a directory shows

any_among : (n : ℕ) (es : List (List ℕ × ℕ)) → list_any (λ (e : List ℕ × ℕ). e.1 == n) es ≡ true → (x : List ℕ) × Among (x, n) es
any_among n [] h = absurd cc
any_among n (e ∷ es) h = elim (eqb_tells e.1 n) [
  | inl t ↦ (e.0, inl (λ i. (e.0, sym t.1 i)))
  | inr f ↦ (let rest : list_any (λ (x : List ℕ × ℕ). x.1 == n) es ≡ true = rw f.0 at h in let r = any_among n es rest in (r.0, inr r.1))
]

-- a number that is shown has a name
pub shown_name : (n : ℕ) (es : List (List ℕ × ℕ)) → RisesBehind [] es → list_any (λ (e : List ℕ × ℕ). e.1 == n) es ≡ true → (x : List ℕ) × (node_of x es ≡ Some n)
shown_name n es rises h = let a = any_among n es h in (a.0, among_found [] es (a.0, n) rises a.1)

among_any : (n : ℕ) (es : List (List ℕ × ℕ)) (x : List ℕ) → Among (x, n) es → list_any (λ (e : List ℕ × ℕ). e.1 == n) es ≡ true
among_any n [] x h = absurd h
among_any n (e ∷ es) x h = elim (eqb_tells e.1 n) [
  | inl t ↦ rw t.0 refl
  | inr f ↦ elim h [
    | inl same ↦ absurd (f.1 (ap (λ (y : List ℕ × ℕ). y.1) (sym same)))
    | inr later ↦ rw f.0 (among_any n es x later)
  ]
]

-- a name that has a number shows it
pub name_shown : (n : ℕ) (es : List (List ℕ × ℕ)) (x : List ℕ) → node_of x es ≡ Some n → list_any (λ (e : List ℕ × ℕ). e.1 == n) es ≡ true
name_shown n es x h = among_any n es x (found_among es x n h)

-- one name more
put_any : (o : Ordering) (n : ℕ) (name : List ℕ) (m : ℕ) (e : List ℕ × ℕ) (es rest : List (List ℕ × ℕ)) → o ≡ slice_cmp nat_cmp name e.0 → node_of name (e ∷ es) ≡ None
    → list_any (λ (x : List ℕ × ℕ). x.1 == n) rest ≡ ((m == n) || list_any (λ (x : List ℕ × ℕ). x.1 == n) es)
    → list_any (λ (x : List ℕ × ℕ). x.1 == n) (match_ordering o ((name, m) ∷ e ∷ es) ((e.0, m) ∷ es) (e ∷ rest)) ≡ ((m == n) || list_any (λ (x : List ℕ × ℕ). x.1 == n) (e ∷ es))
put_any Less n name m e es rest is none h = refl
put_any Equal n name m e es rest is none h =
    let same : name ≡ e.0 = exact_bytes name e.0 (sym is) in
    let t : is_named name e.0 ≡ true = subst (λ (y : List ℕ). is_named name y ≡ true) same (is_named_same name) in
    let no : Some e.1 ≡ None = rw t at none in absurd cc
put_any Greater n name m e es rest is none h = rw h (swap (e.1 == n) (m == n) (list_any (λ (x : List ℕ × ℕ). x.1 == n) es))
  where
    swap : (a b c : Bool) → (a || (b || c)) ≡ (b || (a || c))
    swap true true c = refl
    swap true false c = refl
    swap false true c = refl
    swap false false c = refl

later_none : (name : List ℕ) (e : List ℕ × ℕ) (es : List (List ℕ × ℕ)) → node_of name (e ∷ es) ≡ None → node_of name es ≡ None
later_none name e es h = elim (cases_Bool (is_named name e.0)) [
  | inl t ↦ (let no : Some e.1 ≡ None = rw t at h in absurd cc)
  | inr f ↦ (let rest : node_of name es ≡ None = rw f at h in rest)
]

pub any-put : (n : ℕ) (name : List ℕ) (m : ℕ) (es : List (List ℕ × ℕ)) → node_of name es ≡ None → list_any (λ (x : List ℕ × ℕ). x.1 == n) (put_entry es name m) ≡ ((m == n) || list_any (λ (x : List ℕ × ℕ). x.1 == n) es)
any-put n name m [] none = refl
any-put n name m (e ∷ es) none = put_any (slice_cmp nat_cmp name e.0) n name m e es (put_entry es name m) refl none (any-put n name m es (later_none name e es none))

-- ---- the kind that is shown

module _ (store : Store) (n : ℕ) where
  pub kind-hidden : (at : ℕ) (before : List Place) (p : Place) → shows n p ≡ false → kind_shown store n at (before ++ p ∷ []) ≡ kind_shown store n at before
  kind-hidden at [] p h = rw h refl
  kind-hidden at (q ∷ before) p h = elim (cases_Bool (shows n q)) [ inl t ↦ rw t refl | inr f ↦ rw f (kind-hidden (at + 1) before p h) ]

  pub kind-alike : (at : ℕ) (before : List Place) (p q : Place) → shows n p ≡ shows n q → kind_shown store n at (before ++ p ∷ []) ≡ kind_shown store n at (before ++ q ∷ [])
  kind-alike at [] p q h = rw h refl
  kind-alike at (r ∷ before) p q h = elim (cases_Bool (shows n r)) [ inl t ↦ rw t refl | inr f ↦ rw f (kind-alike (at + 1) before p q h) ]

  pub kind-none : (at : ℕ) (before : List Place) → ((j : ℕ) (p : Place) → slice_get before j ≡ Some p → shows n p ≡ false) → kind_shown store n at before ≡ None
  kind-none at [] h = refl
  kind-none at (q ∷ before) h = rw (h 0 q refl) (kind-none (at + 1) before (λ j p e. h (suc j) p e))

  pub kind-first : (at : ℕ) (before : List Place) (p : Place) → ((j : ℕ) (q : Place) → slice_get before j ≡ Some q → shows n q ≡ false) → shows n p ≡ true → kind_shown store n at (before ++ p ∷ []) ≡ kind_in n (entries_in (store (at + length before)))
  kind-first at [] p h t = let e : at ≡ at + 0 = omega arith in rw t (ap (λ (j : ℕ). kind_in n (entries_in (store j))) e)
  kind-first at (q ∷ before) p h t =
      let e : at + 1 + length before ≡ at + suc (length before) = omega arith in
      rw (h 0 q refl) (kind-first (at + 1) before p (λ j r g. h (suc j) r g) t ∙ ap (λ (j : ℕ). kind_in n (entries_in (store j))) e)

  -- a kind that is shown stands in a directory of the store
  pub kind-from : (at : ℕ) (before : List Place) (kind : Kind) → kind_shown store n at before ≡ Some kind → (j : ℕ) × (kind_in n (entries_in (store j)) ≡ Some kind)
  kind-from at [] kind h = absurd cc
  kind-from at (q ∷ before) kind h = elim (cases_Bool (shows n q)) [
    | inl t ↦ (let is : kind_in n (entries_in (store at)) ≡ Some kind = rw t at h in (at, is))
    | inr f ↦ (let rest : kind_shown store n (at + 1) before ≡ Some kind = rw f at h in kind-from (at + 1) before kind rest)
  ]

  -- where a place shows the number, a kind is shown, if each directory that shows it has it
  pub kind-some : (at : ℕ) (before : List Place) (kind : Kind) → ((j : ℕ) (p : Place) → slice_get before j ≡ Some p → shows n p ≡ true → kind_in n (entries_in (store (at + j))) ≡ Some kind)
      → (j : ℕ) (p : Place) → slice_get before j ≡ Some p → shows n p ≡ true → kind_shown store n at before ≡ Some kind
  kind-some at [] kind h j p e t = absurd cc
  kind-some at (q ∷ before) kind h j p e t = elim (cases_Bool (shows n q)) [
    | inl s ↦ (let z : at + 0 ≡ at = omega arith in rw s (ap (λ (i : ℕ). kind_in n (entries_in (store i))) (sym z) ∙ h 0 q refl s))
    | inr f ↦ rw f (rest f j e (λ i g. kind-some (at + 1) before kind (λ a r k s. (let z : at + 1 + a ≡ at + suc a = omega arith in ap (λ (b : ℕ). kind_in n (entries_in (store b))) z ∙ h (suc a) r k s)) i p g t))
  ]
    where
      rest : shows n q ≡ false → (i : ℕ) → slice_get (q ∷ before) i ≡ Some p → ((i : ℕ) → slice_get before i ≡ Some p → kind_shown store n (at + 1) before ≡ Some kind) → kind_shown store n (at + 1) before ≡ Some kind
      rest f zero g next = absurd (let same : q ≡ p = cc in let no : true ≡ false = sym t ∙ ap (shows n) (sym same) ∙ f in cc)
      rest f (suc i) g next = next i g

-- ---- kinds by the entries

pub kind_in_from : (n : ℕ) (es : Entries) (kind : Kind) → kind_in n es ≡ Some kind → (e : List ℕ × Linked) × Among e es × (e.1.node ≡ n) × (e.1.kind ≡ kind)
kind_in_from n [] kind h = absurd cc
kind_in_from n (e ∷ es) kind h = elim (eqb_tells e.1.node n) [
  | inl t ↦ (let is : Some e.1.kind ≡ Some kind = rw t.0 at h in (e, inl refl, t.1, cc))
  | inr f ↦ (let rest : kind_in n es ≡ Some kind = rw f.0 at h in let r = kind_in_from n es kind rest in (r.0, inr r.1, r.2, r.3))
]

pub kind_in_is : (n : ℕ) (es : Entries) (kind : Kind) → ((f : List ℕ × Linked) → Among f es → f.1.node ≡ n → f.1.kind ≡ kind) → (e : List ℕ × Linked) → Among e es → e.1.node ≡ n → kind_in n es ≡ Some kind
kind_in_is n [] kind h e among is = absurd among
kind_in_is n (f ∷ es) kind h e among is = elim (eqb_tells f.1.node n) [
  | inl t ↦ rw t.0 (ap (λ (k : Kind). Some k) (h f (inl refl) t.1))
  | inr g ↦ elim among [
    | inl same ↦ absurd (g.1 (ap (λ (y : List ℕ × Linked). y.1.node) (sym same) ∙ is))
    | inr later ↦ rw g.0 (kind_in_is n es kind (λ y a. h y (inr a)) e later is)
  ]
]

entries_none : (nodes : List LowerNode) (j : ℕ) (o : Option Entries) → store_of nodes j ≡ o → (e : List ℕ × Linked) → Among e (entries_in o) → Among e (entries_at nodes j)
entries_none nodes j None at e among = absurd among
entries_none nodes j (Some es) at e among = subst (λ (xs : Entries). Among e xs) (in_store nodes j es at).entries among

-- a kind that the store tells is that of the node
pub node_from_kind : (nodes : List LowerNode) (n j : ℕ) (kind : Kind) → kind_in n (entries_in (store_of nodes j)) ≡ Some kind → (x : LowerNode) × (slice_get nodes n ≡ Some x) × (x.kind ≡ kind) × (1 ≤ n)
node_from_kind nodes n j kind h =
    let f = kind_in_from n (entries_in (store_of nodes j)) kind h in
    let e = is_of nodes j f.0 (entries_none nodes j (store_of nodes j) refl f.0 f.1) in
    let le : 1 ≤ f.0.1.node = e.behind in
    (e.x, ap (slice_get nodes) (sym f.2) ∙ e.at, e.kind ∙ f.3, subst (λ (i : ℕ). 1 ≤ i) f.2 le)

-- ---- the places that are shown

-- A place is that of the node, and a directory is filled with its entries.
abbrev pub IsSound : NameForm → List LowerNode → ℕ → Place → Type 0
IsSound form nodes j (Dir d) = (x : LowerNode) × (slice_get nodes j ≡ Some x) × (x.kind ≡ kinds.Dir) × IsFilled form (entries_at nodes j) d
IsSound form nodes j File = (x : LowerNode) × (slice_get nodes j ≡ Some x) × (x.kind ≡ kinds.File)
IsSound form nodes j Nothing = Unit {0}

module _ (form : NameForm) (laws : IsForm form) (nodes : List LowerNode) (facts : Facts nodes) where
  abbrev store : Store
  store = store_of nodes

  sound_place : (j : ℕ) (kind : Kind) (x : LowerNode) → slice_get nodes j ≡ Some x → x.kind ≡ kind → IsSound form nodes j (place_of form store j kind)
  sound_place j kinds.Dir x at is = (x, at, is, rw (store_is nodes j x at is) (filled_directory form laws (entries_at nodes j) (facts.rising j)))
  sound_place j kinds.File x at is = (x, at, is)

  sound_next : (j : ℕ) (before : List Place) → IsSound form nodes j (next_place form store j before)
  sound_next zero before = let r = facts.root in sound_place 0 kinds.Dir r.0 r.1 r.2
  sound_next (suc i) before = by (kind_shown store (suc i) 0 before) refl
    where
      by : (o : Option Kind) → kind_shown store (suc i) 0 before ≡ o → IsSound form nodes (suc i) (option_map_or (place_of form store (suc i)) o Nothing)
      by None at = tt
      by (Some kind) at =
          let f = kind-from store (suc i) 0 before kind at in
          let x = node_from_kind nodes (suc i) f.0 kind f.1 in
          sound_place (suc i) kind x.0 x.1 x.2

  pub length-shown : (m : ℕ) → length (shown_places form store m) ≡ m
  length-shown zero = refl
  length-shown (suc m) = let h = length-shown m in let a = length-append (shown_places form store m) (next_place form store m (shown_places form store m) ∷ []) in omega arith

  -- each of the places
  pub sound : (m j : ℕ) (p : Place) → slice_get (shown_places form store m) j ≡ Some p → IsSound form nodes j p
  sound zero j p h = absurd cc
  sound (suc m) j p h =
      let before : List Place = shown_places form store m in
      let at : slice_get (before ++ next_place form store m before ∷ []) j ≡ cond (j == length before) (Some (next_place form store m before)) (slice_get before j) = slice_get-push before (next_place form store m before) j in
      elim (eqb_tells j (length before)) [
        | inl t ↦ (let is : Some (next_place form store m before) ≡ Some p = sym (at ∙ rw t.0 refl) ∙ h in
            let same : next_place form store m before ≡ p = cc in
            let j_is : j ≡ m = t.1 ∙ length-shown m in
            subst (λ (q : Place). IsSound form nodes j q) same (subst (λ (i : ℕ). IsSound form nodes i (next_place form store m before)) (sym j_is) (sound_next m before)))
        | inr f ↦ (let is : slice_get before j ≡ Some p = sym (at ∙ rw f.0 refl) ∙ h in sound m j p is)
      ]
