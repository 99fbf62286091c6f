-- The changes of places, kept names and stores are the changes number by number.
use Rattle.std.proofs.Common.{◌≡◌, ◌≢◌, ℕ, ◌<◌, ◌≤◌, ◌+◌, Bool, true, false, cond, inl, inr, List, [], ◌∷◌, ◌++◌, length, get_or, Option, Some, None, refl, sym, ap, ◌∙◌, arith, get_or-set_same, get_or-set_other, length-append}
use Rattle.std.specs.Prelude.{◌==◌, slice_get, slice_set, is_some, unwrap_or}
use Rattle.std.proofs.lemmas.List.{length-set, get_or_append_left, get_or_push}
use Rattle.std.proofs.lemmas.Option.{slice_get_past, slice_get_within, unwrap_or-slice_get}
use Rattle.std.proofs.lemmas.Bool.{cases_lt}
use Rattle.std.proofs.lemmas.Bool.Decides.{eqb_tells}
use Rattle.names_model.specs.declared.entry.Linked.{Linked}
use Rattle.names_model.specs.Store.{Store, Entries, linked_at, entries_if}
use Rattle.names_model.specs.StoreCalls.{created, taken_from, put_into, without_name}
use Rattle.names_model.specs.StoreCalls as low
use Rattle.tree_model.specs.declared.place.Directory.{Directory}
use Rattle.tree_model.specs.declared.place.Place.{Place}
use Rattle.tree_model.specs.declared.place.Place.TheVariants.{Dir, Nothing}
use Rattle.tree_model.specs.Names.{put_entry, without}
use Rattle.tree_model.specs.PlainTree.{is_dir, placed, taken_out, added, place_with, place_without}
use Rattle.tree_model.specs.IsTree.{node_in}
use Rattle.namespace_model.specs.Carried.{View, view_of, foreign_at, kind_by, at_name, unlinked, linked, ended, begun}
use Rattle.tree_model.proofs.NameLemmas.{entry_at-put_entry, entry_at-without}
use Rattle.plain_tree.proofs.Places.{slice_get-set, slice_get-push}
use Rattle.namespace_model.proofs.AtName.{put_other}
use Rattle.namespace_model.proofs.Steps.{cond_other, cond_same}

-- two views that agree everywhere are one
pub record Same (v w : View) : Type 0 where
  pub count : v.count ≡ w.count
  pub is_dir : (k : ℕ) → v.is_dir k ≡ w.is_dir k
  pub shown : (k : ℕ) (x : List ℕ) → v.shown k x ≡ w.shown k x
  pub foreign : (k : ℕ) → v.foreign k ≡ w.foreign k
  pub keeps : (k : ℕ) → v.keeps k ≡ w.keeps k
  pub dir : (k : ℕ) → v.dir k ≡ w.dir k
  pub low : (k : ℕ) (x : List ℕ) → v.low k x ≡ w.low k x

pub one_view : (v w : View) → Same v w → v ≡ w
one_view v w s = λ i. record {
  count = s.count i;
  is_dir = λ k. s.is_dir k i;
  shown = λ k x. s.shown k x i;
  foreign = λ k. s.foreign k i;
  keeps = λ k. s.keeps k i;
  dir = λ k. s.dir k i;
  low = λ k x. s.low k x i;
}

-- ---- lists by number

get_or-set : (xs : List (List ℕ)) (i k : ℕ) (v : List ℕ) → i < length xs → get_or (slice_set xs i v) k [] ≡ cond (k == i) v (get_or xs k [])
get_or-set xs i k v lt = elim (eqb_tells k i) [
  | inl e ↦ rw e.0 (ap (λ (j : ℕ). get_or (slice_set xs i v) j []) e.1 ∙ get_or-set_same xs i v [] lt)
  | inr e ↦ rw e.0 (get_or-set_other xs i k v [] e.1)
]

past_get_or : {A : Type 0} (xs : List A) (k : ℕ) (d : A) → length xs ≤ k → get_or xs k d ≡ d
past_get_or xs k d le = sym (unwrap_or-slice_get xs k d) ∙ ap (λ (o : Option _). unwrap_or o d) (slice_get_past xs k le)

get_or-more : (xs : List (List ℕ)) (k : ℕ) (v : List ℕ) → get_or (xs ++ v ∷ []) k [] ≡ cond (k == length xs) v (get_or xs k [])
get_or-more xs k v = elim (eqb_tells k (length xs)) [
  | inl e ↦ rw e.0 (get_or_push xs v [] k (sym e.1))
  | inr e ↦ rw e.0 (elim (cases_lt k (length xs)) [
    | inl in_it ↦ get_or_append_left xs (v ∷ []) [] k in_it
    | inr past ↦ (let ne : k ≢ length xs = e.1 in let more : length (xs ++ v ∷ []) ≡ length xs + 1 = length-append xs (v ∷ []) in let beyond : length (xs ++ v ∷ []) ≤ k = omega arith in
        past_get_or (xs ++ v ∷ []) k [] beyond ∙ sym (past_get_or xs k [] past))
  ])
]

-- ---- an entry more, and an entry less

get-placed : (places : List Place) (at : ℕ) (d : Directory) (name : List ℕ) (n k : ℕ) → slice_get places at ≡ Some (Dir d)
    → slice_get (placed places at name n) k ≡ cond (k == at) (Some (Dir (record d { shown = put_entry d.shown name n }))) (slice_get places k)
get-placed places at d name n k is =
    slice_get-set places at k (place_with name n (slice_get places at)) (slice_get_within places at (Dir d) is) ∙ ap (λ (p : Option Place). cond (k == at) (Some (place_with name n p)) (slice_get places k)) is

pub get-taken : (places : List Place) (at : ℕ) (d : Directory) (name : List ℕ) (k : ℕ) → slice_get places at ≡ Some (Dir d)
    → slice_get (taken_out places at name) k ≡ cond (k == at) (Some (Dir (record d { shown = without name d.shown }))) (slice_get places k)
get-taken places at d name k is =
    slice_get-set places at k (place_without name (slice_get places at)) (slice_get_within places at (Dir d) is) ∙ ap (λ (p : Option Place). cond (k == at) (Some (place_without name p)) (slice_get places k)) is

-- what a directory shows where one place has changed
shown-placed : (k at : ℕ) (d : Directory) (name x : List ℕ) (n : ℕ) (p : Option Place) → (k ≡ at → p ≡ Some (Dir d))
    → node_in (cond (k == at) (Some (Dir (record d { shown = put_entry d.shown name n }))) p) x ≡ cond (at_name at name k x) (Some n) (node_in p x)
shown-placed k at d name x n p is = elim (eqb_tells k at) [
  | inl e ↦ rw (e.0, is e.1) (entry_at-put_entry x d.shown name n)
  | inr e ↦ rw e.0 refl
]

shown-taken : (k at : ℕ) (d : Directory) (name x : List ℕ) (p : Option Place) → (k ≡ at → p ≡ Some (Dir d))
    → node_in (cond (k == at) (Some (Dir (record d { shown = without name d.shown }))) p) x ≡ cond (at_name at name k x) None (node_in p x)
shown-taken k at d name x p is = elim (eqb_tells k at) [
  | inl e ↦ rw (e.0, is e.1) (entry_at-without name x d.shown)
  | inr e ↦ rw e.0 refl
]

-- a directory that has other entries is one, with the same foreign entries
kept_dir : (k at : ℕ) (d e : Directory) (p : Option Place) → e.foreign ≡ d.foreign → (k ≡ at → p ≡ Some (Dir d)) → (is_dir (cond (k == at) (Some (Dir e)) p) ≡ is_dir p) × (foreign_at (cond (k == at) (Some (Dir e)) p) ≡ foreign_at p)
kept_dir k at d e p same is = elim (eqb_tells k at) [
  | inl h ↦ rw (h.0, is h.1) (refl, same)
  | inr h ↦ rw h.0 (refl, refl)
]

-- the same in the store
low-put : (s : Store) (at k : ℕ) (name y : List ℕ) (l : Linked) (es : Entries) → s at ≡ Some es → linked_at (put_into s at name (Some l) k) y ≡ cond (at_name at name k y) (Some l) (linked_at (s k) y)
low-put s at k name y l es is = elim (eqb_tells k at) [
  | inl h ↦ rw h.0 (rw (ap s h.1 ∙ is) (entry_at-put_entry y es name l))
  | inr h ↦ rw h.0 refl
]

dir-put : (s : Store) (at k : ℕ) (name : List ℕ) (l : Linked) (es : Entries) → s at ≡ Some es → is_some (put_into s at name (Some l) k) ≡ is_some (s k)
dir-put s at k name l es is = elim (eqb_tells k at) [
  | inl h ↦ rw h.0 (rw (ap s h.1 ∙ is) refl)
  | inr h ↦ rw h.0 refl
]

low-taken : (s : Store) (at k : ℕ) (name y : List ℕ) (es : Entries) → s at ≡ Some es → linked_at (taken_from s at name k) y ≡ cond (at_name at name k y) None (linked_at (s k) y)
low-taken s at k name y es is = elim (eqb_tells k at) [
  | inl h ↦ rw h.0 (rw (ap s h.1 ∙ is) (entry_at-without name y es))
  | inr h ↦ rw h.0 refl
]

dir-taken : (s : Store) (at k : ℕ) (name : List ℕ) (es : Entries) → s at ≡ Some es → is_some (taken_from s at name k) ≡ is_some (s k)
dir-taken s at k name es is = elim (eqb_tells k at) [
  | inl h ↦ rw h.0 (rw (ap s h.1 ∙ is) refl)
  | inr h ↦ rw h.0 refl
]

-- ---- the views

pub view-taken : (places : List Place) (kept : List (List ℕ)) (s : Store) (at : ℕ) (d : Directory) (es : Entries) (name lower : List ℕ) → slice_get places at ≡ Some (Dir d) → s at ≡ Some es
    → view_of (taken_out places at name) kept (taken_from s at lower) ≡ unlinked (view_of places kept s) at name lower
view-taken places kept s at d es name lower is_d is_es =
    let e : Directory = record d { shown = without name d.shown } in
    let place : (k : ℕ) → k ≡ at → slice_get places k ≡ Some (Dir d) = λ k h. ap (slice_get places) h ∙ is_d in
    one_view _ _ (record {
      count = length-set places at (place_without name (slice_get places at));
      is_dir = λ k. ap is_dir (get-taken places at d name k is_d) ∙ (kept_dir k at d e (slice_get places k) refl (place k)).0;
      shown = λ k x. ap (λ (p : Option Place). node_in p x) (get-taken places at d name k is_d) ∙ shown-taken k at d name x (slice_get places k) (place k);
      foreign = λ k. ap foreign_at (get-taken places at d name k is_d) ∙ (kept_dir k at d e (slice_get places k) refl (place k)).1;
      keeps = λ k. refl;
      dir = λ k. dir-taken s at k lower es is_es;
      low = λ k y. low-taken s at k lower y es is_es;
    })

pub view-placed : (places : List Place) (kept : List (List ℕ)) (s : Store) (at : ℕ) (d : Directory) (es : Entries) (name lower : List ℕ) (n : ℕ) → slice_get places at ≡ Some (Dir d) → s at ≡ Some es → n < length kept
    → view_of (placed places at name n) (slice_set kept n lower) (put_into s at lower (Some (record { kind = kind_by (is_dir (slice_get places n)); node = n }))) ≡ linked (view_of places kept s) at name n lower
view-placed places kept s at d es name lower n is_d is_es within =
    let e : Directory = record d { shown = put_entry d.shown name n } in
    let l : Linked = record { kind = kind_by (is_dir (slice_get places n)); node = n } in
    let place : (k : ℕ) → k ≡ at → slice_get places k ≡ Some (Dir d) = λ k h. ap (slice_get places) h ∙ is_d in
    one_view _ _ (record {
      count = length-set places at (place_with name n (slice_get places at));
      is_dir = λ k. ap is_dir (get-placed places at d name n k is_d) ∙ (kept_dir k at d e (slice_get places k) refl (place k)).0;
      shown = λ k x. ap (λ (p : Option Place). node_in p x) (get-placed places at d name n k is_d) ∙ shown-placed k at d name x n (slice_get places k) (place k);
      foreign = λ k. ap foreign_at (get-placed places at d name n k is_d) ∙ (kept_dir k at d e (slice_get places k) refl (place k)).1;
      keeps = λ k. get_or-set kept n k lower within;
      dir = λ k. dir-put s at k lower l es is_es;
      low = λ k y. low-put s at k lower y l es is_es;
    })

pub view-ended : (places : List Place) (kept : List (List ℕ)) (s : Store) (n : ℕ) → n < length places
    → ((x : List ℕ) → (view_of places kept s).shown n x ≡ None) → (view_of places kept s).foreign n ≡ [] → ((y : List ℕ) → (view_of places kept s).low n y ≡ None)
    → view_of (slice_set places n Nothing) kept (λ k. cond (k == n) None (s k)) ≡ ended (view_of places kept s) n
view-ended places kept s n within bare no_foreign empty =
    let get : (k : ℕ) → slice_get (slice_set places n Nothing) k ≡ cond (k == n) (Some Nothing) (slice_get places k) = λ k. slice_get-set places n k Nothing within in
    one_view _ _ (record {
      count = length-set places n Nothing;
      is_dir = λ k. ap is_dir (get k) ∙ elim (eqb_tells k n) [ inl e ↦ rw e.0 refl | inr e ↦ rw e.0 refl ];
      shown = λ k x. ap (λ (p : Option Place). node_in p x) (get k) ∙ elim (eqb_tells k n) [
        | inl e ↦ rw e.0 (sym (bare x) ∙ ap (λ (j : ℕ). node_in (slice_get places j) x) (sym e.1))
        | inr e ↦ rw e.0 refl
      ];
      foreign = λ k. ap foreign_at (get k) ∙ elim (eqb_tells k n) [
        | inl e ↦ rw e.0 (sym no_foreign ∙ ap (λ (j : ℕ). foreign_at (slice_get places j)) (sym e.1))
        | inr e ↦ rw e.0 refl
      ];
      keeps = λ k. refl;
      dir = λ k. elim (eqb_tells k n) [ inl e ↦ rw e.0 refl | inr e ↦ rw e.0 refl ];
      low = λ k y. elim (eqb_tells k n) [
        | inl e ↦ rw e.0 (sym (empty y) ∙ ap (λ (j : ℕ). linked_at (s j) y) (sym e.1))
        | inr e ↦ rw e.0 refl
      ];
    })

-- a removal is an entry less, and then a node less
pub removed-parts : (s : Store) (at : ℕ) (lower : List ℕ) (l : Linked) → linked_at (s at) lower ≡ Some l → at ≢ l.node → low.removed s at lower ≡ (λ k. cond (k == l.node) None (taken_from s at lower k))
removed-parts s at lower l is ne = λ i k. (let same : low.removed s at lower k ≡ cond (k == l.node) None (taken_from s at lower k) =
    elim (eqb_tells k at) [
      | inl e ↦ rw e.0 (sym (cond_other k l.node None (without_name lower (s k)) (λ f. ne (sym e.1 ∙ f))))
      | inr e ↦ rw (e.0, is) refl
    ] in same i)

pub view-added : (places : List Place) (kept : List (List ℕ)) (s : Store) (at : ℕ) (d : Directory) (es : Entries) (name lower : List ℕ) (place : Place) (is : Bool) → slice_get places at ≡ Some (Dir d) → s at ≡ Some es
    → length kept ≡ length places → s (length places) ≡ None → is_dir (Some place) ≡ is → ((x : List ℕ) → node_in (Some place) x ≡ None) → foreign_at (Some place) ≡ []
    → view_of (added places at name place) (kept ++ lower ∷ []) (created s at lower (record { kind = kind_by is; node = length places })) ≡ linked (begun (view_of places kept s) is) at name (length places) lower
view-added places kept s at d es name lower place is is_d is_es size none dir_is bare no_foreign =
    let n : ℕ = length places in
    let l : Linked = record { kind = kind_by is; node = n } in
    let e : Directory = record d { shown = put_entry d.shown name n } in
    let there : (k : ℕ) → k ≡ at → slice_get places k ≡ Some (Dir d) = λ k h. ap (slice_get places) h ∙ is_d in
    let lt : at < n = slice_get_within places at (Dir d) is_d in
    let apart : at ≢ n = λ h. omega arith in
    let long : length (placed places at name n) ≡ n = length-set places at (place_with name n (slice_get places at)) in
    let past : slice_get places n ≡ None = slice_get_past places n (omega arith) in
    let get : (k : ℕ) → slice_get (added places at name place) k ≡ cond (k == n) (Some place) (cond (k == at) (Some (Dir e)) (slice_get places k)) =
    λ k. slice_get-push (placed places at name n) place k ∙ ap (λ (j : ℕ). cond (k == j) (Some place) (slice_get (placed places at name n) k)) long ∙ ap (λ (p : Option Place). cond (k == n) (Some place) p) (get-placed places at d name n k is_d) in
    one_view _ _ (record {
      count = length-append (placed places at name n) (place ∷ []) ∙ ap (λ (j : ℕ). j + 1) long;
      is_dir = λ k. ap is_dir (get k) ∙ elim (eqb_tells k n) [
        | inl h ↦ rw h.0 dir_is
        | inr h ↦ rw h.0 (kept_dir k at d e (slice_get places k) refl (there k)).0
      ];
      shown = λ k x. ap (λ (p : Option Place). node_in p x) (get k) ∙ elim (eqb_tells k n) [
        | inl h ↦ rw h.0 (bare x ∙ sym (put_other at name k x (Some n) (node_in (slice_get places k) x) None (λ f g. apart (sym f ∙ h.1)) (ap (λ (j : ℕ). node_in (slice_get places j) x) h.1 ∙ ap (λ (p : Option Place). node_in p x) past)))
        | inr h ↦ rw h.0 (shown-placed k at d name x n (slice_get places k) (there k))
      ];
      foreign = λ k. ap foreign_at (get k) ∙ elim (eqb_tells k n) [
        | inl h ↦ rw h.0 (no_foreign ∙ sym (ap (λ (j : ℕ). foreign_at (slice_get places j)) h.1 ∙ ap foreign_at past))
        | inr h ↦ rw h.0 (kept_dir k at d e (slice_get places k) refl (there k)).1
      ];
      keeps = λ k. get_or-more kept k lower ∙ ap (λ (j : ℕ). cond (k == j) lower (get_or kept k [])) size;
      dir = λ k. elim (eqb_tells k at) [
        | inl h ↦ rw h.0 (rw (ap s h.1 ∙ is_es) (sym (cond_other k n is true (λ g. apart (sym h.1 ∙ g)))))
        | inr h ↦ rw h.0 (elim (eqb_tells k n) [
          | inl g ↦ rw g.0 (begins is)
          | inr g ↦ rw g.0 refl
        ])
      ];
      low = λ k y. (let fix : cond (at_name at lower k y) (Some l) (linked_at (s k) y) ≡ (linked (begun (view_of places kept s) is) at name n lower).low k y =
          ap (λ (b : Bool). cond (at_name at lower k y) (Some (record { kind = kind_by b; node = n })) (linked_at (s k) y)) (sym (cond_same n is (is_dir (slice_get places n)))) in
          elim (eqb_tells k at) [
            | inl h ↦ rw h.0 (rw (ap s h.1 ∙ is_es) (entry_at-put_entry y es lower l))
            | inr h ↦ rw h.0 (elim (eqb_tells k n) [
              | inl g ↦ rw g.0 (begins_empty is y ∙ sym (ap (λ (j : ℕ). linked_at (s j) y) g.1 ∙ ap (λ (o : Option Entries). linked_at o y) none))
              | inr g ↦ rw g.0 refl
            ])
          ] ∙ fix);
    })
  where
    begins : (b : Bool) → is_some (entries_if (kind_by b) []) ≡ b
    begins true = refl
    begins false = refl

    begins_empty : (b : Bool) (y : List ℕ) → linked_at (entries_if (kind_by b) []) y ≡ None
    begins_empty true y = refl
    begins_empty false y = refl
