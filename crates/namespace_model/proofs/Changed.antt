-- The changes of a tree that may be made, over a store that carries it.
use Rattle.std.proofs.Common.{◌≡◌, ℕ, ◌<◌, ◌≤◌, Bool, true, false, ◌||◌, inl, inr, List, [], ◌∷◌, ◌++◌, length, get_or, Option, Some, None, Result, Ok, Err, IsTrue, refl, sym, ap, subst, ◌∙◌}
use Rattle.std.specs.Prelude.{◌==◌, slice_get, slice_set}
use Rattle.std.proofs.lemmas.Option.{slice_get_within}
use Rattle.std.proofs.lemmas.Bool.{cases_Bool, or_cases, eqb-true, true≢false, false≢true}
use Rattle.lower_model.specs.Name.{is_name}
use Rattle.lower_model.specs.declared.kind.Kind.{Kind}
use Rattle.lower_model.specs.declared.kind.Kind.TheVariants as kinds
use Rattle.names_model.specs.declared.entry.Linked.{Linked}
use Rattle.names_model.specs.NameForm.{NameForm}
use Rattle.names_model.specs.Store.{Store, Entries, linked_at}
use Rattle.names_model.specs.StoreCalls.{created, taken_from, put_into, CanCreate, CanRemove, CanRename}
use Rattle.names_model.specs.StoreCalls as low
use Rattle.tree_model.specs.declared.call.TreeRefusal.{TreeRefusal}
use Rattle.tree_model.specs.declared.change.Making.{Making}
use Rattle.tree_model.specs.declared.change.Removal.{Removal}
use Rattle.tree_model.specs.declared.change.Moving.{Moving}
use Rattle.tree_model.specs.declared.place.Directory.{Directory}
use Rattle.tree_model.specs.declared.place.Place.{Place}
use Rattle.tree_model.specs.declared.place.Place.TheVariants.{Dir, File, Nothing}
use Rattle.tree_model.specs.Names.{node_of, entry_at}
use Rattle.tree_model.specs.Walk.{◌>>=◌, entry_of, walk, comes_by, holds_then}
use Rattle.tree_model.specs.IsTree.{IsTree, IsDirectory, IsNode, node_in}
use Rattle.tree_model.specs.PlainTree.{PlainTree, is_dir, is_taken, is_blocked, is_blocked_at, added, begun, removed, moved}
use Rattle.plain_tree.specs.Prepared.{CanMake, CanRemove as MayRemove, Replaces, CanMove}
use Rattle.namespace_model.specs.Carried.{View, view_of, IsCarried, Keeps, IsForm, Stays, foreign_at, kind_by, unlinked, linked, ended}
use Rattle.namespace_model.specs.Carried as U
use Rattle.namespace_model.specs.LowerFor.{lower_for, HasTarget}
use Rattle.namespace_model.proofs.Inside.{below_comes_by}
use Rattle.namespace_model.proofs.Replaced.{renamed_is, renamed_free}
use Rattle.namespace_model.proofs.Named.{names_created, names_removed, names_moved, names_replaced}
use Rattle.namespace_model.proofs.Below.{LowStays, LowStays-same, LowStays-begun, LowStays-ended, LowStays-unlinked, LowStays-linked, foreign_apart, below_stays}
use Rattle.namespace_model.proofs.States.{apart, moved_entry, stored, fresh_absent, can_create, view-created, view-removed, view-moved, view-replaced, Keeps-created, can_remove, Keeps-removed, can_replace, Keeps-replaced, Keeps-moved, get_or_any, NamesAre}

-- ---- places

shown_dir : (p : Option Place) (x : List ℕ) (n : ℕ) → node_in p x ≡ Some n → (d : Directory) × (p ≡ Some (Dir d)) × (node_of x d.shown ≡ Some n)
shown_dir (Some (Dir d)) x n h = (d, refl, h)
shown_dir (Some File) x n h = absurd cc
shown_dir (Some Nothing) x n h = absurd cc
shown_dir None x n h = absurd cc

directory_is : (p : Option Place) → IsDirectory p → (d : Directory) × (p ≡ Some (Dir d))
directory_is (Some (Dir d)) h = (d, refl)
directory_is (Some File) h = absurd h
directory_is (Some Nothing) h = absurd h
directory_is None h = absurd h

free_is : (p : Option Place) (d : Directory) (name : List ℕ) → p ≡ Some (Dir d) → node_in p name ≡ None → is_blocked_at p name ≡ false → is_taken d name ≡ false
free_is p d name is none blocked =
    let a : node_of name d.shown ≡ None = sym (ap (λ (q : Option Place). node_in q name) is) ∙ none in
    let b : is_blocked d name ≡ false = sym (ap (λ (q : Option Place). is_blocked_at q name) is) ∙ blocked in
    rw (a, b) refl

-- a walk to a directory comes by directories
comes_by_dir : (places : List Place) (n a : ℕ) (path : List (List ℕ)) (to : ℕ) → walk places a path ≡ Ok to → is_dir (slice_get places to) ≡ true → comes_by places n a path ≡ true → is_dir (slice_get places n) ≡ true
comes_by_dir places n a [] to h is by =
    let end : a ≡ to = cc in
    ap (λ (k : ℕ). is_dir (slice_get places k)) (sym (eqb-true a n by) ∙ end) ∙ is
comes_by_dir places n a (x ∷ xs) to h is by = first (λ m walks later. comes_by_dir places n m xs to walks is later) (entry_of (slice_get places a) x) refl h by
  where
    has_entry : (p : Option Place) (m : ℕ) → entry_of p x ≡ Ok m → is_dir p ≡ true
    has_entry (Some (Dir d)) m e = refl
    has_entry (Some File) m e = absurd cc
    has_entry (Some Nothing) m e = absurd cc
    has_entry None m e = absurd cc

    first : ((m : ℕ) → walk places m xs ≡ Ok to → comes_by places n m xs ≡ true → is_dir (slice_get places n) ≡ true) → (r : Result ℕ TreeRefusal) → entry_of (slice_get places a) x ≡ r → (r >>= λ m. walk places m xs) ≡ Ok to → ((a == n) || holds_then (λ m. comes_by places n m xs) r) ≡ true → is_dir (slice_get places n) ≡ true
    first next (Err e) at walks by = absurd cc
    first next (Ok m) at walks by = elim (or_cases (a == n) (comes_by places n m xs) by) [
      | inl here ↦ ap (λ (k : ℕ). is_dir (slice_get places k)) (sym (eqb-true a n here)) ∙ has_entry (slice_get places a) m at
      | inr later ↦ next m walks later
    ]

outside_is : (places : List Place) (n : ℕ) (path : List (List ℕ)) (to : ℕ) → walk places 0 path ≡ Ok to → is_dir (slice_get places to) ≡ true → (is_dir (slice_get places n) ≡ true → comes_by places n 0 path ≡ false) → comes_by places n 0 path ≡ false
outside_is places n path to walks is outside = elim (cases_Bool (comes_by places n 0 path)) [
  | inl by ↦ outside (comes_by_dir places n 0 path to walks is by)
  | inr f ↦ f
]

begun_dir : (kind : Kind) → is_dir (Some (begun kind)) ≡ true → kind ≡ kinds.Dir
begun_dir kinds.Dir h = refl
begun_dir kinds.File h = absurd (false≢true h)

kind_is : (kind : Kind) → kind_by (is_dir (Some (begun kind))) ≡ kind
kind_is kinds.Dir = refl
kind_is kinds.File = refl

begun_shows : (kind : Kind) (x : List ℕ) → node_in (Some (begun kind)) x ≡ None
begun_shows kinds.Dir x = refl
begun_shows kinds.File x = refl

begun_foreign : (kind : Kind) → foreign_at (Some (begun kind)) ≡ []
begun_foreign kinds.Dir = refl
begun_foreign kinds.File = refl

-- a node that is shown has a number, and a lower name is kept for it
pub kept_within : (t : PlainTree) (kept : List (List ℕ)) (dir : ℕ) (name : List ℕ) (node : ℕ) → IsTree t.places → node_in (slice_get t.places dir) name ≡ Some node → length kept ≡ length t.places → node < length kept
kept_within t kept dir name node tree there size = subst (λ (n : ℕ). node < n) (sym size) (within (slice_get t.places node) refl (tree.there dir name node there))
  where
    within : (p : Option Place) → slice_get t.places node ≡ p → IsNode p → node < length t.places
    within (Some q) e h = slice_get_within t.places node q e
    within None e h = absurd h

-- the lower name that is kept for an entry, whatever stands for one that isn't
pub kept_at : (t : PlainTree) (kept : List (List ℕ)) (dir : ℕ) (name : List ℕ) (node : ℕ) (d : List ℕ) → IsTree t.places → node_in (slice_get t.places dir) name ≡ Some node → length kept ≡ length t.places → get_or kept node d ≡ get_or kept node []
kept_at t kept dir name node d tree there size = get_or_any kept node d [] (kept_within t kept dir name node tree there size)

-- ---- the three changes

-- a change that stays with the names and below foreign entries
stays_by : (form : NameForm) (t : PlainTree) (kept : List (List ℕ)) (s : Store) (ps : List Place) (ks : List (List ℕ)) (later : Store) → IsCarried form (view_of t.places kept s) → IsTree t.places
    → ((opening : View) → NamesAre form opening (view_of t.places kept s) → NamesAre form opening (view_of ps ks later)) → LowStays (view_of t.places kept s) (view_of ps ks later) → Stays form t.places kept s ps ks later
stays_by form t kept s ps ks later c tree names lows = record {
  named = λ opening first h. record { named = names (view_of opening first (λ k. None)) h.named };
  below = λ opening h. below_stays form t.places ps kept ks s later c tree lows opening h;
  foreign = lows.foreign;
}

module _ (form : NameForm) (t : PlainTree) (kept : List (List ℕ)) (s : Store) (k : Keeps form t.places kept s) where
  pub may_remove : (r : Removal) → MayRemove t r → CanRemove s r.dir (get_or kept r.node [])
  may_remove r can =
      let d = shown_dir (slice_get t.places r.dir) r.name r.node can.there in
      can_remove form t.places kept s k r.dir d.0 r.name r.node d.1 d.2 can.bare

  pub keeps_removed : (r : Removal) → MayRemove t r → Keeps form (removed t.places r.dir r.name r.node) kept (low.removed s r.dir (get_or kept r.node []))
  keeps_removed r can =
      let d = shown_dir (slice_get t.places r.dir) r.name r.node can.there in
      Keeps-removed form t.places kept s k r.dir d.0 r.name r.node d.1 d.2 can.bare

  pub stays_removed : IsTree t.places → (r : Removal) → MayRemove t r → Stays form t.places kept s (removed t.places r.dir r.name r.node) kept (low.removed s r.dir (get_or kept r.node []))
  stays_removed tree r can =
      let d = shown_dir (slice_get t.places r.dir) r.name r.node can.there in
      let v = view_of t.places kept s in
      let lower : List ℕ = get_or kept r.node [] in
      stays_by form t kept s (removed t.places r.dir r.name r.node) kept (low.removed s r.dir lower) k.carries tree
      (λ opening names. names_removed form opening t.places kept s k r.dir d.0 r.name r.node d.1 d.2 can.bare names)
      (subst (LowStays v) (sym (view-removed form t.places kept s k r.dir d.0 r.name r.node d.1 d.2 can.bare))
      (LowStays-ended v (unlinked v r.dir r.name lower) r.node (LowStays-unlinked v v (LowStays-same v) r.dir r.name lower (ap is_dir d.1) (λ f among. k.carries.apart r.dir r.name r.node f can.there among))))

module _ (form : NameForm) (t : PlainTree) (kept : List (List ℕ)) (s : Store) (k : Keeps form t.places kept s) (laws : IsForm form) (limit : t.limit ≡ form.longest) where
  abbrev v : View
  v = view_of t.places kept s

  abbrev fits : (name : List ℕ) → length name ≤ t.limit → length name ≤ form.longest
  fits name h = subst (λ (n : ℕ). length name ≤ n) limit h

  pub may_create : (m : Making) → CanMake t m → IsTrue (is_name m.name) → CanCreate s m.dir (form.written m.name) (length t.places)
  may_create m can lawful =
      let d = directory_is (slice_get t.places m.dir) can.directory in
      can_create form t.places kept s k laws m.dir d.0 m.name d.1 (free_is (slice_get t.places m.dir) d.0 m.name d.1 can.absent can.unblocked) lawful (fits m.name can.fits) can.few

  pub keeps_made : (m : Making) → CanMake t m → IsTrue (is_name m.name) → Keeps form (added t.places m.dir m.name (begun m.kind)) (kept ++ form.written m.name ∷ []) (created s m.dir (form.written m.name) (record { kind = m.kind; node = length t.places }))
  keeps_made m can lawful =
      let d = directory_is (slice_get t.places m.dir) can.directory in
      subst (λ (kind : Kind). Keeps form (added t.places m.dir m.name (begun m.kind)) (kept ++ form.written m.name ∷ []) (created s m.dir (form.written m.name) (record { kind = kind; node = length t.places }))) (kind_is m.kind)
      (Keeps-created form t.places kept s k laws m.dir d.0 m.name (begun m.kind) (is_dir (Some (begun m.kind))) d.1 (free_is (slice_get t.places m.dir) d.0 m.name d.1 can.absent can.unblocked) lawful (fits m.name can.fits)
      refl (begun_shows m.kind) (begun_foreign m.kind))

  stays_begun : IsTree t.places → (m : Making) → CanMake t m → IsTrue (is_name m.name) → Stays form t.places kept s (added t.places m.dir m.name (begun m.kind)) (kept ++ form.written m.name ∷ []) (created s m.dir (form.written m.name) (record { kind = kind_by (is_dir (Some (begun m.kind))); node = length t.places }))
  stays_begun tree m can lawful =
      let d = directory_is (slice_get t.places m.dir) can.directory in
      let is : Bool = is_dir (Some (begun m.kind)) in
      let lower : List ℕ = form.written m.name in
      let free = fresh_absent form t.places kept s k m.dir d.0 m.name d.1 (free_is (slice_get t.places m.dir) d.0 m.name d.1 can.absent can.unblocked) lawful (fits m.name can.fits) (laws.reads_written m.name lawful (fits m.name can.fits)) in
      stays_by form t kept s (added t.places m.dir m.name (begun m.kind)) (kept ++ lower ∷ []) (created s m.dir lower (record { kind = kind_by is; node = length t.places })) k.carries tree
      (λ opening names. names_created form opening t.places kept s k m.dir d.0 m.name (begun m.kind) is d.1 (fits m.name can.fits) refl (begun_shows m.kind) (begun_foreign m.kind) names)
      (subst (LowStays v) (sym (view-created form t.places kept s k m.dir d.0 m.name (begun m.kind) is d.1 refl (begun_shows m.kind) (begun_foreign m.kind)))
      (LowStays-linked v (U.begun v is) (LowStays-begun v is) m.dir m.name (length t.places) lower (ap is_dir d.1) (foreign_apart form v k.carries m.dir lower free)))

  pub stays_made : IsTree t.places → (m : Making) → CanMake t m → IsTrue (is_name m.name) → Stays form t.places kept s (added t.places m.dir m.name (begun m.kind)) (kept ++ form.written m.name ∷ []) (created s m.dir (form.written m.name) (record { kind = m.kind; node = length t.places }))
  stays_made tree m can lawful =
      subst (λ (kind : Kind). Stays form t.places kept s (added t.places m.dir m.name (begun m.kind)) (kept ++ form.written m.name ∷ []) (created s m.dir (form.written m.name) (record { kind = kind; node = length t.places }))) (kind_is m.kind)
      (stays_begun tree m can lawful)

  -- the written name of a name that is free isn't there
  free_name : (m : Moving) → CanMove t m → IsTrue (is_name m.name) → node_in (slice_get t.places m.to) m.name ≡ None → is_blocked_at (slice_get t.places m.to) m.name ≡ false → linked_at (s m.to) (form.written m.name) ≡ None
  free_name m can lawful there unblocked =
      let to = directory_is (slice_get t.places m.to) can.directory in
      fresh_absent form t.places kept s k m.to to.0 m.name to.1 (free_is (slice_get t.places m.to) to.0 m.name to.1 there unblocked) lawful (fits m.name can.fits) (laws.reads_written m.name lawful (fits m.name can.fits))

  can_rename : (m : Moving) (target : Option ℕ) → CanMove t m → IsTrue (is_name m.name) → node_in (slice_get t.places m.to) m.name ≡ target → Replaces t m.node m.to m.name target
      → CanRename s m.from (get_or kept m.node []) m.to (lower_for form.written kept m.name target)
  can_rename m None can lawful there r =
      let from = shown_dir (slice_get t.places m.from) m.was m.node can.there in
      let to = directory_is (slice_get t.places m.to) can.directory in
      let is_to : is_dir (slice_get t.places m.to) ≡ true = ap is_dir to.1 in
      let here : (es : Entries) × (s m.from ≡ Some es) = stored form t.places kept s k m.from from.0 from.1 in
      let there_to : (es : Entries) × (s m.to ≡ Some es) = stored form t.places kept s k m.to to.0 to.1 in
      let l : Linked = record { kind = kind_by (is_dir (slice_get t.places m.node)); node = m.node } in
      let absent : entry_at (form.written m.name) there_to.0 ≡ None = sym (ap (λ (o : Option Entries). linked_at o (form.written m.name)) there_to.1) ∙ free_name m can lawful there r in
      record {
        entries = here.0;
        linked = l;
        goes_into = there_to.0;
        is_dir = here.1;
        there = sym (ap (λ (o : Option Entries). linked_at o (get_or kept m.node [])) here.1) ∙ k.carries.down m.from m.was m.node can.there;
        to_dir = there_to.1;
        lawful = laws.writes_names m.name lawful (fits m.name can.fits);
        not_inside = λ b. true≢false (sym (below_comes_by form t.places kept s k.carries m.node m.to b can.path can.reached) ∙ outside_is t.places m.node can.path m.to can.reached is_to can.outside);
        replaces = subst (λ (o : Option Linked). low.CanReplace s l o) (sym absent) tt;
      }
  can_rename m (Some target) can lawful there r =
      let to = shown_dir (slice_get t.places m.to) m.name target there in
      let is_to : is_dir (slice_get t.places m.to) ≡ true = ap is_dir to.1 in
      can_replace form t.places kept s k m.to to.0 m.name target to.1 to.2 r.bare m.from m.was m.node can.there r.other r.alike
      can.path can.reached (outside_is t.places m.node can.path m.to can.reached is_to can.outside)

  pub may_rename : (m : Moving) → CanMove t m → IsTrue (is_name m.name) → CanRename s m.from (get_or kept m.node []) m.to (lower_for form.written kept m.name m.target)
  may_rename m can lawful = can_rename m m.target can lawful can.target can.replaces

  keeps_renamed : (m : Moving) (target : Option ℕ) → CanMove t m → IsTrue (is_name m.name) → node_in (slice_get t.places m.to) m.name ≡ target → Replaces t m.node m.to m.name target
      → Keeps form (moved_entry t.places m.from m.was m.node m.to m.name target) (slice_set kept m.node (lower_for form.written kept m.name target)) (low.renamed s m.from (get_or kept m.node []) m.to (lower_for form.written kept m.name target))
  keeps_renamed m None can lawful there r =
      let to = directory_is (slice_get t.places m.to) can.directory in
      let free = free_name m can lawful there r in
      subst (λ (z : Store). Keeps form (moved_entry t.places m.from m.was m.node m.to m.name None) (slice_set kept m.node (form.written m.name)) z)
      (sym (renamed_free s m.from (get_or kept m.node []) m.to (form.written m.name) _ free (k.carries.down m.from m.was m.node can.there)))
      (Keeps-moved form t.places kept s k m.from m.was m.node m.to m.name (form.written m.name) can.there (ap is_dir to.1) there free (laws.reads_written m.name lawful (fits m.name can.fits)) (laws.writes_names m.name lawful (fits m.name can.fits)))
  keeps_renamed m (Some target) can lawful there r =
      let to = shown_dir (slice_get t.places m.to) m.name target there in
      subst (λ (z : Store). Keeps form (moved_entry t.places m.from m.was m.node m.to m.name (Some target)) (slice_set kept m.node (get_or kept target [])) z)
      (sym (renamed_is s m.from (get_or kept m.node []) m.to (get_or kept target []) _ _ (k.carries.down m.to m.name target there) (k.carries.down m.from m.was m.node can.there)))
      (Keeps-replaced form t.places kept s k m.to to.0 m.name target to.1 to.2 r.bare m.from m.was m.node can.there r.other)

  pub keeps_moved : (m : Moving) → CanMove t m → IsTrue (is_name m.name) → Keeps form (moved t.places m) (slice_set kept m.node (lower_for form.written kept m.name m.target)) (low.renamed s m.from (get_or kept m.node []) m.to (lower_for form.written kept m.name m.target))
  keeps_moved m can lawful = keeps_renamed m m.target can lawful can.target can.replaces

  stays_renamed : IsTree t.places → (m : Moving) (target : Option ℕ) → CanMove t m → IsTrue (is_name m.name) → node_in (slice_get t.places m.to) m.name ≡ target → Replaces t m.node m.to m.name target
      → Stays form t.places kept s (moved_entry t.places m.from m.was m.node m.to m.name target) (slice_set kept m.node (lower_for form.written kept m.name target)) (low.renamed s m.from (get_or kept m.node []) m.to (lower_for form.written kept m.name target))
  stays_renamed tree m None can lawful there r =
      let from = shown_dir (slice_get t.places m.from) m.was m.node can.there in
      let to = directory_is (slice_get t.places m.to) can.directory in
      let free = free_name m can lawful there r in
      let lower : List ℕ = get_or kept m.node [] in
      let new : List ℕ = form.written m.name in
      let later : Store = put_into (taken_from s m.from lower) m.to new (Some (record { kind = kind_by (is_dir (slice_get t.places m.node)); node = m.node })) in
      subst (λ (z : Store). Stays form t.places kept s (moved_entry t.places m.from m.was m.node m.to m.name None) (slice_set kept m.node new) z)
      (sym (renamed_free s m.from lower m.to new _ free (k.carries.down m.from m.was m.node can.there)))
      (stays_by form t kept s (moved_entry t.places m.from m.was m.node m.to m.name None) (slice_set kept m.node new) later k.carries tree
      (λ opening names. names_moved form opening t.places kept s k m.from m.was m.node m.to m.name new can.there (ap is_dir to.1) (inl (fits m.name can.fits, refl)) names)
      (subst (LowStays v) (sym (view-moved form t.places kept s k m.from m.was m.node m.to m.name new can.there (ap is_dir to.1)))
      (LowStays-linked v (unlinked v m.from m.was lower)
      (LowStays-unlinked v v (LowStays-same v) m.from m.was lower (ap is_dir from.1) (λ f among. k.carries.apart m.from m.was m.node f can.there among))
      m.to m.name m.node new (ap is_dir to.1) (foreign_apart form v k.carries m.to new free))))
  stays_renamed tree m (Some target) can lawful there r =
      let from = shown_dir (slice_get t.places m.from) m.was m.node can.there in
      let to = shown_dir (slice_get t.places m.to) m.name target there in
      let lower : List ℕ = get_or kept m.node [] in
      let new : List ℕ = get_or kept target [] in
      let later : Store = put_into (taken_from (low.removed s m.to new) m.from lower) m.to new (Some (record { kind = kind_by (is_dir (slice_get t.places m.node)); node = m.node })) in
      subst (λ (z : Store). Stays form t.places kept s (moved_entry t.places m.from m.was m.node m.to m.name (Some target)) (slice_set kept m.node new) z)
      (sym (renamed_is s m.from lower m.to new _ _ (k.carries.down m.to m.name target there) (k.carries.down m.from m.was m.node can.there)))
      (stays_by form t kept s (moved_entry t.places m.from m.was m.node m.to m.name (Some target)) (slice_set kept m.node new) later k.carries tree
      (λ opening names. names_replaced form opening t.places kept s k m.to to.0 m.name target to.1 to.2 r.bare m.from m.was m.node can.there r.other (apart form t.places kept s k m.to to.0 m.name target to.1 to.2 r.bare) names)
      (subst (LowStays v) (sym (view-replaced form t.places kept s k m.to to.0 m.name target to.1 to.2 r.bare m.from m.was m.node can.there r.other))
      (LowStays-linked v (unlinked (ended (unlinked v m.to m.name new) target) m.from m.was lower)
      (LowStays-unlinked v (ended (unlinked v m.to m.name new) target)
      (LowStays-ended v (unlinked v m.to m.name new) target (LowStays-unlinked v v (LowStays-same v) m.to m.name new (ap is_dir to.1) (λ f among. k.carries.apart m.to m.name target f there among)))
      m.from m.was lower (ap is_dir from.1) (λ f among. k.carries.apart m.from m.was m.node f can.there among))
      m.to m.name m.node new (ap is_dir to.1) (λ f among. k.carries.apart m.to m.name target f there among))))

  pub stays_moved : IsTree t.places → (m : Moving) → CanMove t m → IsTrue (is_name m.name) → Stays form t.places kept s (moved t.places m) (slice_set kept m.node (lower_for form.written kept m.name m.target)) (low.renamed s m.from (get_or kept m.node []) m.to (lower_for form.written kept m.name m.target))
  stays_moved tree m can lawful = stays_renamed tree m m.target can lawful can.target can.replaces

-- the same of equal parts
pub Stays-same : (form : NameForm) (old : List Place) (was : List (List ℕ)) (before : Store) (places ps : List Place) (kept ks : List (List ℕ)) (s z : Store) → Stays form old was before places kept s
    → ps ≡ places → ks ≡ kept → ((j : ℕ) → z j ≡ s j) → Stays form old was before ps ks z
Stays-same form old was before places ps kept ks s z h e f g =
    let same : z ≡ s = λ i j. g j i in
    subst (λ (x : Store). Stays form old was before ps ks x) (sym same) (rw (e, f) h)

-- what changed nothing
pub stays_still : (form : NameForm) (places : List Place) (kept ks : List (List ℕ)) (s z : Store) → ks ≡ kept → ((j : ℕ) → z j ≡ s j) → Stays form places kept s places ks z
stays_still form places kept ks s z f g = Stays-same form places kept s places places kept ks s z (record { named = λ opening first h. h; below = λ opening h. h; foreign = λ k. refl }) refl f g

-- what has the new name has a number
pub has_target : (t : PlainTree) (at : ℕ) (name : List ℕ) (target : Option ℕ) (count : ℕ) → IsTree t.places → node_in (slice_get t.places at) name ≡ target → count ≡ length t.places → HasTarget target count
has_target t at name None count tree there size = tt
has_target t at name (Some target) count tree there size = subst (λ (n : ℕ). target < n) (sym size) (within (slice_get t.places target) refl (tree.there at name target there))
  where
    within : (p : Option Place) → slice_get t.places target ≡ p → IsNode p → target < length t.places
    within (Some q) e h = slice_get_within t.places target q e
    within None e h = absurd h
