-- What a namespace keeps over the changes, and that the calls on the lower names may be made.
use Rattle.std.proofs.Common.{◌≡◌, ◌≢◌, ℕ, ◌<◌, ◌≤◌, ◌+◌, Bool, true, false, ◌||◌, ◌⊎◌, inl, inr, List, [], ◌∷◌, ◌++◌, length, get_or, Option, Some, None, Ok, IsTrue, refl, sym, ap, subst, ◌∙◌, arith, length-append}
use Rattle.std.specs.Prelude.{slice_get, slice_set, is_some}
use Rattle.std.specs.List.{list_any}
use Rattle.std.proofs.lemmas.List.{length-set}
use Rattle.std.proofs.lemmas.Option.{slice_get_within, slice_get-get_or}
use Rattle.std.proofs.lemmas.Bool.{cases_Bool, both_ways, and_parts}
use Rattle.lower_model.specs.Name.{is_name}
use Rattle.lower_model.specs.declared.kind.Kind.TheVariants as kinds
use Rattle.names_model.specs.declared.entry.Linked.{Linked}
use Rattle.names_model.specs.NameForm.{NameForm, IsWritten}
use Rattle.names_model.specs.Store.{Store, Entries, linked_at}
use Rattle.names_model.specs.StoreCalls.{IsNew, created, taken_from, put_into, CanCreate, CanRemove, CanRename, CanReplace, IsBare}
use Rattle.names_model.specs.StoreCalls as low
use Rattle.tree_model.specs.declared.place.ForeignEntry.{ForeignEntry}
use Rattle.tree_model.specs.declared.place.Directory.{Directory}
use Rattle.tree_model.specs.declared.place.Place.{Place}
use Rattle.tree_model.specs.declared.place.Place.TheVariants.{Dir, File, Nothing}
use Rattle.tree_model.specs.Names.{node_of, entry_at}
use Rattle.tree_model.specs.Walk.{walk, comes_by}
use Rattle.tree_model.specs.PlainTree.{most_nodes, is_dir, is_this, is_taken, is_blocked, blocks_name, has_nothing, is_bare, is_empty, added, removed, taken_out, place_without, placed, place_with, cleared}
use Rattle.tree_model.specs.IsTree.{node_in}
use Rattle.names_model.specs.CarriedBy.{Among}
use Rattle.tree_model.proofs.NameLemmas.{is_named_same}
use Rattle.namespace_model.specs.Carried.{View, view_of, IsCarried, IsForm, Keeps, Blocks, foreign_at, kind_by, linked, unlinked, begun, ended}
use Rattle.namespace_model.proofs.AtName.{cases_out, cases_put, put_other, put_same}
use Rattle.namespace_model.proofs.Steps.{IsCarried-linked, IsCarried-unlinked, IsCarried-begun, IsCarried-ended, cond_other, cond_same}
use Rattle.namespace_model.proofs.Rising.{rises_created, rises_removed, rises_taken, rises_put, is_name_of}
use Rattle.namespace_model.proofs.Inside.{below_comes_by}
use Rattle.namespace_model.proofs.Views.{view-added, view-taken, view-placed, view-ended, removed-parts}

pub none_unless : {A : Type 0} (o : Option A) → ((a : A) → o ≡ Some a → ⊥) → o ≡ None
none_unless None h = refl
none_unless (Some a) h = absurd (h a refl)

none_is : {A : Type 0} (o : Option A) → is_some o ≡ false → o ≡ None
none_is None h = refl
none_is (Some a) h = absurd cc

pub some_is : {A : Type 0} (o : Option A) → is_some o ≡ true → (a : A) × (o ≡ Some a)
some_is None h = absurd cc
some_is (Some a) h = (a, refl)

or_parts : (x y : Bool) → (x || y) ≡ false → (x ≡ false) × (y ≡ false)
or_parts true y h = absurd cc
or_parts false y h = (refl, h)

any_among : {A : Type 0} (test : A → Bool) (x : A) (xs : List A) → Among x xs → test x ≡ true → list_any test xs ≡ true
any_among test x [] among h = absurd among
any_among test x (y ∷ ys) among h = elim among [
  | inl e ↦ rw (← e) (rw h refl)
  | inr later ↦ (let rest : list_any test ys ≡ true = any_among test x ys later h in elim (cases_Bool (test y)) [ inl t ↦ rw t refl | inr f ↦ rw f rest ])
]

empty_is : {A : Type 0} (xs : List A) → is_empty xs ≡ true → xs ≡ []
empty_is [] h = refl
empty_is (x ∷ xs) h = absurd cc

bare_parts : (d : Directory) → has_nothing d ≡ true → (d.shown ≡ []) × (d.foreign ≡ [])
bare_parts d h = let p : (is_empty d.shown ≡ true) × (is_empty d.foreign ≡ true) = and_parts (is_empty d.shown) (is_empty d.foreign) h in (empty_is d.shown p.0, empty_is d.foreign p.1)

pub shown_bare : (p : Option Place) → is_bare p ≡ true → (x : List ℕ) → node_in p x ≡ None
shown_bare (Some (Dir d)) h x = rw (bare_parts d h).0 refl
shown_bare (Some File) h x = refl
shown_bare (Some Nothing) h x = refl
shown_bare None h x = refl

pub foreign_bare : (p : Option Place) → is_bare p ≡ true → foreign_at p ≡ []
foreign_bare (Some (Dir d)) h = (bare_parts d h).1
foreign_bare (Some File) h = refl
foreign_bare (Some Nothing) h = refl
foreign_bare None h = refl

pub dir_is : (p : Option Place) → is_dir p ≡ true → (d : Directory) × (p ≡ Some (Dir d))
dir_is (Some (Dir d)) h = (d, refl)
dir_is (Some File) h = absurd cc
dir_is (Some Nothing) h = absurd cc
dir_is None h = absurd cc

pub no_some : {A : Type 0} (o : Option A) (a : A) → o ≡ None → o ≡ Some a → ⊥
no_some o a e f = let no : None ≡ Some a = sym e ∙ f in cc

no_entries : (es : Entries) → ((y : List ℕ) (l : Linked) → entry_at y es ≡ Some l → ⊥) → es ≡ []
no_entries [] h = refl
no_entries (e ∷ es) h = absurd (h e.0 e.1 (rw (is_named_same e.0) refl))

dir_kind : (b : Bool) → kind_by b ≡ kinds.Dir → b ≡ true
dir_kind true h = refl
dir_kind false h = absurd cc

abbrev pub moved_entry : List Place → ℕ → List ℕ → ℕ → ℕ → List ℕ → Option ℕ → List Place
moved_entry places at was n to name target = placed (taken_out (cleared places to name target) at was) to name n

-- ---- the changes

module _ (form : NameForm) (places : List Place) (kept : List (List ℕ)) (s : Store) (k : Keeps form places kept s) where
  abbrev v : View
  v = view_of places kept s

  -- a directory of the tree is one of the store
  pub stored : (at : ℕ) (d : Directory) → slice_get places at ≡ Some (Dir d) → (es : Entries) × (s at ≡ Some es)
  stored at d is = some_is (s at) (k.carries.dirs at (ap is_dir is))

  -- the written name of a name that isn't taken isn't there
  pub fresh_absent : (at : ℕ) (d : Directory) (name : List ℕ) → slice_get places at ≡ Some (Dir d) → is_taken d name ≡ false → IsTrue (is_name name) → length name ≤ form.longest → form.upper (form.written name) ≡ Some name
      → linked_at (s at) (form.written name) ≡ None
  fresh_absent at d name is free is_a fits reads =
      let parts : (is_some (node_of name d.shown) ≡ false) × (is_blocked d name ≡ false) = or_parts (is_some (node_of name d.shown)) (is_blocked d name) free in
      let none : node_in (slice_get places at) name ≡ None = ap (λ (p : Option Place). node_in p name) is ∙ none_is (node_of name d.shown) parts.0 in
      none_unless (linked_at (s at) (form.written name)) (λ l h. elim (k.carries.up at (form.written name) l (ap is_dir is) h) [
        | inl t ↦ (let a : form.upper (get_or kept l.node []) ≡ Some t.0 = k.carries.reads at t.0 l.node t.1 in
            let b : form.upper (get_or kept l.node []) ≡ Some name = ap form.upper t.2 ∙ reads in
            let same : t.0 ≡ name = cc in
            let found : node_in (slice_get places at) name ≡ Some l.node = subst (λ (z : List ℕ). node_in (slice_get places at) z ≡ Some l.node) same t.1 in
            let no : None ≡ Some l.node = sym none ∙ found in cc)
        | inr f ↦ (let among : Among f.0 d.foreign = subst (λ (p : Option Place). Among f.0 (foreign_at p)) is f.1 in
            let hit : is_this name f.0.blocks ≡ true = k.blocks at f.0 name f.1 is_a fits f.2 in
            both_ways (is_blocked d name) parts.1 (any_among (blocks_name name) f.0 d.foreign among hit))
      ])

  -- the next number is new
  pub is_new : IsNew s (length places)
  is_new = record {
    no_dir = none_unless (s (length places)) (λ es h. (let lt : length places < length places = k.carries.low_dir (length places) (ap is_some h) in omega arith));
    no_entry = λ j y l h. (let lt : l.node < length places = k.carries.low_within j y l h in λ e. omega arith);
  }

  pub can_create : IsForm form → (at : ℕ) (d : Directory) (name : List ℕ) → slice_get places at ≡ Some (Dir d) → is_taken d name ≡ false → IsTrue (is_name name) → length name ≤ form.longest → length places < most_nodes
      → CanCreate s at (form.written name) (length places)
  can_create laws at d name is free is_a fits few =
      let here : (es : Entries) × (s at ≡ Some es) = stored at d is in
      record {
        entries = here.0;
        is_dir = here.1;
        absent = sym (ap (λ (o : Option Entries). linked_at o (form.written name)) here.1) ∙ fresh_absent at d name is free is_a fits (laws.reads_written name is_a fits);
        lawful = laws.writes_names name is_a fits;
        new = is_new;
        few = few;
      }

  pub view-created : (at : ℕ) (d : Directory) (name : List ℕ) (place : Place) (is : Bool) → slice_get places at ≡ Some (Dir d)
      → is_dir (Some place) ≡ is → ((x : List ℕ) → node_in (Some place) x ≡ None) → foreign_at (Some place) ≡ []
      → view_of (added places at name place) (kept ++ form.written name ∷ []) (created s at (form.written name) (record { kind = kind_by is; node = length places })) ≡ linked (begun v is) at name (length places) (form.written name)
  view-created at d name place is is_d dir_is bare no_foreign =
      let here : (es : Entries) × (s at ≡ Some es) = stored at d is_d in
      view-added places kept s at d here.0 name (form.written name) place is is_d here.1 k.size is_new.no_dir dir_is bare no_foreign

  pub Keeps-created : IsForm form → (at : ℕ) (d : Directory) (name : List ℕ) (place : Place) (is : Bool) → slice_get places at ≡ Some (Dir d) → is_taken d name ≡ false → IsTrue (is_name name) → length name ≤ form.longest
      → is_dir (Some place) ≡ is → ((x : List ℕ) → node_in (Some place) x ≡ None) → foreign_at (Some place) ≡ []
      → Keeps form (added places at name place) (kept ++ form.written name ∷ []) (created s at (form.written name) (record { kind = kind_by is; node = length places }))
  Keeps-created laws at d name place is is_d free is_a fits dir_is bare no_foreign =
      let reads : form.upper (form.written name) ≡ Some name = laws.reads_written name is_a fits in
      let n : ℕ = length places in
      let lower : List ℕ = form.written name in
      let lt : at < n = slice_get_within places at (Dir d) is_d in
      let parts : (is_some (node_of name d.shown) ≡ false) × (is_blocked d name ≡ false) = or_parts (is_some (node_of name d.shown)) (is_blocked d name) free in
      let same = view-created at d name place is is_d dir_is bare no_foreign in
      let apart : at ≢ n = λ e. omega arith in
      let zero_apart : 0 ≢ n = λ e. omega arith in
      record {
        carries = subst (IsCarried form) (sym same) (IsCarried-linked form (begun v is) at name n lower (IsCarried-begun form v is k.carries)
            (cond_other at n is (is_dir (slice_get places at)) apart ∙ ap is_dir is_d)
            (ap (λ (p : Option Place). node_in p name) is_d ∙ none_is (node_of name d.shown) parts.0)
            (λ j x h. (let bad : n < n = k.carries.within j x n h in omega arith))
            (λ e. zero_apart (sym e))
            (omega arith)
            (fresh_absent at d name is_d free is_a fits reads)
            reads
            (cond_same n is (is_some (s n)) ∙ sym (cond_same n is (is_dir (slice_get places n))))
            (λ j y m h. (let less : m.node < n = k.carries.low_within j y m h in λ e. omega arith)));
        blocks = subst (Blocks form) (sym same) k.blocks;
        size = length-append kept (lower ∷ []) ∙ ap (λ (j : ℕ). j + 1) k.size ∙ sym (length-append (placed places at name n) (place ∷ []) ∙ ap (λ (j : ℕ). j + 1) (length-set places at (place_with name n (slice_get places at))));
        root = ap (λ (w : View). w.is_dir 0) same ∙ cond_other 0 n is (is_dir (slice_get places 0)) zero_apart ∙ k.root;
        rises = rises_created s at lower (record { kind = kind_by is; node = n }) (laws.writes_names name is_a fits) k.rises;
      }

  -- nothing is below a node that is shown and has nothing
  pub low_empty : (at : ℕ) (x : List ℕ) (n : ℕ) → node_in (slice_get places at) x ≡ Some n → is_bare (slice_get places n) ≡ true → (y : List ℕ) (l : Linked) → linked_at (s n) y ≡ Some l → ⊥
  low_empty at x n shown bare y l h = elim (cases_Bool (is_dir (slice_get places n))) [
    | inl t ↦ elim (k.carries.up n y l t h) [
      | inl p ↦ no_some (node_in (slice_get places n) p.0) l.node (shown_bare (slice_get places n) bare p.0) p.1
      | inr p ↦ (let none : foreign_at (slice_get places n) ≡ [] = foreign_bare (slice_get places n) bare in
          let no : Among p.0 [] = subst (λ (fs : List ForeignEntry). Among p.0 fs) none p.1 in no)
    ]
    | inr f ↦ both_ways (is_dir (slice_get places n)) f (sym (k.carries.alike at x n shown) ∙ k.carries.low_held n y l h)
  ]

  module _ (at : ℕ) (d : Directory) (name : List ℕ) (n : ℕ) (is_d : slice_get places at ≡ Some (Dir d)) (is_shown : node_of name d.shown ≡ Some n) (bare : is_bare (slice_get places n) ≡ true) where
    abbrev lower : List ℕ
    lower = get_or kept n []

    pub shown : node_in (slice_get places at) name ≡ Some n
    shown = ap (λ (p : Option Place). node_in p name) is_d ∙ is_shown

    pub apart : at ≢ n
    apart e = no_some (node_in (slice_get places at) name) n (ap (λ (j : ℕ). node_in (slice_get places j) name) e ∙ shown_bare (slice_get places n) bare name) shown

    pub is_bare_low : IsBare s (record { kind = kind_by (is_dir (slice_get places n)); node = n })
    is_bare_low h =
        let is : is_dir (slice_get places n) ≡ true = dir_kind (is_dir (slice_get places n)) h in
        let es : (es : Entries) × (s n ≡ Some es) = some_is (s n) (k.carries.dirs n is) in
        es.1 ∙ ap (λ (xs : Entries). Some xs) (no_entries es.0 (λ y m g. low_empty at name n shown bare y m (ap (λ (o : Option Entries). linked_at o y) es.1 ∙ g)))

    pub can_remove : CanRemove s at lower
    can_remove =
        let here : (es : Entries) × (s at ≡ Some es) = stored at d is_d in
        let l : Linked = record { kind = kind_by (is_dir (slice_get places n)); node = n } in
        record {
          entries = here.0;
          linked = l;
          is_dir = here.1;
          there = sym (ap (λ (o : Option Entries). linked_at o lower) here.1) ∙ k.carries.down at name n shown;
          bare = is_bare_low;
        }

    pub view-removed : view_of (removed places at name n) kept (low.removed s at lower) ≡ ended (unlinked v at name lower) n
    view-removed =
        let here : (es : Entries) × (s at ≡ Some es) = stored at d is_d in
        let t : view_of (taken_out places at name) kept (taken_from s at lower) ≡ unlinked v at name lower = view-taken places kept s at d here.0 name lower is_d here.1 in
        let within : n < length (taken_out places at name) = rw (length-set places at (place_without name (slice_get places at))) (k.carries.within at name n shown) in
        ap (λ (z : Store). view_of (removed places at name n) kept z) (removed-parts s at lower (record { kind = kind_by (is_dir (slice_get places n)); node = n }) (k.carries.down at name n shown) apart)
        ∙ view-ended (taken_out places at name) kept (taken_from s at lower) n within
        (λ x. ap (λ (w : View). w.shown n x) t ∙ none_unless _ (λ m h. no_some _ m (shown_bare (slice_get places n) bare x) (cases_out at name n x (node_in (slice_get places n) x) m h).1))
        (ap (λ (w : View). w.foreign n) t ∙ foreign_bare (slice_get places n) bare)
        (λ y. ap (λ (w : View). w.low n y) t ∙ none_unless _ (λ l h. low_empty at name n shown bare y l (cases_out at lower n y (linked_at (s n) y) l h).1))
        ∙ ap (λ (w : View). ended w n) t

    pub Keeps-removed : Keeps form (removed places at name n) kept (low.removed s at lower)
    Keeps-removed = record {
      carries = subst (IsCarried form) (sym view-removed) (IsCarried-ended form (unlinked v at name lower) n (IsCarried-unlinked form v at name lower n k.carries shown refl)
          (λ j x h. let o = cases_out at name j x (node_in (slice_get places j) x) n h in let same = k.carries.once j at x name n o.1 shown in o.0 same.0 same.1)
          (λ x m h. no_some _ m (shown_bare (slice_get places n) bare x) (cases_out at name n x (node_in (slice_get places n) x) m h).1)
          (λ y l h. low_empty at name n shown bare y l (cases_out at lower n y (linked_at (s n) y) l h).1)
          (λ j y l h e. let o = cases_out at lower j y (linked_at (s j) y) l h in
          let one = k.carries.low_once j at y lower l (record { kind = kind_by (is_dir (slice_get places n)); node = n }) o.1 (k.carries.down at name n shown) e in o.0 one.0 one.1));
      blocks = subst (Blocks form) (sym view-removed) k.blocks;
      size = k.size ∙ sym (length-set (taken_out places at name) n Nothing ∙ length-set places at (place_without name (slice_get places at)));
      root = ap (λ (w : View). w.is_dir 0) view-removed ∙ cond_other 0 n false (is_dir (slice_get places 0)) (λ e. k.carries.root at name n shown (sym e)) ∙ k.root;
      rises = rises_removed s at lower k.rises;
    }

  -- what moves, seen number by number
  pub view-moved : (at : ℕ) (was : List ℕ) (n to : ℕ) (name new : List ℕ) → node_in (slice_get places at) was ≡ Some n → is_dir (slice_get places to) ≡ true
      → view_of (placed (taken_out places at was) to name n) (slice_set kept n new) (put_into (taken_from s at (get_or kept n [])) to new (Some (record { kind = kind_by (is_dir (slice_get places n)); node = n }))) ≡ linked (unlinked v at was (get_or kept n [])) to name n new
  view-moved at was n to name new shown_was is_to =
      let lower : List ℕ = get_or kept n [] in
      let d : (d : Directory) × (slice_get places at ≡ Some (Dir d)) = dir_is (slice_get places at) (k.carries.held at was n shown_was) in
      let here : (es : Entries) × (s at ≡ Some es) = stored at d.0 d.1 in
      let t : view_of (taken_out places at was) kept (taken_from s at lower) ≡ unlinked v at was lower = view-taken places kept s at d.0 here.0 was lower d.1 here.1 in
      let e : (e : Directory) × (slice_get (taken_out places at was) to ≡ Some (Dir e)) = dir_is (slice_get (taken_out places at was) to) (ap (λ (w : View). w.is_dir to) t ∙ is_to) in
      let there : (es : Entries) × (taken_from s at lower to ≡ Some es) = some_is (taken_from s at lower to) (ap (λ (w : View). w.dir to) t ∙ k.carries.dirs to is_to) in
      let within : n < length places = k.carries.within at was n shown_was in
      ap (λ (b : Bool). view_of (placed (taken_out places at was) to name n) (slice_set kept n new) (put_into (taken_from s at lower) to new (Some (record { kind = kind_by b; node = n })))) (sym (ap (λ (w : View). w.is_dir n) t))
      ∙ view-placed (taken_out places at was) kept (taken_from s at lower) to e.0 there.0 name new n e.1 there.1 (rw k.size within) ∙ ap (λ (w : View). linked w to name n new) t

  -- an entry goes to a name that is free
  pub Keeps-moved : (at : ℕ) (was : List ℕ) (n to : ℕ) (name new : List ℕ) → node_in (slice_get places at) was ≡ Some n → is_dir (slice_get places to) ≡ true → node_in (slice_get places to) name ≡ None
      → linked_at (s to) new ≡ None → form.upper new ≡ Some name → IsTrue (is_name new)
      → Keeps form (placed (taken_out places at was) to name n) (slice_set kept n new) (put_into (taken_from s at (get_or kept n [])) to new (Some (record { kind = kind_by (is_dir (slice_get places n)); node = n })))
  Keeps-moved at was n to name new shown_was is_to free absent reads is_a =
      let lower : List ℕ = get_or kept n [] in
      let same = view-moved at was n to name new shown_was is_to in
      let within : n < length places = k.carries.within at was n shown_was in
      record {
        carries = subst (IsCarried form) (sym same) (IsCarried-linked form (unlinked v at was lower) to name n new (IsCarried-unlinked form v at was lower n k.carries shown_was refl) is_to
            (none_unless _ (λ m h. no_some _ m free (cases_out at was to name (node_in (slice_get places to) name) m h).1))
            (λ j x h. let o = cases_out at was j x (node_in (slice_get places j) x) n h in let one = k.carries.once j at x was n o.1 shown_was in o.0 one.0 one.1)
            (k.carries.root at was n shown_was)
            within
            (none_unless _ (λ l h. no_some _ l absent (cases_out at lower to new (linked_at (s to) new) l h).1))
            reads
            (k.carries.alike at was n shown_was)
            (λ j y m h e. let o = cases_out at lower j y (linked_at (s j) y) m h in
            let one = k.carries.low_once j at y lower m (record { kind = kind_by (is_dir (slice_get places n)); node = n }) o.1 (k.carries.down at was n shown_was) e in o.0 one.0 one.1));
        blocks = subst (Blocks form) (sym same) k.blocks;
        size = length-set kept n new ∙ k.size ∙ sym (length-set (taken_out places at was) to (place_with name n (slice_get (taken_out places at was) to)) ∙ length-set places at (place_without was (slice_get places at)));
        root = ap (λ (w : View). w.is_dir 0) same ∙ k.root;
        rises = rises_put (taken_from s at lower) to new (record { kind = kind_by (is_dir (slice_get places n)); node = n }) is_a (rises_taken s at lower k.rises);
      }

-- the same of equal parts
pub Keeps-same : (form : NameForm) (places ps : List Place) (kept ks : List (List ℕ)) (s t : Store) → Keeps form places kept s
    → ps ≡ places → ks ≡ kept → ((k : ℕ) → t k ≡ s k) → Keeps form ps ks t
Keeps-same form places ps kept ks s t k e f g =
    let h : t ≡ s = λ i j. g j i in
    subst (λ (z : Store). Keeps form ps ks z) (sym h) (rw (e, f) k)

-- an entry that leads to another node than the one that goes is still shown
pub is_still : (form : NameForm) (places : List Place) (kept : List (List ℕ)) (s : Store) (k : Keeps form places kept s)
    (to : ℕ) (e : Directory) (name : List ℕ) (t : ℕ) (is_e : slice_get places to ≡ Some (Dir e)) (is_t : node_of name e.shown ≡ Some t) (bare : is_bare (slice_get places t) ≡ true)
    (at : ℕ) (was : List ℕ) (n : ℕ) → node_in (slice_get places at) was ≡ Some n → t ≢ n → node_in (slice_get (removed places to name t) at) was ≡ Some n
is_still form places kept s k to e name t is_e is_t bare at was n is_n ne =
    let same = view-removed form places kept s k to e name t is_e is_t bare in
    let is_shown : node_in (slice_get places to) name ≡ Some t = shown form places kept s k to e name t is_e is_t bare in
    ap (λ (w : View). w.shown at was) same ∙ put_other to name at was None (node_in (slice_get places at) was) (Some n)
    (λ f g. ne (let a : node_in (slice_get places to) name ≡ Some n = subst (λ (z : List ℕ). node_in (slice_get places to) z ≡ Some n) g (subst (λ (j : ℕ). node_in (slice_get places j) was ≡ Some n) f is_n) in
    let both : Some t ≡ Some n = sym is_shown ∙ a in cc)) is_n

-- what takes the place of another entry, seen number by number
pub view-replaced : (form : NameForm) (places : List Place) (kept : List (List ℕ)) (s : Store) (k : Keeps form places kept s)
    (to : ℕ) (e : Directory) (name : List ℕ) (t : ℕ) (is_e : slice_get places to ≡ Some (Dir e)) (is_t : node_of name e.shown ≡ Some t) (bare : is_bare (slice_get places t) ≡ true)
    (at : ℕ) (was : List ℕ) (n : ℕ) → node_in (slice_get places at) was ≡ Some n → t ≢ n
    → view_of (moved_entry places at was n to name (Some t)) (slice_set kept n (get_or kept t [])) (put_into (taken_from (low.removed s to (get_or kept t [])) at (get_or kept n [])) to (get_or kept t []) (Some (record { kind = kind_by (is_dir (slice_get places n)); node = n })))
    ≡ linked (unlinked (ended (unlinked (view_of places kept s) to name (get_or kept t [])) t) at was (get_or kept n [])) to name n (get_or kept t [])
view-replaced form places kept s k to e name t is_e is_t bare at was n is_n ne =
    let new : List ℕ = get_or kept t [] in
    let lower : List ℕ = get_or kept n [] in
    let ps : List Place = removed places to name t in
    let r : Store = low.removed s to new in
    let k1 : Keeps form ps kept r = Keeps-removed form places kept s k to e name t is_e is_t bare in
    let same : view_of ps kept r ≡ ended (unlinked (view_of places kept s) to name new) t = view-removed form places kept s k to e name t is_e is_t bare in
    let away : to ≢ t = apart form places kept s k to e name t is_e is_t bare in
    let kind : is_dir (slice_get ps n) ≡ is_dir (slice_get places n) = ap (λ (w : View). w.is_dir n) same ∙ cond_other n t false (is_dir (slice_get places n)) (λ f. ne (sym f)) in
    subst (λ (b : Bool). view_of (moved_entry places at was n to name (Some t)) (slice_set kept n new) (put_into (taken_from r at lower) to new (Some (record { kind = kind_by b; node = n }))) ≡ linked (unlinked (ended (unlinked (view_of places kept s) to name new) t) at was lower) to name n new) kind
    (view-moved form ps kept r k1 at was n to name new
    (is_still form places kept s k to e name t is_e is_t bare at was n is_n ne)
    (ap (λ (w : View). w.is_dir to) same ∙ cond_other to t false (is_dir (slice_get places to)) away ∙ ap is_dir is_e)
    ∙ ap (λ (w : View). linked (unlinked w at was lower) to name n new) same)

-- an entry takes the place of another one, and its lower name
pub Keeps-replaced : (form : NameForm) (places : List Place) (kept : List (List ℕ)) (s : Store) (k : Keeps form places kept s)
    (to : ℕ) (e : Directory) (name : List ℕ) (t : ℕ) (is_e : slice_get places to ≡ Some (Dir e)) (is_t : node_of name e.shown ≡ Some t) (bare : is_bare (slice_get places t) ≡ true)
    (at : ℕ) (was : List ℕ) (n : ℕ) → node_in (slice_get places at) was ≡ Some n → t ≢ n
    → Keeps form (moved_entry places at was n to name (Some t)) (slice_set kept n (get_or kept t [])) (put_into (taken_from (low.removed s to (get_or kept t [])) at (get_or kept n [])) to (get_or kept t []) (Some (record { kind = kind_by (is_dir (slice_get places n)); node = n })))
Keeps-replaced form places kept s k to e name t is_e is_t bare at was n is_n ne =
    let new : List ℕ = get_or kept t [] in
    let ps : List Place = removed places to name t in
    let r : Store = low.removed s to new in
    let k1 : Keeps form ps kept r = Keeps-removed form places kept s k to e name t is_e is_t bare in
    let same : view_of ps kept r ≡ ended (unlinked (view_of places kept s) to name new) t = view-removed form places kept s k to e name t is_e is_t bare in
    let away : to ≢ t = apart form places kept s k to e name t is_e is_t bare in
    let is_shown : node_in (slice_get places to) name ≡ Some t = shown form places kept s k to e name t is_e is_t bare in
    let kind : is_dir (slice_get ps n) ≡ is_dir (slice_get places n) = ap (λ (w : View). w.is_dir n) same ∙ cond_other n t false (is_dir (slice_get places n)) (λ f. ne (sym f)) in
    subst (λ (b : Bool). Keeps form (moved_entry places at was n to name (Some t)) (slice_set kept n new) (put_into (taken_from r at (get_or kept n [])) to new (Some (record { kind = kind_by b; node = n })))) kind
    (Keeps-moved form ps kept r k1 at was n to name new
    (is_still form places kept s k to e name t is_e is_t bare at was n is_n ne)
    (ap (λ (w : View). w.is_dir to) same ∙ cond_other to t false (is_dir (slice_get places to)) away ∙ ap is_dir is_e)
    (ap (λ (w : View). w.shown to name) same ∙ put_same to name None (node_in (slice_get places to) name))
    (ap (λ (w : View). w.low to new) same ∙ put_same to new None (linked_at (s to) new))
    (k.carries.reads to name t is_shown)
    (is_name_of s to new _ k.rises (k.carries.down to name t is_shown)))

pub get_or_any : {A : Type 0} (xs : List A) (i : ℕ) (d e : A) → i < length xs → get_or xs i d ≡ get_or xs i e
get_or_any xs i d e lt = let same : Some (get_or xs i d) ≡ Some (get_or xs i e) = sym (slice_get-get_or xs i d lt) ∙ slice_get-get_or xs i e lt in cc

-- a rename onto another entry may be made
pub can_replace : (form : NameForm) (places : List Place) (kept : List (List ℕ)) (s : Store) (k : Keeps form places kept s)
    (to : ℕ) (e : Directory) (name : List ℕ) (t : ℕ) (is_e : slice_get places to ≡ Some (Dir e)) (is_t : node_of name e.shown ≡ Some t) (bare : is_bare (slice_get places t) ≡ true)
    (at : ℕ) (was : List ℕ) (n : ℕ) → node_in (slice_get places at) was ≡ Some n → t ≢ n → is_dir (slice_get places t) ≡ is_dir (slice_get places n)
    → (path : List (List ℕ)) → walk places 0 path ≡ Ok to → comes_by places n 0 path ≡ false
    → CanRename s at (get_or kept n []) to (get_or kept t [])
can_replace form places kept s k to e name t is_e is_t bare at was n is_n ne alike path reaches outside =
    let d : (d : Directory) × (slice_get places at ≡ Some (Dir d)) = dir_is (slice_get places at) (k.carries.held at was n is_n) in
    let here : (es : Entries) × (s at ≡ Some es) = stored form places kept s k at d.0 d.1 in
    let there : (es : Entries) × (s to ≡ Some es) = stored form places kept s k to e is_e in
    let is_shown : node_in (slice_get places to) name ≡ Some t = shown form places kept s k to e name t is_e is_t bare in
    let other : Linked = record { kind = kind_by (is_dir (slice_get places t)); node = t } in
    let l : Linked = record { kind = kind_by (is_dir (slice_get places n)); node = n } in
    let found : entry_at (get_or kept t []) there.0 ≡ Some other = sym (ap (λ (o : Option Entries). linked_at o (get_or kept t [])) there.1) ∙ k.carries.down to name t is_shown in
    record {
      entries = here.0;
      linked = l;
      goes_into = there.0;
      is_dir = here.1;
      there = sym (ap (λ (o : Option Entries). linked_at o (get_or kept n [])) here.1) ∙ k.carries.down at was n is_n;
      to_dir = there.1;
      lawful = is_name_of s to (get_or kept t []) other k.rises (k.carries.down to name t is_shown);
      not_inside = λ b. both_ways (comes_by places n 0 path) outside (below_comes_by form places kept s k.carries n to b path reaches);
      replaces = subst (λ (o : Option Linked). CanReplace s l o) (sym found) (ne, ap kind_by alike, is_bare_low form places kept s k to e name t is_e is_t bare);
    }

-- ---- each lower name stays the written one, or the one of the opening

-- the same of what a view shows and keeps
abbrev pub NamesAre : NameForm → View → View → Type 0
NamesAre form opening v = (k : ℕ) (x : List ℕ) (n : ℕ) → v.shown k x ≡ Some n → IsWritten form x (v.keeps n) ⊎ ((m : ℕ) × (opening.shown k x ≡ Some m) × (opening.keeps m ≡ v.keeps n))

pub NamesAre-unlinked : (form : NameForm) (opening v : View) (at : ℕ) (name lower : List ℕ) → NamesAre form opening v → NamesAre form opening (unlinked v at name lower)
NamesAre-unlinked form opening v at name _ names k x m h = names k x m (cases_out at name k x (v.shown k x) m h).1

pub NamesAre-linked : (form : NameForm) (opening v : View) (at : ℕ) (name : List ℕ) (n : ℕ) (lower : List ℕ) → NamesAre form opening v → ((k : ℕ) (x : List ℕ) → v.shown k x ≡ Some n → ⊥)
    → IsWritten form name lower ⊎ ((m : ℕ) × (opening.shown at name ≡ Some m) × (opening.keeps m ≡ lower)) → NamesAre form opening (linked v at name n lower)
NamesAre-linked form opening v at name n lower names loose own k x m h =
    elim (cases_put at name k x n (v.shown k x) m h) [
      | inl p ↦ (let kept : (linked v at name n lower).keeps m ≡ lower = ap (linked v at name n lower).keeps p.2 ∙ cond_same n lower (v.keeps n) in
          elim own [
            | inl w ↦ inl (subst (λ (z : List ℕ). length z ≤ form.longest) (sym p.1) w.0, kept ∙ w.1 ∙ ap form.written (sym p.1))
            | inr o ↦ inr (o.0, subst (λ (j : ℕ). opening.shown j x ≡ Some o.0) (sym p.0) (subst (λ (z : List ℕ). opening.shown at z ≡ Some o.0) (sym p.1) o.1), o.2 ∙ sym kept)
          ])
      | inr p ↦ (let kept : (linked v at name n lower).keeps m ≡ v.keeps m = cond_other m n lower (v.keeps m) (λ e. loose k x (subst (λ (j : ℕ). v.shown k x ≡ Some j) e p.1)) in
          elim (names k x m p.1) [ inl w ↦ inl (w.0, kept ∙ w.1) | inr o ↦ inr (o.0, o.1, o.2 ∙ sym kept) ])
    ]
