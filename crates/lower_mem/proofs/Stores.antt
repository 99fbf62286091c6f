-- The stores of names in memory behind the changes of their places.
use Rattle.std.proofs.Common.{◌≡◌, ◌≢◌, ℕ, ◌<◌, cond, inl, inr, true, false, List, [], ◌++◌, length, Option, Some, None, refl, sym, ap, subst, ◌∙◌, replicate}
use Rattle.std.specs.Prelude.{◌==◌, slice_get, slice_set}
use Rattle.std.proofs.lemmas.Option.{slice_get_within}
use Rattle.std.proofs.lemmas.Bool.Decides.{eqb_tells}
use Rattle.lower_model.specs.declared.kind.Kind.{Kind}
use Rattle.lower_model.specs.declared.kind.Kind.TheVariants as kinds
use Rattle.tree_model.specs.declared.place.Directory.{Directory}
use Rattle.tree_model.specs.declared.place.Place.{Place}
use Rattle.tree_model.specs.declared.place.Place.TheVariants.{Dir, File, Nothing}
use Rattle.tree_model.specs.Names.{put_entry, without, node_of, RisesBehind}
use Rattle.tree_model.specs.Walk.{kind_of}
use Rattle.tree_model.specs.PlainTree.{kind_or_file, begun, place_with, place_without, placed, taken_out, removed}
use Rattle.tree_model.specs.IsTree.{IsTree, IsDirectory, node_in}
use Rattle.tree_model.proofs.Walks.{shows_in_directory}
use Rattle.plain_tree.proofs.Places.{slice_get-set}
use Rattle.plain_tree.proofs.IsTreeLemmas.{slice_get-grown}
use Rattle.plain_tree.proofs.Changes.{entry-out, is_forest_out}
use Rattle.names_model.specs.declared.entry.Linked.{Linked}
use Rattle.names_model.specs.Store.{Entries, entries_if}
use Rattle.names_model.specs.StoreCalls as calls
use Rattle.lower_mem.specs.Names.{link, links_in, store_in, HasNoForeign}
use Rattle.lower_mem.proofs.Entries.{all_found, links_same, links_all, links-without, links-put, linked_shown}

-- ---- one place set

-- What stands at a number behind a place that was set.
data AtSet (xs : List Place) (i : ℕ) (v : Place) (k : ℕ) : Type 0 where
  Here : k ≡ i → (k == i) ≡ true → slice_get (slice_set xs i v) k ≡ Some v → AtSet xs i v k
  Other : (k ≢ i) → (k == i) ≡ false → slice_get (slice_set xs i v) k ≡ slice_get xs k → AtSet xs i v k

at_set : (xs : List Place) (i : ℕ) (v : Place) → i < length xs → (k : ℕ) → AtSet xs i v k
at_set xs i v lt k = elim (eqb_tells k i) [
  | inl e ↦ Here e.1 e.0 (slice_get-set xs i k v lt ∙ rw e.0 refl)
  | inr e ↦ Other e.1 e.0 (slice_get-set xs i k v lt ∙ rw e.0 refl)
]

within : (places : List Place) (k : ℕ) (p : Option Place) → slice_get places k ≡ p → IsDirectory p → k < length places
within places k (Some q) e h = slice_get_within places k q e
within places k None e h = absurd h

-- what is kept by a change of one place, whose new place keeps it
set_keeps : (P : ℕ → Option Place → Type 0) (xs : List Place) (i : ℕ) (v : Place) → i < length xs → P i (Some v) → (k : ℕ) → P k (slice_get xs k) → P k (slice_get (slice_set xs i v) k)
set_keeps P xs i v lt here k h = elim (at_set xs i v lt k) [
  | Here same t get ↦ subst (λ (o : Option Place). P k o) (sym get) (subst (λ (j : ℕ). P j (Some v)) (sym same) here)
  | Other apart f get ↦ subst (λ (o : Option Place). P k o) (sym get) h
]

abbrev pub HasKind : List Place → List Place → Type 0
HasKind old new = (n : ℕ) → kind_of (slice_get new n) ≡ kind_of (slice_get old n)

kinds_set : (xs : List Place) (i : ℕ) (v : Place) → i < length xs → kind_of (Some v) ≡ kind_of (slice_get xs i) → HasKind xs (slice_set xs i v)
kinds_set xs i v lt same n = set_keeps (λ j o. kind_of o ≡ kind_of (slice_get xs j)) xs i v lt same n refl

-- ---- no foreign entries

foreign_set : (xs : List Place) (i : ℕ) (v : Place) → i < length xs → HasNoForeign xs → ((d : Directory) → Some v ≡ Some (Dir d) → d.foreign ≡ []) → HasNoForeign (slice_set xs i v)
foreign_set xs i v lt none here k d = set_keeps (λ j o. o ≡ Some (Dir d) → d.foreign ≡ []) xs i v lt (here d) k (none k d)

foreign_without : (p : Option Place) (name : List ℕ) (d : Directory) → ((e : Directory) → p ≡ Some (Dir e) → e.foreign ≡ []) → Some (place_without name p) ≡ Some (Dir d) → d.foreign ≡ []
foreign_without (Some (Dir e)) name d none is = (let same : record e { shown = without name e.shown } ≡ d = cc in subst (λ (x : Directory). x.foreign ≡ []) same (none e refl))
foreign_without (Some File) name d none is = absurd cc
foreign_without (Some Nothing) name d none is = absurd cc
foreign_without None name d none is = absurd cc

foreign_with : (p : Option Place) (name : List ℕ) (node : ℕ) (d : Directory) → ((e : Directory) → p ≡ Some (Dir e) → e.foreign ≡ []) → Some (place_with name node p) ≡ Some (Dir d) → d.foreign ≡ []
foreign_with (Some (Dir e)) name node d none is = (let same : record e { shown = put_entry e.shown name node } ≡ d = cc in subst (λ (x : Directory). x.foreign ≡ []) same (none e refl))
foreign_with (Some File) name node d none is = absurd cc
foreign_with (Some Nothing) name node d none is = absurd cc
foreign_with None name node d none is = absurd cc

pub foreign_taken : (places : List Place) (at : ℕ) (name : List ℕ) → IsDirectory (slice_get places at) → HasNoForeign places → HasNoForeign (taken_out places at name)
foreign_taken places at name dir none =
    foreign_set places at (place_without name (slice_get places at)) (within places at (slice_get places at) refl dir) none (λ d. foreign_without (slice_get places at) name d (none at))

pub foreign_placed : (places : List Place) (at : ℕ) (name : List ℕ) (node : ℕ) → IsDirectory (slice_get places at) → HasNoForeign places → HasNoForeign (placed places at name node)
foreign_placed places at name node dir none =
    foreign_set places at (place_with name node (slice_get places at)) (within places at (slice_get places at) refl dir) none (λ d. foreign_with (slice_get places at) name node d (none at))

-- ---- more numbers

pub store_grown : (places : List Place) (n k : ℕ) → store_in (places ++ replicate n Nothing) k ≡ store_in places k
store_grown places n k = same_at k ∙ links_same_kinds (slice_get places k)
  where
    new : List Place
    new = places ++ replicate n Nothing

    kinds_same : HasKind places (places ++ replicate n Nothing)
    kinds_same m = elim (slice_get-grown places n m) [
      | inl same ↦ ap kind_of same
      | inr fresh ↦ ap kind_of fresh.0 ∙ sym (ap kind_of fresh.1)
    ]

    same_at : (m : ℕ) → links_in (places ++ replicate n Nothing) (slice_get (places ++ replicate n Nothing) m) ≡ links_in (places ++ replicate n Nothing) (slice_get places m)
    same_at m = elim (slice_get-grown places n m) [
      | inl same ↦ ap (links_in (places ++ replicate n Nothing)) same
      | inr fresh ↦ ap (links_in (places ++ replicate n Nothing)) fresh.0 ∙ sym (ap (links_in (places ++ replicate n Nothing)) fresh.1)
    ]

    links_same_kinds : (p : Option Place) → links_in (places ++ replicate n Nothing) p ≡ links_in places p
    links_same_kinds (Some (Dir d)) = ap (λ (es : Entries). Some es) (links_all places (places ++ replicate n Nothing) d.shown kinds_same)
    links_same_kinds (Some File) = refl
    links_same_kinds (Some Nothing) = refl
    links_same_kinds None = refl

pub foreign_grown : (places : List Place) (n : ℕ) → HasNoForeign places → HasNoForeign (places ++ replicate n Nothing)
foreign_grown places n none k d is = elim (slice_get-grown places n k) [
  | inl same ↦ none k d (sym same ∙ is)
  | inr fresh ↦ (let no : Some Nothing ≡ Some (Dir d) = sym fresh.0 ∙ is in absurd cc)
]

-- ---- an entry less, or more

links_in_all : (old new : List Place) → HasKind old new → (p : Option Place) → links_in new p ≡ links_in old p
links_in_all old new same (Some (Dir d)) = ap (λ (es : Entries). Some es) (links_all old new d.shown same)
links_in_all old new same (Some File) = refl
links_in_all old new same (Some Nothing) = refl
links_in_all old new same None = refl

kind_without : (p : Option Place) (name : List ℕ) → IsDirectory p → kind_of (Some (place_without name p)) ≡ kind_of p
kind_without (Some (Dir d)) name h = refl
kind_without (Some File) name h = absurd h
kind_without (Some Nothing) name h = absurd h
kind_without None name h = absurd h

kind_with : (p : Option Place) (name : List ℕ) (node : ℕ) → IsDirectory p → kind_of (Some (place_with name node p)) ≡ kind_of p
kind_with (Some (Dir d)) name node h = refl
kind_with (Some File) name node h = absurd h
kind_with (Some Nothing) name node h = absurd h
kind_with None name node h = absurd h

links_in-without : (places : List Place) (p : Option Place) (name : List ℕ) → IsDirectory p → links_in places (Some (place_without name p)) ≡ calls.without_name name (links_in places p)
links_in-without places (Some (Dir d)) name h = ap (λ (es : Entries). Some es) (links-without places name d.shown)
links_in-without places (Some File) name h = absurd h
links_in-without places (Some Nothing) name h = absurd h
links_in-without places None name h = absurd h

links_in-with : (places : List Place) (p : Option Place) (name : List ℕ) (node : ℕ) → IsDirectory p → links_in places (Some (place_with name node p)) ≡ calls.with_name name (Some (link places node)) (links_in places p)
links_in-with places (Some (Dir d)) name node h = ap (λ (es : Entries). Some es) (links-put places name node d.shown)
links_in-with places (Some File) name node h = absurd h
links_in-with places (Some Nothing) name node h = absurd h
links_in-with places None name node h = absurd h

pub kinds_taken : (places : List Place) (at : ℕ) (name : List ℕ) → IsDirectory (slice_get places at) → HasKind places (taken_out places at name)
kinds_taken places at name dir = kinds_set places at (place_without name (slice_get places at)) (within places at (slice_get places at) refl dir) (kind_without (slice_get places at) name dir)

kinds_placed : (places : List Place) (at : ℕ) (name : List ℕ) (node : ℕ) → IsDirectory (slice_get places at) → HasKind places (placed places at name node)
kinds_placed places at name node dir = kinds_set places at (place_with name node (slice_get places at)) (within places at (slice_get places at) refl dir) (kind_with (slice_get places at) name node dir)

pub store_taken : (places : List Place) (at : ℕ) (name : List ℕ) → IsDirectory (slice_get places at) → (k : ℕ) → store_in (taken_out places at name) k ≡ calls.taken_from (store_in places) at name k
store_taken places at name dir k =
    links_in_all places (taken_out places at name) (kinds_taken places at name dir) (slice_get (taken_out places at name) k)
    ∙ elim (at_set places at (place_without name (slice_get places at)) (within places at (slice_get places at) refl dir) k) [
      | Here same t get ↦ ap (links_in places) get ∙ links_in-without places (slice_get places at) name dir ∙ ap (λ (j : ℕ). calls.without_name name (store_in places j)) (sym same) ∙ rw t refl
      | Other apart f get ↦ ap (links_in places) get ∙ rw f refl
    ]

pub store_placed : (places : List Place) (at : ℕ) (name : List ℕ) (node : ℕ) → IsDirectory (slice_get places at) → (k : ℕ) → store_in (placed places at name node) k ≡ calls.put_into (store_in places) at name (Some (link places node)) k
store_placed places at name node dir k =
    links_in_all places (placed places at name node) (kinds_placed places at name node dir) (slice_get (placed places at name node) k)
    ∙ elim (at_set places at (place_with name node (slice_get places at)) (within places at (slice_get places at) refl dir) k) [
      | Here same t get ↦ ap (links_in places) get ∙ links_in-with places (slice_get places at) name node dir ∙ ap (λ (j : ℕ). calls.with_name name (Some (link places node)) (store_in places j)) (sym same) ∙ rw t refl
      | Other apart f get ↦ ap (links_in places) get ∙ rw f refl
    ]

-- ---- a node less, or more

-- Names rise, and no entry leads to this node.
pub record IsLoose (places : List Place) (node : ℕ) : Type 0 where
  pub ordered : (k : ℕ) (d : Directory) → slice_get places k ≡ Some (Dir d) → RisesBehind [] d.shown
  pub loose : (k : ℕ) (x : List ℕ) → node_in (slice_get places k) x ≡ Some node → ⊥

-- places that are the same but for one
abbrev SameBut : List Place → List Place → ℕ → Type 0
SameBut old new node = (n : ℕ) → n ≢ node → kind_of (slice_get new n) ≡ kind_of (slice_get old n)

links_in_but : (old new : List Place) (node : ℕ) → IsLoose old node → SameBut old new node → (k : ℕ) (p : Option Place) → slice_get old k ≡ p → links_in new p ≡ links_in old p
links_in_but old new node l same k (Some (Dir d)) is =
    let apart : (x : List ℕ) (n : ℕ) → node_of x d.shown ≡ Some n → n ≢ node = λ x n shown e. l.loose k x (ap (λ (p : Option Place). node_in p x) is ∙ shown ∙ ap (λ (m : ℕ). Some m) e) in
    ap (λ (es : Entries). Some es) (links_same old new d.shown (all_found (λ n. kind_of (slice_get new n) ≡ kind_of (slice_get old n)) [] d.shown (l.ordered k d is) (λ x n shown. same n (apart x n shown))))
links_in_but old new node l same k (Some File) is = refl
links_in_but old new node l same k (Some Nothing) is = refl
links_in_but old new node l same k None is = refl

kinds_but : (places : List Place) (node : ℕ) (p : Place) → node < length places → SameBut places (slice_set places node p) node
kinds_but places node p lt n apart = elim (at_set places node p lt n) [
  | Here same t get ↦ absurd (apart same)
  | Other ne f get ↦ ap kind_of get
]

store_ended : (places : List Place) (node : ℕ) → node < length places → IsLoose places node → (k : ℕ) → store_in (slice_set places node Nothing) k ≡ cond (k == node) None (store_in places k)
store_ended places node lt l k = elim (at_set places node Nothing lt k) [
  | Here same t get ↦ ap (links_in (slice_set places node Nothing)) get ∙ rw t refl
  | Other apart f get ↦ ap (links_in (slice_set places node Nothing)) get ∙ links_in_but places (slice_set places node Nothing) node l (kinds_but places node Nothing lt) k (slice_get places k) refl ∙ rw f refl
]

-- an entry and its node, which is bare, are gone
module _ (places : List Place) (dir : ℕ) (name : List ℕ) (node : ℕ) (tree : IsTree places) (there : node_in (slice_get places dir) name ≡ Some node) (apart : dir ≢ node) (lt : node < length (taken_out places dir name)) where
  directory : IsDirectory (slice_get places dir)
  directory = shows_in_directory (slice_get places dir) name node there

  loose_out : IsLoose (taken_out places dir name) node
  loose_out = record {
    ordered = (is_forest_out places dir name directory (record { few = tree.few; root = tree.root; ordered = tree.ordered; there = tree.there; no_root = tree.no_root; once = tree.once })).ordered;
    loose = λ k x h. (let old = entry-out places dir name directory k x node h in let same = tree.once k dir x name node old.0 there in old.1 same.0 same.1);
  }

  removed_at : (k : ℕ) → cond (k == node) None (calls.taken_from (store_in places) dir name k) ≡ calls.removed (store_in places) dir name k
  removed_at k = elim (eqb_tells k dir) [
    | inl e ↦ elim (eqb_tells k node) [
      | inl f ↦ absurd (apart (sym e.1 ∙ f.1))
      | inr f ↦ rw (e.0, f.0) refl
    ]
    | inr e ↦ rw (e.0, linked_shown places (slice_get places dir) name node there) refl
  ]

  pub store_removed : (k : ℕ) → store_in (removed places dir name node) k ≡ calls.removed (store_in places) dir name k
  store_removed k =
      store_ended (taken_out places dir name) node lt loose_out k
      ∙ ap (cond (k == node) None) (store_taken places dir name directory k)
      ∙ removed_at k

  pub foreign_removed : HasNoForeign places → HasNoForeign (removed places dir name node)
  foreign_removed none = foreign_set (taken_out places dir name) node Nothing lt (foreign_taken places dir name directory none) (λ d is. absurd cc)

  -- every other node stays what it is
  pub kind_removed : (n : ℕ) → n ≢ node → kind_of (slice_get (removed places dir name node) n) ≡ kind_of (slice_get places n)
  kind_removed n ne = kinds_but (taken_out places dir name) node Nothing lt n ne ∙ kinds_taken places dir name directory n

-- an entry with a new node
module _ (places : List Place) (dir : ℕ) (name : List ℕ) (node : ℕ) (kind : Kind) (at_dir : IsDirectory (slice_get places dir)) (nothing : slice_get places node ≡ Some Nothing) (l : IsLoose places node) where
  abbrev with_entry : List Place
  with_entry = placed places dir name node

  abbrev new_places : List Place
  new_places = slice_set with_entry node (begun kind)

  dir_apart : dir ≢ node
  dir_apart e = subst IsDirectory (ap (slice_get places) e ∙ nothing) at_dir

  in_dir : dir < length places
  in_dir = within places dir (slice_get places dir) refl at_dir

  node_at : slice_get with_entry node ≡ Some Nothing
  node_at = elim (at_set places dir (place_with name node (slice_get places dir)) in_dir node) [
    | Here same t get ↦ absurd (dir_apart (sym same))
    | Other apart f get ↦ get ∙ nothing
  ]

  node_in_it : node < length with_entry
  node_in_it = slice_get_within with_entry node Nothing node_at

  new_but : SameBut places new_places node
  new_but n apart = kinds_but with_entry node (begun kind) node_in_it n apart ∙ kinds_placed places dir name node at_dir n

  kind_begun : (k : Kind) → kind_of (Some (begun k)) ≡ Some k
  kind_begun kinds.Dir = refl
  kind_begun kinds.File = refl

  links_begun : (ps : List Place) (k : Kind) → links_in ps (Some (begun k)) ≡ entries_if k []
  links_begun ps kinds.Dir = refl
  links_begun ps kinds.File = refl

  abbrev new_link : Linked
  new_link = record { kind = kind; node = node }

  link_new : link new_places node ≡ new_link
  link_new = elim (at_set with_entry node (begun kind) node_in_it node) [
    | Here same t get ↦ (let is : kind_of (slice_get new_places node) ≡ Some kind = ap kind_of get ∙ kind_begun kind in ap (λ o. let x : Linked = record { kind = kind_or_file o; node = node } in x) is)
    | Other apart f get ↦ absurd (apart refl)
  ]

  pub store_entered : (k : ℕ) → store_in new_places k ≡ calls.created (store_in places) dir name new_link k
  store_entered k = elim (at_set with_entry node (begun kind) node_in_it k) [
    | Here same t get ↦ (let other : (k == dir) ≡ false = not_dir same in ap (links_in new_places) get ∙ links_begun new_places kind ∙ rw (other, t) refl)
    | Other apart f get ↦ ap (links_in new_places) get ∙ elim (at_set places dir (place_with name node (slice_get places dir)) in_dir k) [
      | Here same t at ↦ ap (links_in new_places) at ∙ links_in-with new_places (slice_get places dir) name node at_dir
          ∙ ap (λ (x : Linked). calls.with_name name (Some x) (links_in new_places (slice_get places dir))) link_new
          ∙ ap (calls.with_name name (Some new_link)) (links_in_but places new_places node l new_but dir (slice_get places dir) refl)
          ∙ ap (λ (j : ℕ). calls.with_name name (Some new_link) (store_in places j)) (sym same) ∙ rw t refl
      | Other ne g at ↦ ap (links_in new_places) at ∙ links_in_but places new_places node l new_but k (slice_get places k) refl ∙ rw (g, f) refl
    ]
  ]
    where
      not_dir : k ≡ node → (k == dir) ≡ false
      not_dir same = elim (eqb_tells k dir) [
        | inl e ↦ absurd (dir_apart (sym e.1 ∙ same))
        | inr e ↦ e.0
      ]

  pub foreign_entered : HasNoForeign places → HasNoForeign new_places
  foreign_entered none = foreign_set with_entry node (begun kind) node_in_it (foreign_placed places dir name node at_dir none) (λ d is. empty kind d is)
    where
      empty : (k : Kind) (d : Directory) → Some (begun k) ≡ Some (Dir d) → d.foreign ≡ []
      empty kinds.Dir d is = (let same : record { shown = []; foreign = [] } ≡ d = cc in subst (λ (x : Directory). x.foreign ≡ []) same refl)
      empty kinds.File d is = absurd cc
