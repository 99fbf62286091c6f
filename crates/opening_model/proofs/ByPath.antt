-- What a tree over lower names keeps, told by paths of lower names alone.
use Rattle.std.proofs.Common.{◌≡◌, ℕ, ◌<◌, ◌≤◌, inl, inr, Bool, true, List, [], ◌∷◌, ◌++◌, length, get_or, Option, Some, None, Ok, IsSome, refl, sym, ap, subst, ◌∙◌, arith}
use Rattle.std.specs.Prelude.{slice_get, is_some}
use Rattle.std.specs.Option.{option_map, option_map_or, option_and_then}
use Rattle.lower_model.specs.LowerTree.{IsLowerTree}
use Rattle.lower_model.specs.declared.kind.Kind.{Kind}
use Rattle.lower_model.specs.declared.kind.Kind.TheVariants as kinds
use Rattle.lower_model.specs.declared.node.LowerNode.{LowerNode}
use Rattle.names_model.specs.declared.entry.Linked.{Linked}
use Rattle.names_model.specs.Store.{Entries, Store, linked_at, store_of}
use Rattle.names_model.specs.StoreCalls.{IsKind, IsStoreTree}
use Rattle.names_model.specs.NameForm.{NameForm}
use Rattle.names_model.specs.LowerPaths.{LowerThing, kind_of_thing, thing_of, thing_at, found, paths_of, paths_below, entry_to, files_of, root}
use Rattle.names_model.specs.LowerPaths.LowerThing.{Holds}
use Rattle.body_model.specs.LowerFile.{LowerFile}
use Rattle.names_model.specs.ShownBy.{shown_of}
use Rattle.names_model.specs.CarriedBy.{Among, Carries, CarriesDirectory, LeavesFiles, AreNames, lower_path, name_in}
use Rattle.tree_model.specs.declared.place.ForeignEntry.{ForeignEntry}
use Rattle.tree_model.specs.declared.place.Directory.{Directory}
use Rattle.tree_model.specs.declared.place.Place.{Place}
use Rattle.tree_model.specs.declared.place.Place.TheVariants.{Dir, File, Nothing}
use Rattle.tree_model.specs.Names.{node_of}
use Rattle.tree_model.specs.Walk.{walk, kind_of}
use Rattle.tree_model.specs.IsTree.{IsTree, IsNode, node_in}
use Rattle.tree_model.specs.PlainTree.{PlainTree, is_dir}
use Rattle.tree_model.proofs.Walks.{first_step, ends_at, node_from_directory}
use Rattle.namespace_model.specs.Carried.{IsForm, Keeps, AreNamed, AreBelow, foreign_at, kind_by}
use Rattle.namespace_model.proofs.Inside.{last_step}
use Rattle.opening_model.proofs.TreeFacts.{facts}
use Rattle.opening_model.proofs.StoreFacts.{linked_of}
use Rattle.opening_model.proofs.Opened.{shown_node}

-- a way that goes on
found-append : (store : Store) (l : Linked) (path more : List (List ℕ)) → found store l (path ++ more) ≡ option_and_then (λ (m : Linked). found store m more) (found store l path)
found-append store l [] more = refl
found-append store l (y ∷ path) more = by (λ m. found-append store m path more) (linked_at (store l.node) y)
  where
    by : ((m : Linked) → found store m (path ++ more) ≡ option_and_then (λ (n : Linked). found store n more) (found store m path))
        → (o : Option Linked) → option_and_then (λ (m : Linked). found store m (path ++ more)) o ≡ option_and_then (λ (m : Linked). found store m more) (option_and_then (λ (m : Linked). found store m path) o)
    by next None = refl
    by next (Some m) = next m

one_more : (o : Option Linked) → option_and_then (λ (l : Linked). Some l) o ≡ o
one_more None = refl
one_more (Some l) = refl

thing_kind : (kind : Kind) (file : LowerFile) → kind_of_thing (thing_of kind file) ≡ kind
thing_kind kinds.Dir file = refl
thing_kind kinds.File file = refl

-- files that have the same octets
same_thing : (files old : ℕ → LowerFile) (kind : Kind) (n : ℕ) → (kind ≡ kinds.File → files n ≡ old n) → thing_of kind (files n) ≡ thing_of kind (old n)
same_thing files old kinds.Dir n same = refl
same_thing files old kinds.File n same = ap (λ (file : LowerFile). Holds file) (same refl)

same_things : (files old : ℕ → LowerFile) (o : Option Linked) → ((l : Linked) → o ≡ Some l → l.kind ≡ kinds.File → files l.node ≡ old l.node) → option_map (thing_at files) o ≡ option_map (thing_at old) o
same_things files old (Some l) same = ap (λ (x : LowerThing). Some x) (same_thing files old l.kind l.node (same l refl))
same_things files old None same = refl

node_kind : (p : Option Place) → IsNode p → kind_of p ≡ Some (kind_by (is_dir p))
node_kind (Some (Dir d)) h = refl
node_kind (Some File) h = refl
node_kind (Some Nothing) h = absurd h
node_kind None h = absurd h

module _ (form : NameForm) (t : PlainTree) (kept : List (List ℕ)) (store : Store) (k : Keeps form t.places kept store) (tree : IsTree t.places) where
  abbrev names : ℕ → List ℕ
  names n = get_or kept n []

  abbrev link : ℕ → Linked
  link n = record { kind = kind_by (is_dir (slice_get t.places n)); node = n }

  -- each path leads to the same node by its lower names
  found_path : (at n : ℕ) (path : List (List ℕ)) → walk t.places at path ≡ Ok n → found store (link at) (lower_path names t.places at path) ≡ Some (link n)
  found_path at n [] h = ap (λ (m : ℕ). Some (link m)) (ends_at t.places at n h)
  found_path at n (x ∷ path) h =
      let s = first_step t.places at n x path h in
      ap (λ (o : Option ℕ). found store (link at) (option_map_or (λ (m : ℕ). names m ∷ lower_path names t.places m path) o [])) s.1
      ∙ ap (λ (o : Option Linked). option_and_then (λ (l : Linked). found store l (lower_path names t.places s.0 path)) o) (k.carries.down at x s.0 s.1)
      ∙ found_path s.0 n path s.2

  root_is : link 0 ≡ root
  root_is = ap (λ (b : Bool). record { kind = kind_by b; node = 0 }) k.root

  from_root : (path : List (List ℕ)) (n : ℕ) → walk t.places 0 path ≡ Ok n → found store root (lower_path names t.places 0 path) ≡ Some (link n)
  from_root path n h = ap (λ (l : Linked). found store l (lower_path names t.places 0 path)) (sym root_is) ∙ found_path 0 n path h

  is_node : (path : List (List ℕ)) (n : ℕ) → walk t.places 0 path ≡ Ok n → IsNode (slice_get t.places n)
  is_node path n h = elim (last_step t.places 0 path n h) [
    | inl e ↦ subst (λ (j : ℕ). IsNode (slice_get t.places j)) e.1 (node_from_directory (slice_get t.places 0) tree.root)
    | inr s ↦ tree.there s.from s.name n s.shows
  ]

  -- what stands behind a directory's path
  behind_path : (path : List (List ℕ)) (n : ℕ) (d : Directory) (more : List (List ℕ)) → walk t.places 0 path ≡ Ok n → slice_get t.places n ≡ Some (Dir d) → found store root (lower_path names t.places 0 path ++ more) ≡ found store (record { kind = kinds.Dir; node = n }) more
  behind_path path n d more h is =
      found-append store root (lower_path names t.places 0 path) more
      ∙ ap (λ (o : Option Linked). option_and_then (λ (m : Linked). found store m more) o) (from_root path n h)
      ∙ ap (λ (p : Option Place). found store (record { kind = kind_by (is_dir p); node = n }) more) is

  module _ (files : ℕ → LowerFile) where
    -- what a lower name leads to in a directory
    name_behind : (path : List (List ℕ)) (n : ℕ) (d : Directory) (y : List ℕ) → walk t.places 0 path ≡ Ok n → slice_get t.places n ≡ Some (Dir d)
        → paths_of store files (lower_path names t.places 0 path ++ y ∷ []) ≡ option_map (thing_at files) (linked_at (store n) y)
    name_behind path n d y h is = ap (option_map (thing_at files)) (behind_path path n d (y ∷ []) h is ∙ one_more (linked_at (store n) y))

    thing_there : (o : Option Linked) → IsSome (option_map (thing_at files) o) → (l : Linked) × (o ≡ Some l)
    thing_there (Some l) h = (l, refl)
    thing_there None h = absurd cc

    carries_directory : (path : List (List ℕ)) (n : ℕ) (d : Directory) → walk t.places 0 path ≡ Ok n → slice_get t.places n ≡ Some (Dir d) → CarriesDirectory form names (paths_of store files) (lower_path names t.places 0 path) d
    carries_directory path n d h is =
        let shown : (x : List ℕ) (m : ℕ) → node_of x d.shown ≡ Some m → node_in (slice_get t.places n) x ≡ Some m = λ x m e. ap (λ (p : Option Place). node_in p x) is ∙ e in
        let foreign : (f : ForeignEntry) → Among f d.foreign → Among f (foreign_at (slice_get t.places n)) = λ f a. subst (λ (p : Option Place). Among f (foreign_at p)) (sym is) a in
        record {
          stands = λ x m e. k.carries.reads n x m (shown x m e);
          foreign = λ f a. (let l = k.carries.foreign n f (foreign f a) in subst IsSome (sym (name_behind path n d f.lower h is ∙ ap (option_map (thing_at files)) l.1)) refl);
          apart = λ x m f e a. k.carries.apart n x m f (shown x m e) (foreign f a);
          no_other = λ y there. (let l = thing_there (linked_at (store n) y) (subst IsSome (name_behind path n d y h is) there) in
              elim (k.carries.up n y l.0 (ap is_dir is) l.1) [
                | inl s ↦ inl (s.0, l.0.node, sym (ap (λ (p : Option Place). node_in p s.0) is) ∙ s.1, s.2)
                | inr f ↦ inr (f.0, subst (λ (p : Option Place). Among f.0 (foreign_at p)) is f.1, f.2)
              ]);
        }

    -- the lower tree carries the plain tree
    pub carries_tree : Carries form t names (paths_of store files)
    carries_tree = record {
      kinds = λ path n h. ap (λ (o : Option Linked). option_map kind_of_thing (option_map (thing_at files) o)) (from_root path n h) ∙ ap (λ (kd : Kind). Some kd) (thing_kind (kind_by (is_dir (slice_get t.places n))) (files n)) ∙ sym (node_kind (slice_get t.places n) (is_node path n h));
      directories = carries_directory;
    }

  -- a file of the plain tree is found by its lower names
  pub holds_files : (files : ℕ → LowerFile) (path : List (List ℕ)) (n : ℕ) → walk t.places 0 path ≡ Ok n → slice_get t.places n ≡ Some File → paths_of store files (lower_path names t.places 0 path) ≡ Some (Holds (files n))
  holds_files files path n h is = ap (option_map (thing_at files)) (from_root path n h) ∙ ap (λ (p : Option Place). Some (thing_of (kind_by (is_dir p)) (files n))) is

  -- what lies below foreign entries is as it was in a lower tree, where these files are
  module _ (nodes : List LowerNode) (below : AreBelow (store_of nodes) t.places store) where
    old_link : (n : ℕ) (f : ForeignEntry) → Among f (foreign_at (slice_get t.places n)) → (l : Linked) × (linked_at (store_of nodes n) f.lower ≡ Some l) × (l.node ≡ f.node)
    old_link n f among =
        let l = k.carries.foreign n f among in
        (l.0, sym (one_more (linked_at (store_of nodes n) f.lower)) ∙ sym (below.below n f among []) ∙ one_more (linked_at (store n) f.lower) ∙ l.1, l.2)

    entry_is : (n : ℕ) (y : List ℕ) (l : Linked) → linked_at (store_of nodes n) y ≡ Some l → entry_to nodes l.node ≡ Some l
    entry_is n y l h =
        let o = (linked_of nodes n y l h).1 in
        let kind : o.x.kind ≡ l.kind = o.kind in
        ap (option_map (λ (x : LowerNode). record { kind = x.kind; node = l.node })) o.at ∙ ap (λ (kd : Kind). Some (record { kind = kd; node = l.node })) kind

    pub keeps_foreign : (files : ℕ → LowerFile)
        → ((n : ℕ) (f : ForeignEntry) → Among f (foreign_at (slice_get t.places n)) → (path : List (List ℕ)) (l : Linked) → found (store_of nodes) (record { kind = kinds.Dir; node = n }) (f.lower ∷ path) ≡ Some l
        → l.kind ≡ kinds.File → files l.node ≡ files_of nodes l.node)
        → (path : List (List ℕ)) (n : ℕ) (d : Directory) (f : ForeignEntry) → walk t.places 0 path ≡ Ok n → slice_get t.places n ≡ Some (Dir d) → Among f d.foreign
        → (more : List (List ℕ)) → paths_of store files (lower_path names t.places 0 path ++ f.lower ∷ more) ≡ paths_below nodes f.node more
    keeps_foreign files same path n d f h is among more =
        let here : Among f (foreign_at (slice_get t.places n)) = subst (λ (p : Option Place). Among f (foreign_at p)) (sym is) among in
        let l = old_link n f here in
        ap (option_map (thing_at files)) (behind_path path n d (f.lower ∷ more) h is ∙ below.below n f here more)
        ∙ same_things files (files_of nodes) (found (store_of nodes) (record { kind = kinds.Dir; node = n }) (f.lower ∷ more)) (same n f here more)
        ∙ ap (option_map (thing_at (files_of nodes))) (ap (λ (o : Option Linked). option_and_then (λ (m : Linked). found (store_of nodes) m more) o) l.1)
        ∙ sym (ap (λ (j : ℕ). paths_below nodes j more) (sym l.2)
        ∙ ap (option_and_then (λ (m : Linked). option_map (thing_at (files_of nodes)) (found (store_of nodes) m more))) (entry_is n f.lower l.0 l.1))

    -- what is left of the lower tree, where each file may be left so
    pub leaves_files : (MayHold : ℕ → LowerFile → Type 0) (files : ℕ → LowerFile) → ((n : ℕ) → slice_get t.places n ≡ Some File → MayHold n (files n))
        → ((n : ℕ) (f : ForeignEntry) → Among f (foreign_at (slice_get t.places n)) → (path : List (List ℕ)) (l : Linked) → found (store_of nodes) (record { kind = kinds.Dir; node = n }) (f.lower ∷ path) ≡ Some l
        → l.kind ≡ kinds.File → files l.node ≡ files_of nodes l.node)
        → LeavesFiles MayHold t names nodes (paths_of store files)
    leaves_files MayHold files may same = record { files = λ path n h is. (files n, holds_files files path n h is, may n is); foreign = keeps_foreign files same }

  -- the lower names are the written ones, or those of the lower tree
  pub are_names : IsForm form → (nodes : List LowerNode) → IsLowerTree nodes → (first : List (List ℕ))
      → ((i : ℕ) (x : LowerNode) → 1 ≤ i → IsNode (slice_get (shown_of form nodes).places i) → slice_get nodes i ≡ Some x → get_or first i [] ≡ x.name)
      → AreNamed form (shown_of form nodes).places first t.places kept → AreNames form t names nodes
  are_names laws nodes lawful first own named path n d x m h is shown =
      elim (named.named n x m (ap (λ (p : Option Place). node_in p x) is ∙ shown)) [
        | inl w ↦ inl w
        | inr o ↦ (let y = shown_node form laws nodes (facts nodes lawful) n x o.0 o.1 in
            inr (o.0, o.1, ap name_in y.1 ∙ ap (λ (z : List ℕ). Some z) (sym (own o.0 y.0 y.2 y.3 y.1) ∙ o.2)))
      ]

  -- the store is a tree
  pub store_tree : IsStoreTree store
  store_tree = record {
    root = dir_kind (store 0) (k.carries.dirs 0 k.root);
    rising = k.rises.rising;
    no_root = k.carries.low_root;
    kinds = λ j y l h. rw (k.carries.low_kinds j y l h) (own_kind (store l.node));
    once = k.carries.low_once;
    few = λ j y l h. (let lt : l.node < length t.places = k.carries.low_within j y l h in let few = tree.few in omega arith);
  }
    where
      dir_kind : (o : Option Entries) → is_some o ≡ true → IsKind kinds.Dir o
      dir_kind (Some es) h = tt
      dir_kind None h = absurd cc

      own_kind : (o : Option Entries) → IsKind (kind_by (is_some o)) o
      own_kind (Some es) = tt
      own_kind None = tt
