-- The changes of a tree leave a tree.
use Rattle.std.proofs.Common.{◌≡◌, ◌≢◌, ℕ, ◌<◌, ◌≤◌, cond, ◌⊎◌, inl, inr, Bool, true, false, List, [], ◌∷◌, ◌++◌, length, Option, Some, None, Ok, refl, sym, ap, subst, ◌∙◌, arith}
use Rattle.std.specs.Prelude.{◌==◌, ◌&&◌, IsTrue, slice_get, slice_set}
use Rattle.std.proofs.lemmas.List.{length-set}
use Rattle.std.proofs.lemmas.Option.{slice_get_within}
use Rattle.std.proofs.lemmas.Bool.{cases_Bool, false≢true, true≢false}
use Rattle.std.proofs.lemmas.Bool.Decides.{eqb_tells}
use Rattle.lower_model.specs.Name.{is_name}
use Rattle.tree_model.specs.declared.change.Moving.{Moving}
use Rattle.tree_model.specs.declared.change.Change.{Change}
use Rattle.tree_model.specs.declared.change.Change.TheVariants.{Make, Remove, Move}
use Rattle.tree_model.specs.declared.place.ForeignEntry.{ForeignEntry}
use Rattle.plain_tree.specs.Entered.{place_with_foreign}
use Rattle.tree_model.specs.declared.place.Directory.{Directory}
use Rattle.tree_model.specs.declared.place.Place.{Place}
use Rattle.tree_model.specs.declared.place.Place.TheVariants.{Dir, File, Nothing}
use Rattle.tree_model.specs.Names.{is_named, node_of, put_entry, without, RisesBehind}
use Rattle.tree_model.specs.Walk.{walk, comes_by}
use Rattle.tree_model.specs.PlainTree.{PlainTree, most_nodes, shown_in, place_with, place_without, placed, taken_out, removed, cleared, moved, changed_places, is_dir, is_bare, is_empty}
use Rattle.tree_model.specs.IsTree.{IsTree, IsDirectory, IsNode, node_in}
use Rattle.tree_model.proofs.NameLemmas.{is_named_is, is_named_same, entry_at-put_entry, entry_at-without, comes_behind_nothing, RisesBehind-put_entry, RisesBehind-without}
use Rattle.tree_model.proofs.Walks.{shows_in_directory, node_from_directory, KeepsOthers, first_step, step_first, ends_at, walk_on, walk_from, walk_stays, walk_kept, walk_around, comes_by_same}
use Rattle.plain_tree.specs.Prepared.{Replaces, CanMove, CanChange, MayClear, MayChange, IsLawful}
use Rattle.plain_tree.proofs.Places.{slice_get-set}
use Rattle.plain_tree.proofs.IsTreeLemmas.{the_directory, is_tree_added}

-- A tree, but for nodes that no path leads to.
pub record IsForest (places : List Place) : Type 0 where
  pub few : length places ≤ most_nodes
  pub root : IsDirectory (slice_get places 0)
  pub ordered : (k : ℕ) (d : Directory) → slice_get places k ≡ Some (Dir d) → RisesBehind [] d.shown
  pub there : (k : ℕ) (name : List ℕ) (n : ℕ) → node_in (slice_get places k) name ≡ Some n → IsNode (slice_get places n)
  pub no_root : (k : ℕ) (name : List ℕ) (n : ℕ) → node_in (slice_get places k) name ≡ Some n → n ≢ 0
  pub once : (j k : ℕ) (a b : List ℕ) (n : ℕ) → node_in (slice_get places j) a ≡ Some n → node_in (slice_get places k) b ≡ Some n → (j ≡ k) × (a ≡ b)

forest_of : (places : List Place) → IsTree places → IsForest places
forest_of places tree = record { few = tree.few; root = tree.root; ordered = tree.ordered; there = tree.there; no_root = tree.no_root; once = tree.once }

tree_of : (places : List Place) → IsForest places → ((n : ℕ) → IsNode (slice_get places n) → (path : List (List ℕ)) × (walk places 0 path ≡ Ok n)) → IsTree places
tree_of places forest reached =
    record { few = forest.few; root = forest.root; ordered = forest.ordered; there = forest.there; no_root = forest.no_root; once = forest.once; reached = reached }

-- ---- a place without a name

node_in-without : (p : Option Place) (name x : List ℕ) → node_in (Some (place_without name p)) x ≡ cond (is_named name x) None (node_in p x)
node_in-without (Some (Dir d)) name x = entry_at-without name x d.shown
node_in-without (Some File) name x = none_both (is_named name x)
  where
    none_both : (b : Bool) → (let o : Option ℕ = None in o) ≡ cond b None None
    none_both true = refl
    none_both false = refl
node_in-without (Some Nothing) name x = none_both (is_named name x)
  where
    none_both : (b : Bool) → (let o : Option ℕ = None in o) ≡ cond b None None
    none_both true = refl
    none_both false = refl
node_in-without None name x = none_both (is_named name x)
  where
    none_both : (b : Bool) → (let o : Option ℕ = None in o) ≡ cond b None None
    none_both true = refl
    none_both false = refl

directory-without : (p : Option Place) (name : List ℕ) → IsDirectory p → IsDirectory (Some (place_without name p))
directory-without (Some (Dir d)) name h = tt
directory-without (Some File) name h = absurd h
directory-without (Some Nothing) name h = absurd h
directory-without None name h = absurd h

node-without : (p : Option Place) (name : List ℕ) → IsNode p → IsNode (Some (place_without name p))
node-without (Some (Dir d)) name h = tt
node-without (Some File) name h = tt
node-without (Some Nothing) name h = absurd h
node-without None name h = absurd h

node-with : (p : Option Place) (name : List ℕ) → IsNode (Some (place_without name p)) → IsNode p
node-with (Some (Dir d)) name h = tt
node-with (Some File) name h = tt
node-with (Some Nothing) name h = absurd h
node-with None name h = absurd h

rises-without : (p : Option Place) (name : List ℕ) (e : Directory) → ((d : Directory) → p ≡ Some (Dir d) → RisesBehind [] d.shown) → Some (place_without name p) ≡ Some (Dir e) → RisesBehind [] e.shown
rises-without (Some (Dir d)) name e rises h =
    let same : record d { shown = without name d.shown } ≡ e = cc in
    subst (λ (x : Directory). RisesBehind [] x.shown) same (RisesBehind-without [] name d.shown (rises d refl))
rises-without (Some File) name e rises h = absurd cc
rises-without (Some Nothing) name e rises h = absurd cc
rises-without None name e rises h = absurd cc

fewer_without : (name : List ℕ) (es : List (List ℕ × ℕ)) → length (without name es) ≤ length es
fewer_without name [] = omega arith
fewer_without name (e ∷ es) = elim (cases_Bool (is_named name e.0)) [
  | inl t ↦ rw t (let less = fewer_without name es in omega arith)
  | inr f ↦ rw f (let less = fewer_without name es in omega arith)
]

shown-without : (p : Option Place) (name : List ℕ) → length (shown_in (Some (place_without name p))) ≤ length (shown_in p)
shown-without (Some (Dir d)) name = fewer_without name d.shown
shown-without (Some File) name = omega arith
shown-without (Some Nothing) name = omega arith
shown-without None name = omega arith

within : (places : List Place) (k : ℕ) → IsNode (slice_get places k) → k < length places
within places k h = by (slice_get places k) refl h
  where
    by : (p : Option Place) → slice_get places k ≡ p → IsNode p → k < length places
    by (Some q) e h = slice_get_within places k q e
    by None e h = absurd h

empty_list : {A : Type 0} (xs : List A) → is_empty xs ≡ true → xs ≡ []
empty_list [] h = refl
empty_list (x ∷ xs) h = absurd (false≢true h)

and_left : (a b : Bool) → (a && b) ≡ true → a ≡ true
and_left true b h = refl
and_left false b h = absurd (false≢true h)

bare_shows : (p : Option Place) (x : List ℕ) (n : ℕ) → is_bare p ≡ true → node_in p x ≡ Some n → ⊥
bare_shows p x n bare h =
    let none : node_in p x ≡ None = ap (node_of x) (empty_list (shown_in p) (and_left _ _ bare)) in
    absurd cc

-- ---- an entry less

module _ (places : List Place) (at : ℕ) (name : List ℕ) (dir : IsDirectory (slice_get places at)) where
  abbrev out : Option Place
  out = Some (place_without name (slice_get places at))

  pub get-out : (k : ℕ) → slice_get (taken_out places at name) k ≡ cond (k == at) out (slice_get places k)
  get-out k = slice_get-set places at k (place_without name (slice_get places at)) (within places at (node_from_directory (slice_get places at) dir))

  -- what holds of a place and of it without a name holds behind the change
  kept-out : (P : Option Place → Type 0) → ((p : Option Place) → P p → P (Some (place_without name p))) → (k : ℕ) → P (slice_get places k) → P (slice_get (taken_out places at name) k)
  kept-out P step k h = elim (eqb_tells k at) [
    | inl e ↦ subst P (sym (get-out k ∙ rw e.0 refl)) (step (slice_get places at) (subst (λ (j : ℕ). P (slice_get places j)) e.1 h))
    | inr e ↦ subst P (sym (get-out k ∙ rw e.0 refl)) h
  ]

  pub directory-out : (k : ℕ) → IsDirectory (slice_get places k) → IsDirectory (slice_get (taken_out places at name) k)
  directory-out k h = kept-out IsDirectory (λ p q. directory-without p name q) k h

  pub node-out : (k : ℕ) → IsNode (slice_get places k) → IsNode (slice_get (taken_out places at name) k)
  node-out k h = kept-out IsNode (λ p q. node-without p name q) k h

  pub shown-out : (k : ℕ) → length (shown_in (slice_get (taken_out places at name) k)) ≤ length (shown_in (slice_get places k))
  shown-out k = kept-out (λ p. length (shown_in p) ≤ length (shown_in (slice_get places k))) (λ p q. (let less = shown-without p name in omega arith)) k (omega arith)

  pub entry-out : (k : ℕ) (x : List ℕ) (n : ℕ) → node_in (slice_get (taken_out places at name) k) x ≡ Some n → (node_in (slice_get places k) x ≡ Some n) × (k ≡ at → x ≡ name → ⊥)
  entry-out k x n h = elim (eqb_tells k at) [
    | inl e ↦ (let get : slice_get (taken_out places at name) k ≡ out = get-out k ∙ rw e.0 refl in
        let here : node_in (slice_get (taken_out places at name) k) x ≡ cond (is_named name x) None (node_in (slice_get places at) x) =
        ap (λ (p : Option Place). node_in p x) get ∙ node_in-without (slice_get places at) name x in
        elim (cases_Bool (is_named name x)) [
          | inl t ↦ (let none : node_in (slice_get (taken_out places at name) k) x ≡ None = rw t at here in absurd cc)
          | inr f ↦ (let found : node_in (slice_get (taken_out places at name) k) x ≡ node_in (slice_get places at) x = rw f at here in
              (ap (λ (j : ℕ). node_in (slice_get places j) x) e.1 ∙ sym found ∙ h, λ i same. true≢false (sym (ap (is_named name) same ∙ is_named_same name) ∙ f)))
        ])
    | inr e ↦ (let get : slice_get (taken_out places at name) k ≡ slice_get places k = get-out k ∙ rw e.0 refl in (ap (λ (p : Option Place). node_in p x) (sym get) ∙ h, λ i same. e.1 i))
  ]

  pub absent-out : node_in (slice_get (taken_out places at name) at) name ≡ None
  absent-out = none_or (node_in (slice_get (taken_out places at name) at) name) refl
    where
      none_or : (o : Option ℕ) → node_in (slice_get (taken_out places at name) at) name ≡ o → o ≡ None
      none_or None h = refl
      none_or (Some n) h = absurd ((entry-out at name n h).1 refl refl)

  -- every other entry stays
  pub stays-out : (k : ℕ) (x : List ℕ) (n : ℕ) → node_in (slice_get places k) x ≡ Some n → (k ≡ at → x ≡ name → ⊥) → node_in (slice_get (taken_out places at name) k) x ≡ Some n
  stays-out k x n h other = elim (eqb_tells k at) [
    | inl e ↦ (let get : slice_get (taken_out places at name) k ≡ out = get-out k ∙ rw e.0 refl in
        let here : node_in (slice_get (taken_out places at name) k) x ≡ cond (is_named name x) None (node_in (slice_get places at) x) =
        ap (λ (p : Option Place). node_in p x) get ∙ node_in-without (slice_get places at) name x in
        elim (cases_Bool (is_named name x)) [
          | inl t ↦ absurd (other e.1 (sym (is_named_is name x t)))
          | inr f ↦ (let found : node_in (slice_get (taken_out places at name) k) x ≡ node_in (slice_get places at) x = rw f at here in
              found ∙ ap (λ (j : ℕ). node_in (slice_get places j) x) (sym e.1) ∙ h)
        ])
    | inr e ↦ (let get : slice_get (taken_out places at name) k ≡ slice_get places k = get-out k ∙ rw e.0 refl in ap (λ (p : Option Place). node_in p x) get ∙ h)
  ]

  pub node-back : (k : ℕ) → IsNode (slice_get (taken_out places at name) k) → IsNode (slice_get places k)
  node-back k h = elim (eqb_tells k at) [
    | inl e ↦ (let get : slice_get (taken_out places at name) k ≡ out = get-out k ∙ rw e.0 refl in subst (λ (j : ℕ). IsNode (slice_get places j)) (sym e.1) (node-with (slice_get places at) name (subst IsNode get h)))
    | inr e ↦ (let get : slice_get (taken_out places at name) k ≡ slice_get places k = get-out k ∙ rw e.0 refl in subst IsNode get h)
  ]

  pub is_forest_out : IsForest places → IsForest (taken_out places at name)
  is_forest_out tree = record {
    few = subst (λ (n : ℕ). n ≤ most_nodes) (sym (length-set places at (place_without name (slice_get places at)))) tree.few;
    root = directory-out 0 tree.root;
    ordered = λ k d h. elim (eqb_tells k at) [
      | inl e ↦ rises-without (slice_get places at) name d (tree.ordered at) (sym (get-out k ∙ rw e.0 refl) ∙ h)
      | inr e ↦ tree.ordered k d (sym (get-out k ∙ rw e.0 refl) ∙ h)
    ];
    there = λ k x n h. node-out n (tree.there k x n (entry-out k x n h).0);
    no_root = λ k x n h. tree.no_root k x n (entry-out k x n h).0;
    once = λ j k a b n f g. tree.once j k a b n (entry-out j a n f).0 (entry-out k b n g).0;
  }

-- ---- a node less

module _ (places : List Place) (node : ℕ) (lt : node < length places) where
  pub get-ended : (k : ℕ) → slice_get (slice_set places node Nothing) k ≡ cond (k == node) (Some Nothing) (slice_get places k)
  get-ended k = slice_get-set places node k Nothing lt

  pub other-ended : (k : ℕ) → k ≢ node → slice_get (slice_set places node Nothing) k ≡ slice_get places k
  other-ended k ne = elim (eqb_tells k node) [
    | inl e ↦ absurd (ne e.1)
    | inr e ↦ get-ended k ∙ rw e.0 refl
  ]

  pub entry-ended : (k : ℕ) (x : List ℕ) (n : ℕ) → node_in (slice_get (slice_set places node Nothing) k) x ≡ Some n → (node_in (slice_get places k) x ≡ Some n) × (k ≢ node)
  entry-ended k x n h = elim (eqb_tells k node) [
    | inl e ↦ (let get : slice_get (slice_set places node Nothing) k ≡ Some Nothing = get-ended k ∙ rw e.0 refl in let none : node_in (slice_get (slice_set places node Nothing) k) x ≡ None = ap (λ (p : Option Place). node_in p x) get in absurd cc)
    | inr e ↦ (let get : slice_get (slice_set places node Nothing) k ≡ slice_get places k = get-ended k ∙ rw e.0 refl in (ap (λ (p : Option Place). node_in p x) (sym get) ∙ h, e.1))
  ]

  pub is_forest_ended : IsForest places → node ≢ 0 → ((k : ℕ) (x : List ℕ) → node_in (slice_get places k) x ≡ Some node → ⊥) → IsForest (slice_set places node Nothing)
  is_forest_ended tree ne loose = record {
    few = subst (λ (n : ℕ). n ≤ most_nodes) (sym (length-set places node Nothing)) tree.few;
    root = subst IsDirectory (sym (other-ended 0 (λ e. ne (sym e)))) tree.root;
    ordered = λ k d h. elim (eqb_tells k node) [
      | inl e ↦ (let no : Some Nothing ≡ Some (Dir d) = sym (get-ended k ∙ rw e.0 refl) ∙ h in absurd cc)
      | inr e ↦ tree.ordered k d (sym (get-ended k ∙ rw e.0 refl) ∙ h)
    ];
    there = λ k x n h. (let old = entry-ended k x n h in
        subst IsNode (sym (other-ended n (λ e. loose k x (old.0 ∙ ap (λ (m : ℕ). Some m) e)))) (tree.there k x n old.0));
    no_root = λ k x n h. tree.no_root k x n (entry-ended k x n h).0;
    once = λ j k a b n f g. tree.once j k a b n (entry-ended j a n f).0 (entry-ended k b n g).0;
  }

-- ---- an entry that leads to a node which no entry has

module _ (places : List Place) (at : ℕ) (d : Directory) (name : List ℕ) (node : ℕ) (is : slice_get places at ≡ Some (Dir d)) where
  abbrev grown : Directory
  grown = record d { shown = put_entry d.shown name node }

  get-linked : (k : ℕ) → slice_get (placed places at name node) k ≡ cond (k == at) (Some (Dir grown)) (slice_get places k)
  get-linked k =
      slice_get-set places at k (place_with name node (slice_get places at)) (slice_get_within places at (Dir d) is)
      ∙ ap (λ (o : Option Place). cond (k == at) (Some (place_with name node o)) (slice_get places k)) is

  kept-linked : (P : Option Place → Type 0) → P (Some (Dir grown)) → (k : ℕ) → P (slice_get places k) → P (slice_get (placed places at name node) k)
  kept-linked P here k h = elim (eqb_tells k at) [
    | inl e ↦ subst P (sym (get-linked k ∙ rw e.0 refl)) here
    | inr e ↦ subst P (sym (get-linked k ∙ rw e.0 refl)) h
  ]

  entry-linked : (k : ℕ) (x : List ℕ) (n : ℕ) → node_in (slice_get (placed places at name node) k) x ≡ Some n → ((k ≡ at) × (x ≡ name) × (n ≡ node)) ⊎ (node_in (slice_get places k) x ≡ Some n)
  entry-linked k x n h = elim (eqb_tells k at) [
    | inl e ↦ (let get : slice_get (placed places at name node) k ≡ Some (Dir grown) = get-linked k ∙ rw e.0 refl in
        let found : node_in (slice_get (placed places at name node) k) x ≡ cond (is_named name x) (Some node) (node_of x d.shown) =
        ap (λ (o : Option Place). node_in o x) get ∙ entry_at-put_entry x d.shown name node in
        elim (cases_Bool (is_named name x)) [
          | inl t ↦ (let here : node_in (slice_get (placed places at name node) k) x ≡ Some node = rw t at found in let same : n ≡ node = cc in inl (e.1, sym (is_named_is name x t), same))
          | inr f ↦ (let here : node_in (slice_get (placed places at name node) k) x ≡ node_of x d.shown = rw f at found in
              inr (ap (λ (o : Option Place). node_in o x) (ap (slice_get places) e.1 ∙ is) ∙ sym here ∙ h))
        ])
    | inr e ↦ (let get : slice_get (placed places at name node) k ≡ slice_get places k = get-linked k ∙ rw e.0 refl in inr (ap (λ (o : Option Place). node_in o x) (sym get) ∙ h))
  ]

  shown-linked : node_in (slice_get (placed places at name node) at) name ≡ Some node
  shown-linked = elim (eqb_tells at at) [
    | inl e ↦ (let get : slice_get (placed places at name node) at ≡ Some (Dir grown) = get-linked at ∙ rw e.0 refl in
        ap (λ (o : Option Place). node_in o name) get ∙ entry_at-put_entry name d.shown name node ∙ rw (is_named_same name) refl)
    | inr e ↦ absurd (e.1 refl)
  ]

  -- where the name is new, each entry stays
  stays-linked : node_in (slice_get places at) name ≡ None → (k : ℕ) (x : List ℕ) (n : ℕ) → node_in (slice_get places k) x ≡ Some n → node_in (slice_get (placed places at name node) k) x ≡ Some n
  stays-linked absent k x n h = elim (eqb_tells k at) [
    | inl e ↦ (let get : slice_get (placed places at name node) k ≡ Some (Dir grown) = get-linked k ∙ rw e.0 refl in
        let found : node_in (slice_get (placed places at name node) k) x ≡ cond (is_named name x) (Some node) (node_of x d.shown) =
        ap (λ (o : Option Place). node_in o x) get ∙ entry_at-put_entry x d.shown name node in
        let there : node_in (slice_get places at) x ≡ Some n = ap (λ (j : ℕ). node_in (slice_get places j) x) (sym e.1) ∙ h in
        elim (cases_Bool (is_named name x)) [
          | inl t ↦ (let same : node_in (slice_get places at) name ≡ Some n = ap (λ (y : List ℕ). node_in (slice_get places at) y) (is_named_is name x t) ∙ there in absurd cc)
          | inr f ↦ (let here : node_in (slice_get (placed places at name node) k) x ≡ node_of x d.shown = rw f at found in
              here ∙ ap (λ (o : Option Place). node_in o x) (sym is) ∙ there)
        ])
    | inr e ↦ (let get : slice_get (placed places at name node) k ≡ slice_get places k = get-linked k ∙ rw e.0 refl in ap (λ (o : Option Place). node_in o x) get ∙ h)
  ]

  node-linked : (k : ℕ) → IsNode (slice_get (placed places at name node) k) → IsNode (slice_get places k)
  node-linked k h = elim (eqb_tells k at) [
    | inl e ↦ subst IsNode (sym (ap (slice_get places) e.1 ∙ is)) tt
    | inr e ↦ (let get : slice_get (placed places at name node) k ≡ slice_get places k = get-linked k ∙ rw e.0 refl in subst IsNode get h)
  ]

  pub is_forest_linked : IsForest places → IsTrue (is_name name) → IsNode (slice_get places node) → node ≢ 0 → ((k : ℕ) (x : List ℕ) → node_in (slice_get places k) x ≡ Some node → ⊥) → IsForest (placed places at name node)
  is_forest_linked tree lawful there ne loose = record {
    few = subst (λ (n : ℕ). n ≤ most_nodes) (sym (length-set places at (place_with name node (slice_get places at)))) tree.few;
    root = kept-linked IsDirectory tt 0 tree.root;
    ordered = λ k e h. elim (eqb_tells k at) [
      | inl i ↦ (let same : grown ≡ e = (let both : Some (Dir grown) ≡ Some (Dir e) = sym (get-linked k ∙ rw i.0 refl) ∙ h in cc) in
          subst (λ (e : Directory). RisesBehind [] e.shown) same (RisesBehind-put_entry [] d.shown name node (comes_behind_nothing name lawful) lawful (tree.ordered at d is)))
      | inr i ↦ tree.ordered k e (sym (get-linked k ∙ rw i.0 refl) ∙ h)
    ];
    there = λ k x n h. elim (entry-linked k x n h) [
      | inl p ↦ subst (λ (m : ℕ). IsNode (slice_get (placed places at name node) m)) (sym p.2) (kept-linked IsNode tt node there)
      | inr p ↦ kept-linked IsNode tt n (tree.there k x n p)
    ];
    no_root = λ k x n h. elim (entry-linked k x n h) [
      | inl p ↦ (λ e. ne (sym p.2 ∙ e))
      | inr p ↦ tree.no_root k x n p
    ];
    once = λ j k a b n f g. elim (entry-linked j a n f) [
      | inl p ↦ elim (entry-linked k b n g) [
        | inl q ↦ (p.0 ∙ sym q.0, p.1 ∙ sym q.1)
        | inr q ↦ absurd (loose k b (q ∙ ap (λ (m : ℕ). Some m) p.2))
      ]
      | inr p ↦ elim (entry-linked k b n g) [
        | inl q ↦ absurd (loose j a (p ∙ ap (λ (m : ℕ). Some m) q.2))
        | inr q ↦ tree.once j k a b n p q
      ]
    ];
  }

-- ---- a foreign entry more

module _ (places : List Place) (at : ℕ) (entry : ForeignEntry) (dir : IsDirectory (slice_get places at)) where
  abbrev there_is : (d : Directory) × (slice_get places at ≡ Some (Dir d))
  there_is = the_directory (slice_get places at) dir

  abbrev more : Directory
  more = record there_is.0 { foreign = there_is.0.foreign ++ entry ∷ [] }

  get-foreign : (k : ℕ) → slice_get (slice_set places at (place_with_foreign entry (slice_get places at))) k ≡ cond (k == at) (Some (Dir more)) (slice_get places k)
  get-foreign k =
      slice_get-set places at k (place_with_foreign entry (slice_get places at)) (slice_get_within places at (Dir there_is.0) there_is.1)
      ∙ ap (λ (o : Option Place). cond (k == at) (Some (place_with_foreign entry o)) (slice_get places k)) there_is.1

  kept-foreign : (P : Option Place → Type 0) → P (Some (Dir more)) → (k : ℕ) → P (slice_get places k) → P (slice_get (slice_set places at (place_with_foreign entry (slice_get places at))) k)
  kept-foreign P here k h = elim (eqb_tells k at) [
    | inl e ↦ subst P (sym (get-foreign k ∙ rw e.0 refl)) here
    | inr e ↦ subst P (sym (get-foreign k ∙ rw e.0 refl)) h
  ]

  entry-foreign : (k : ℕ) (x : List ℕ) (n : ℕ) → node_in (slice_get (slice_set places at (place_with_foreign entry (slice_get places at))) k) x ≡ Some n → node_in (slice_get places k) x ≡ Some n
  entry-foreign k x n h = elim (eqb_tells k at) [
    | inl e ↦ (let get : slice_get (slice_set places at (place_with_foreign entry (slice_get places at))) k ≡ Some (Dir more) = get-foreign k ∙ rw e.0 refl in
        ap (λ (o : Option Place). node_in o x) (ap (slice_get places) e.1 ∙ there_is.1) ∙ sym (ap (λ (o : Option Place). node_in o x) get) ∙ h)
    | inr e ↦ (let get : slice_get (slice_set places at (place_with_foreign entry (slice_get places at))) k ≡ slice_get places k = get-foreign k ∙ rw e.0 refl in ap (λ (o : Option Place). node_in o x) (sym get) ∙ h)
  ]

  stays-foreign : (k : ℕ) (x : List ℕ) (n : ℕ) → node_in (slice_get places k) x ≡ Some n → node_in (slice_get (slice_set places at (place_with_foreign entry (slice_get places at))) k) x ≡ Some n
  stays-foreign k x n h = elim (eqb_tells k at) [
    | inl e ↦ (let get : slice_get (slice_set places at (place_with_foreign entry (slice_get places at))) k ≡ Some (Dir more) = get-foreign k ∙ rw e.0 refl in ap (λ (o : Option Place). node_in o x) get ∙ sym (ap (λ (o : Option Place). node_in o x) (ap (slice_get places) e.1 ∙ there_is.1)) ∙ h)
    | inr e ↦ (let get : slice_get (slice_set places at (place_with_foreign entry (slice_get places at))) k ≡ slice_get places k = get-foreign k ∙ rw e.0 refl in ap (λ (o : Option Place). node_in o x) get ∙ h)
  ]

  node-foreign : (k : ℕ) → IsNode (slice_get (slice_set places at (place_with_foreign entry (slice_get places at))) k) → IsNode (slice_get places k)
  node-foreign k h = elim (eqb_tells k at) [
    | inl e ↦ subst IsNode (sym (ap (slice_get places) e.1 ∙ there_is.1)) tt
    | inr e ↦ (let get : slice_get (slice_set places at (place_with_foreign entry (slice_get places at))) k ≡ slice_get places k = get-foreign k ∙ rw e.0 refl in subst IsNode get h)
  ]

  pub is_tree_foreign : IsTree places → IsTree (slice_set places at (place_with_foreign entry (slice_get places at)))
  is_tree_foreign tree = record {
    few = subst (λ (n : ℕ). n ≤ most_nodes) (sym (length-set places at (place_with_foreign entry (slice_get places at)))) tree.few;
    root = kept-foreign IsDirectory tt 0 tree.root;
    ordered = λ k e h. elim (eqb_tells k at) [
      | inl i ↦ (let same : more ≡ e = (let both : Some (Dir more) ≡ Some (Dir e) = sym (get-foreign k ∙ rw i.0 refl) ∙ h in cc) in
          subst (λ (e : Directory). RisesBehind [] e.shown) same (tree.ordered at there_is.0 there_is.1))
      | inr i ↦ tree.ordered k e (sym (get-foreign k ∙ rw i.0 refl) ∙ h)
    ];
    there = λ k x n h. kept-foreign IsNode tt n (tree.there k x n (entry-foreign k x n h));
    no_root = λ k x n h. tree.no_root k x n (entry-foreign k x n h);
    once = λ j k a b n f g. tree.once j k a b n (entry-foreign j a n f) (entry-foreign k b n g);
    reached = λ n h. (let here = tree.reached n (node-foreign n h) in (here.0, walk_stays places _ stays-foreign 0 n here.0 here.1));
  }

-- ---- the changes

-- no walk goes on from where nothing stands
nothing_ends : (places : List Place) (node n : ℕ) (path : List (List ℕ)) → slice_get places node ≡ Some Nothing → IsNode (slice_get places n) → walk places node path ≡ Ok n → ⊥
nothing_ends places node n [] none there is = subst IsNode (ap (slice_get places) (sym (ends_at places node n is)) ∙ none) there
nothing_ends places node n (x ∷ path) none there is =
    let s = first_step places node n x path is in
    let shows : node_in (Some Nothing) x ≡ Some s.0 = ap (λ (p : Option Place). node_in p x) (sym none) ∙ s.1 in
    absurd cc

-- an entry and its node, which is bare, are gone
module _ (places : List Place) (dir : ℕ) (name : List ℕ) (node : ℕ) (tree : IsTree places) (there : node_in (slice_get places dir) name ≡ Some node) (bare : is_bare (slice_get places node) ≡ true) where
  directory : IsDirectory (slice_get places dir)
  directory = shows_in_directory (slice_get places dir) name node there

  within-out : node < length (taken_out places dir name)
  within-out = within (taken_out places dir name) node (node-out places dir name directory node (tree.there dir name node there))

  pub none-removed : slice_get (removed places dir name node) node ≡ Some Nothing
  none-removed = elim (eqb_tells node node) [
    | inl e ↦ get-ended (taken_out places dir name) node within-out node ∙ rw e.0 refl
    | inr e ↦ absurd (e.1 refl)
  ]

  pub get-removed : (k : ℕ) → k ≢ node → slice_get (removed places dir name node) k ≡ slice_get (taken_out places dir name) k
  get-removed k apart = other-ended (taken_out places dir name) node within-out k apart

  pub keeps-removed : KeepsOthers places (removed places dir name node) node
  keeps-removed = record {
    kept = λ k x m shows other.
        (let apart : k ≢ node = λ e. bare_shows (slice_get places node) x m bare (ap (λ (j : ℕ). node_in (slice_get places j) x) (sym e) ∙ shows) in
        ap (λ (p : Option Place). node_in p x) (get-removed k apart)
        ∙ stays-out places dir name directory k x m shows (λ j y. other (the_same m (sym shows ∙ ap (λ (i : ℕ). node_in (slice_get places i) x) j ∙ ap (node_in (slice_get places dir)) y ∙ there))));
  }
    where
      the_same : (m : ℕ) → Some m ≡ Some node → m ≡ node
      the_same m e = cc

  node-removed : (n : ℕ) → IsNode (slice_get (removed places dir name node) n) → IsNode (slice_get places n)
  node-removed n h = elim (eqb_tells n node) [
    | inl e ↦ absurd (subst IsNode (ap (slice_get (removed places dir name node)) e.1 ∙ none-removed) h)
    | inr e ↦ node-back places dir name directory n (subst IsNode (get-removed n e.1) h)
  ]

  -- a walk to a node that is left is kept
  pub walk-removed : (n : ℕ) (path : List (List ℕ)) → IsNode (slice_get (removed places dir name node) n) → walk places 0 path ≡ Ok n → walk (removed places dir name node) 0 path ≡ Ok n
  walk-removed n path h is = elim (walk_kept places (removed places dir name node) node keeps-removed 0 n path is) [
    | inl kept ↦ kept
    | inr rest ↦ absurd (nothing_ends (removed places dir name node) node n rest.0 none-removed h rest.1)
  ]

  pub is_tree_removed : IsTree (removed places dir name node)
  is_tree_removed =
      let loose : (k : ℕ) (x : List ℕ) → node_in (slice_get (taken_out places dir name) k) x ≡ Some node → ⊥ =
      λ k x h. (let old = entry-out places dir name directory k x node h in let same = tree.once k dir x name node old.0 there in old.1 same.0 same.1) in
      tree_of (removed places dir name node) (is_forest_ended (taken_out places dir name) node within-out (is_forest_out places dir name directory (forest_of places tree)) (tree.no_root dir name node there) loose)
      (λ n h. (let here = tree.reached n (node-removed n h) in (here.0, walk-removed n here.0 h here.1)))

-- ---- what a rename's first part leaves

record Cleared (places : List Place) (m : Moving) (mid : List Place) : Type 0 where
  is_tree : IsTree mid
  entries : (k : ℕ) (x : List ℕ) (n : ℕ) → node_in (slice_get mid k) x ≡ Some n → node_in (slice_get places k) x ≡ Some n
  there : node_in (slice_get mid m.from) m.was ≡ Some m.node
  to : IsDirectory (slice_get mid m.to)
  absent : node_in (slice_get mid m.to) m.name ≡ None
  reached : (path : List (List ℕ)) → walk places 0 path ≡ Ok m.to → walk mid 0 path ≡ Ok m.to
  shorter : length (shown_in (slice_get mid m.to)) ≤ length (shown_in (slice_get places m.to))

cleared_is : (t : PlainTree) (m : Moving) (target : Option ℕ) → IsTree t.places → CanMove t m → node_in (slice_get t.places m.to) m.name ≡ target → Replaces t m.node m.to m.name target → Cleared t.places m (cleared t.places m.to m.name target)
cleared_is t m None tree can there r = record {
  is_tree = tree;
  entries = λ k x n h. h;
  there = can.there;
  to = can.directory;
  absent = there;
  reached = λ path is. is;
  shorter = omega arith;
}
cleared_is t m (Some target) tree can there r =
    let out : List Place = taken_out t.places m.to m.name in
    let mid : List Place = removed t.places m.to m.name target in
    let keeps = keeps-removed t.places m.to m.name target tree there r.bare in
    let to_apart : m.to ≢ target = λ e. bare_shows (slice_get t.places target) m.name target r.bare (ap (λ (j : ℕ). node_in (slice_get t.places j) m.name) (sym e) ∙ there) in
    let get : slice_get mid m.to ≡ slice_get out m.to = get-removed t.places m.to m.name target tree there r.bare m.to to_apart in
    let to : IsDirectory (slice_get mid m.to) = subst IsDirectory (sym get) (directory-out t.places m.to m.name can.directory m.to can.directory) in
    record {
      is_tree = is_tree_removed t.places m.to m.name target tree there r.bare;
      entries = λ k x n h. (entry-out t.places m.to m.name can.directory k x n (entry-ended out target (within-out t.places m.to m.name target tree there r.bare) k x n h).0).0;
      there = keeps.kept m.from m.was m.node can.there (λ e. r.other (sym e));
      to = to;
      absent = ap (λ (p : Option Place). node_in p m.name) get ∙ absent-out t.places m.to m.name can.directory;
      reached = λ path is. walk-removed t.places m.to m.name target tree there r.bare m.to path (node_from_directory (slice_get mid m.to) to) is;
      shorter = subst (λ (p : Option Place). length (shown_in p) ≤ length (shown_in (slice_get t.places m.to))) (sym get) (shown-out t.places m.to m.name can.directory m.to);
    }

may_clear : (t : PlainTree) (m : Moving) (target : Option ℕ) → IsTree t.places → IsDirectory (slice_get t.places m.to) → node_in (slice_get t.places m.to) m.name ≡ target → MayClear t.places m.to target
may_clear t m None tree dir there = tt
may_clear t m (Some target) tree dir there = (dir, within t.places target (tree.there m.to m.name target there))

-- a change of a tree that can be made is one that its places may make
pub may_change : (t : PlainTree) (c : Change) → IsTree t.places → CanChange t c → MayChange t.places c
may_change t (Make m) tree can = (can.directory, can.few)
may_change t (Remove r) tree can = (shows_in_directory (slice_get t.places r.dir) r.name r.node can.there, within t.places r.node (tree.there r.dir r.name r.node can.there))
may_change t (Move m) tree can =
    let c = cleared_is t m m.target tree can can.target can.replaces in
    let mid : List Place = cleared t.places m.to m.name m.target in
    let from : IsDirectory (slice_get mid m.from) = shows_in_directory (slice_get mid m.from) m.was m.node c.there in
    record {
      clears = may_clear t m m.target tree can.directory can.target;
      from = from;
      to = directory-out mid m.from m.was from m.to c.to;
      shorter = (let a = shown-out mid m.from m.was from m.to in let b = c.shorter in omega arith);
    }

-- the way to where an entry goes doesn't come by it: a directory was tested, and no walk goes on from a file
outside : (t : PlainTree) (m : Moving) (can : CanMove t m) → comes_by t.places m.node 0 can.path ≡ false
outside t m can = elim (cases_Bool (is_dir (slice_get t.places m.node))) [
  | inl dir ↦ can.outside dir
  | inr file ↦ elim (cases_Bool (comes_by t.places m.node 0 can.path)) [
    | inl by ↦ (let rest = walk_from t.places m.node 0 m.to can.path can.reached by in absurd (true≢false (sym (dir_from m.node rest.0 rest.1) ∙ file)))
    | inr apart ↦ apart
  ]
]
  where
    is_dir_of : (p : Option Place) → IsDirectory p → is_dir p ≡ true
    is_dir_of (Some (Dir d)) h = refl
    is_dir_of (Some File) h = absurd h
    is_dir_of (Some Nothing) h = absurd h
    is_dir_of None h = absurd h

    dir_from : (k : ℕ) (path : List (List ℕ)) → walk t.places k path ≡ Ok m.to → is_dir (slice_get t.places k) ≡ true
    dir_from k [] is = is_dir_of (slice_get t.places k) (subst (λ (j : ℕ). IsDirectory (slice_get t.places j)) (sym (ends_at t.places k m.to is)) can.directory)
    dir_from k (x ∷ path) is = (let s = first_step t.places k m.to x path is in is_dir_of (slice_get t.places k) (shows_in_directory (slice_get t.places k) x s.0 s.1))

is_tree_moved : (t : PlainTree) (m : Moving) → IsTree t.places → CanMove t m → IsTrue (is_name m.name) → IsTree (moved t.places m)
is_tree_moved t m tree can lawful =
    let c = cleared_is t m m.target tree can can.target can.replaces in
    let mid : List Place = cleared t.places m.to m.name m.target in
    let from : IsDirectory (slice_get mid m.from) = shows_in_directory (slice_get mid m.from) m.was m.node c.there in
    let out : List Place = taken_out mid m.from m.was in
    let new : List Place = placed out m.to m.name m.node in
    let d = the_directory (slice_get out m.to) (directory-out mid m.from m.was from m.to c.to) in
    let loose : (k : ℕ) (x : List ℕ) → node_in (slice_get out k) x ≡ Some m.node → ⊥ =
    λ k x h. (let old = entry-out mid m.from m.was from k x m.node h in let same = c.is_tree.once k m.from x m.was m.node old.0 c.there in old.1 same.0 same.1) in
    let absent : node_in (slice_get out m.to) m.name ≡ None = none_or (node_in (slice_get out m.to) m.name) (λ n h. some_none n (sym (entry-out mid m.from m.was from m.to m.name n h).0 ∙ c.absent)) in
    let forest = is_forest_linked out m.to d.0 m.name m.node d.1 (is_forest_out mid m.from m.was from (forest_of mid c.is_tree)) lawful (node-out mid m.from m.was from m.node (c.is_tree.there m.from m.was m.node c.there)) (c.is_tree.no_root m.from m.was m.node c.there) loose in
    let keeps : KeepsOthers mid new m.node = record {
      kept = λ k x n shows other.
          stays-linked out m.to d.0 m.name m.node d.1 absent k x n (stays-out mid m.from m.was from k x n shows (λ j y. other (the_same n (sym shows ∙ ap (λ (i : ℕ). node_in (slice_get mid i) x) j ∙ ap (node_in (slice_get mid m.from)) y ∙ c.there))));
    } in
    let to_mid = c.reached can.path can.reached in
    let to_new : walk new 0 can.path ≡ Ok m.to = walk_around mid new m.node keeps 0 m.to can.path to_mid (comes_by_same t.places mid m.node c.entries 0 m.to can.path to_mid ∙ outside t m can) in
    let shown : node_in (slice_get new m.to) m.name ≡ Some m.node = shown-linked out m.to d.0 m.name m.node d.1 in
    tree_of new forest (λ n h.
    (let here = c.is_tree.reached n (node-back mid m.from m.was from n (node-linked out m.to d.0 m.name m.node d.1 n h)) in
    elim (walk_kept mid new m.node keeps 0 n here.0 here.1) [
      | inl kept ↦ (here.0, kept)
      | inr rest ↦ (can.path ++ m.name ∷ rest.0, walk_on new 0 m.to n can.path (m.name ∷ rest.0) to_new (step_first new m.to m.node m.name rest.0 shown ∙ rest.1))
    ]))
  where
    the_same : (n : ℕ) → Some n ≡ Some m.node → n ≡ m.node
    the_same n e = cc

    some_none : (n : ℕ) → Some n ≡ None → ⊥
    some_none n e = absurd cc

    none_or : (o : Option ℕ) → ((n : ℕ) → o ≡ Some n → ⊥) → o ≡ None
    none_or None h = refl
    none_or (Some n) h = absurd (h n refl)

pub is_tree_changed : (t : PlainTree) (c : Change) → IsTree t.places → CanChange t c → IsLawful c → IsTree (changed_places t.places c)
is_tree_changed t (Make m) tree can lawful = is_tree_added t.places m.dir m.name m.kind tree lawful (record { directory = can.directory; absent = can.absent }) can.few
is_tree_changed t (Remove r) tree can lawful = is_tree_removed t.places r.dir r.name r.node tree can.there can.bare
is_tree_changed t (Move m) tree can lawful = is_tree_moved t m tree can lawful
