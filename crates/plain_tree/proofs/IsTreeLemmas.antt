-- A tree with one more entry, which leads to a new node, is a tree.
use Rattle.std.proofs.Common.{◌≡◌, ◌≢◌, ℕ, suc, zero, ◌<◌, ◌≤◌, ◌+◌, ◌-◌, cond, ◌⊎◌, inl, inr, List, [], ◌∷◌, ◌++◌, length, Option, Some, None, Ok, refl, sym, ap, subst, ◌∙◌, arith, length-append}
use Rattle.std.specs.Prelude.{◌==◌, IsTrue, replicate, slice_get, slice_set}
use Rattle.std.proofs.lemmas.List.{length-set, length-replicate, get_or-replicate, replicate-append-replicate}
use Rattle.std.proofs.lemmas.Option.{slice_get_within, slice_get_past, get_or_from_slice_get}
use Rattle.std.proofs.lemmas.Bool.{cases_Bool, eq-eqb}
use Rattle.std.proofs.lemmas.Bool.Decides.{eqb_tells}
use Rattle.lower_model.specs.Name.{is_name}
use Rattle.lower_model.specs.declared.kind.Kind.{Kind}
use Rattle.lower_model.specs.declared.kind.Kind.TheVariants as kinds
use Rattle.tree_model.specs.declared.place.Directory.{Directory}
use Rattle.tree_model.specs.declared.place.Place.{Place}
use Rattle.tree_model.specs.declared.place.Place.TheVariants.{Dir, File, Nothing}
use Rattle.tree_model.specs.Names.{is_named, node_of, put_entry, RisesBehind}
use Rattle.tree_model.specs.Walk.{walk}
use Rattle.tree_model.specs.PlainTree.{most_nodes, empty_directory, begun, place_with, placed, added}
use Rattle.tree_model.specs.IsTree.{IsTree, IsDirectory, IsNode, node_in}
use Rattle.tree_model.proofs.NameLemmas.{is_named_is, is_named_same, entry_at-put_entry, comes_behind_nothing, RisesBehind-put_entry}
use Rattle.tree_model.proofs.Walks.{node_from_directory, shows_in_directory, walk_stays, walk_on, step_first}
use Rattle.plain_tree.specs.Entered.{TakesName}
use Rattle.plain_tree.proofs.Places.{slice_get-set, slice_get-push}

-- ---- places, case by case

-- the directory that stands at a place
pub the_directory : (place : Option Place) → IsDirectory place → (d : Directory) × (place ≡ Some (Dir d))
the_directory (Some (Dir d)) h = (d, refl)
the_directory (Some File) h = absurd h
the_directory (Some Nothing) h = absurd h
the_directory None h = absurd h

is_node_begun : (kind : Kind) → IsNode (Some (begun kind))
is_node_begun kinds.Dir = tt
is_node_begun kinds.File = tt

node_in-begun : (kind : Kind) (x : List ℕ) → node_in (Some (begun kind)) x ≡ None
node_in-begun kinds.Dir x = refl
node_in-begun kinds.File x = refl

begun_rises : (kind : Kind) (d : Directory) → Some (begun kind) ≡ Some (Dir d) → RisesBehind [] d.shown
begun_rises kinds.Dir d is =
    let same : empty_directory ≡ d = cc in
    subst (λ (e : Directory). RisesBehind [] e.shown) same tt
begun_rises kinds.File d is = absurd cc

-- ---- the change

-- new is old, but for a new node and the directory that shows it
pub record Shows (old new : List Place) (at : ℕ) (d : Directory) (name : List ℕ) (node : ℕ) (kind : Kind) : Type 0 where
  pub directory : slice_get old at ≡ Some (Dir d)
  pub absent : node_of name d.shown ≡ None
  pub is_lawful : IsTrue (is_name name)
  pub fresh : IsNode (slice_get old node) → ⊥
  pub few : length new ≤ most_nodes
  pub each : (k : ℕ) → slice_get new k ≡ cond (k == node) (Some (begun kind)) (cond (k == at) (Some (Dir (record d { shown = put_entry d.shown name node }))) (slice_get old k))

module _ {old new : List Place} {at : ℕ} {d : Directory} {name : List ℕ} {node : ℕ} {kind : Kind} (tree : IsTree old) (s : Shows old new at d name node kind) where
  abbrev grown : Directory
  grown = record d { shown = put_entry d.shown name node }

  abbrev AtNode : ℕ → Type 0
  AtNode k = (k ≡ node) × (slice_get new k ≡ Some (begun kind))

  abbrev AtDirectory : ℕ → Type 0
  AtDirectory k = (k ≡ at) × (slice_get new k ≡ Some (Dir grown))

  cases_place : (k : ℕ) → AtNode k ⊎ (AtDirectory k ⊎ (slice_get new k ≡ slice_get old k))
  cases_place k =
      elim (eqb_tells k node) [
        | inl e ↦ inl (e.1, rw e.0 at (s.each k))
        | inr e ↦ (let there : slice_get new k ≡ cond (k == at) (Some (Dir grown)) (slice_get old k) = rw e.0 at (s.each k) in
            elim (eqb_tells k at) [
              | inl f ↦ inr (inl (f.1, rw f.0 at there))
              | inr f ↦ inr (inr (rw f.0 at there))
            ])
      ]

  at_new : slice_get new node ≡ Some (begun kind)
  at_new = s.each node ∙ rw (eq-eqb node node refl) refl

  is_node_kept : (n : ℕ) → IsNode (slice_get old n) → IsNode (slice_get new n)
  is_node_kept n h =
      elim (cases_place n) [
        | inl p ↦ absurd (s.fresh (subst (λ (k : ℕ). IsNode (slice_get old k)) p.0 h))
        | inr q ↦ elim q [
          | inl p ↦ subst IsNode (sym p.1) tt
          | inr p ↦ subst IsNode (sym p) h
        ]
      ]

  -- an entry is the new one or an old one
  cases_entry : (k : ℕ) (x : List ℕ) (n : ℕ) → node_in (slice_get new k) x ≡ Some n → ((k ≡ at) × (x ≡ name) × (n ≡ node)) ⊎ (node_in (slice_get old k) x ≡ Some n)
  cases_entry k x n is =
      elim (cases_place k) [
        | inl p ↦ (let none : node_in (slice_get new k) x ≡ None = ap (λ (o : Option Place). node_in o x) p.1 ∙ node_in-begun kind x in absurd cc)
        | inr q ↦ elim q [
          | inl p ↦ (let found : node_in (slice_get new k) x ≡ cond (is_named name x) (Some node) (node_of x d.shown) = ap (λ (o : Option Place). node_in o x) p.1 ∙ entry_at-put_entry x d.shown name node in
              elim (cases_Bool (is_named name x)) [
                | inl h ↦ (let here : node_in (slice_get new k) x ≡ Some node = rw h at found in let same : n ≡ node = cc in inl (p.0, sym (is_named_is name x h), same))
                | inr h ↦ (let here : node_in (slice_get new k) x ≡ node_of x d.shown = rw h at found in
                    let there : slice_get old k ≡ Some (Dir d) = ap (slice_get old) p.0 ∙ s.directory in
                    inr (ap (λ (o : Option Place). node_in o x) there ∙ sym here ∙ is))
              ])
          | inr p ↦ inr (ap (λ (o : Option Place). node_in o x) (sym p) ∙ is)
        ]
      ]

  -- no old entry leads to the new node
  no_entry : (k : ℕ) (x : List ℕ) → node_in (slice_get old k) x ≡ Some node → ⊥
  no_entry k x is = s.fresh (tree.there k x node is)

  root_stays : IsDirectory (slice_get new 0)
  root_stays =
      elim (cases_place 0) [
        | inl p ↦ absurd (s.fresh (subst (λ (k : ℕ). IsNode (slice_get old k)) p.0 (node_from_directory (slice_get old 0) tree.root)))
        | inr q ↦ elim q [
          | inl p ↦ subst IsDirectory (sym p.1) tt
          | inr p ↦ subst IsDirectory (sym p) tree.root
        ]
      ]

  ordered_stays : (k : ℕ) (e : Directory) → slice_get new k ≡ Some (Dir e) → RisesBehind [] e.shown
  ordered_stays k e is =
      elim (cases_place k) [
        | inl p ↦ begun_rises kind e (sym p.1 ∙ is)
        | inr q ↦ elim q [
          | inl p ↦ (let here : Some (Dir grown) ≡ Some (Dir e) = sym p.1 ∙ is in let same : grown ≡ e = cc in
              subst (λ (e : Directory). RisesBehind [] e.shown) same
              (RisesBehind-put_entry [] d.shown name node (comes_behind_nothing name s.is_lawful) s.is_lawful (tree.ordered at d s.directory)))
          | inr p ↦ tree.ordered k e (sym p ∙ is)
        ]
      ]

  there_stays : (k : ℕ) (x : List ℕ) (n : ℕ) → node_in (slice_get new k) x ≡ Some n → IsNode (slice_get new n)
  there_stays k x n is =
      elim (cases_entry k x n is) [
        | inl p ↦ subst (λ (m : ℕ). IsNode (slice_get new m)) (sym p.2) (subst IsNode (sym at_new) (is_node_begun kind))
        | inr p ↦ is_node_kept n (tree.there k x n p)
      ]

  no_root_stays : (k : ℕ) (x : List ℕ) (n : ℕ) → node_in (slice_get new k) x ≡ Some n → n ≢ 0
  no_root_stays k x n is =
      elim (cases_entry k x n is) [
        | inl p ↦ (λ zero. s.fresh (subst (λ (m : ℕ). IsNode (slice_get old m)) (sym zero ∙ p.2) (node_from_directory (slice_get old 0) tree.root)))
        | inr p ↦ tree.no_root k x n p
      ]

  once_stays : (j k : ℕ) (a b : List ℕ) (n : ℕ) → node_in (slice_get new j) a ≡ Some n → node_in (slice_get new k) b ≡ Some n → (j ≡ k) × (a ≡ b)
  once_stays j k a b n first second =
      elim (cases_entry j a n first) [
        | inl p ↦ elim (cases_entry k b n second) [
          | inl q ↦ (p.0 ∙ sym q.0, p.1 ∙ sym q.1)
          | inr q ↦ absurd (no_entry k b (q ∙ ap (λ (m : ℕ). Some m) p.2))
        ]
        | inr p ↦ elim (cases_entry k b n second) [
          | inl q ↦ absurd (no_entry j a (p ∙ ap (λ (m : ℕ). Some m) q.2))
          | inr q ↦ tree.once j k a b n p q
        ]
      ]

  -- an old entry is shown as before
  entry_stays : (k : ℕ) (x : List ℕ) (n : ℕ) → node_in (slice_get old k) x ≡ Some n → node_in (slice_get new k) x ≡ Some n
  entry_stays k x n is =
      elim (cases_place k) [
        | inl p ↦ absurd (s.fresh (subst (λ (j : ℕ). IsNode (slice_get old j)) p.0 (node_from_directory (slice_get old k) (shows_in_directory (slice_get old k) x n is))))
        | inr q ↦ elim q [
          | inl p ↦ (let found : node_in (slice_get new k) x ≡ cond (is_named name x) (Some node) (node_of x d.shown) = ap (λ (o : Option Place). node_in o x) p.1 ∙ entry_at-put_entry x d.shown name node in
              let shown : node_of x d.shown ≡ Some n = ap (λ (o : Option Place). node_in o x) (sym (ap (slice_get old) p.0 ∙ s.directory)) ∙ is in
              elim (cases_Bool (is_named name x)) [
                | inl h ↦ (let same : x ≡ name = sym (is_named_is name x h) in
                    let none : node_of x d.shown ≡ None = ap (λ (y : List ℕ). node_of y d.shown) same ∙ s.absent in absurd cc)
                | inr h ↦ (let here : node_in (slice_get new k) x ≡ node_of x d.shown = rw h at found in here ∙ shown)
              ])
          | inr p ↦ ap (λ (o : Option Place). node_in o x) p ∙ is
        ]
      ]

  at_directory : slice_get new at ≡ Some (Dir grown)
  at_directory =
      elim (eqb_tells at node) [
        | inl e ↦ absurd (s.fresh (subst (λ (j : ℕ). IsNode (slice_get old j)) e.1 (subst IsNode (sym s.directory) tt)))
        | inr e ↦ rw (eq-eqb at at refl) at (rw e.0 at (s.each at))
      ]

  new_shown : node_in (slice_get new at) name ≡ Some node
  new_shown = ap (λ (o : Option Place). node_in o name) at_directory ∙ entry_at-put_entry name d.shown name node ∙ rw (is_named_same name) refl

  reached_stays : (n : ℕ) → IsNode (slice_get new n) → (path : List (List ℕ)) × (walk new 0 path ≡ Ok n)
  reached_stays n h =
      let stays = walk_stays old new entry_stays in
      let directory = tree.reached at (subst IsNode (sym s.directory) tt) in
      elim (cases_place n) [
        | inl p ↦ (directory.0 ++ name ∷ [], walk_on new 0 at n directory.0 (name ∷ []) (stays 0 at directory.0 directory.1) (step_first new at n name [] (new_shown ∙ ap (λ (m : ℕ). Some m) (sym p.0))))
        | inr q ↦ elim q [
          | inl p ↦ (let here = tree.reached n (subst (λ (k : ℕ). IsNode (slice_get old k)) (sym p.0) (subst IsNode (sym s.directory) tt)) in (here.0, stays 0 n here.0 here.1))
          | inr p ↦ (let here = tree.reached n (subst IsNode p h) in (here.0, stays 0 n here.0 here.1))
        ]
      ]

  pub is_tree_shows : IsTree new
  is_tree_shows = record {
    few = s.few;
    root = root_stays;
    ordered = ordered_stays;
    there = there_stays;
    no_root = no_root_stays;
    once = once_stays;
    reached = reached_stays;
  }

-- ---- the changes of a tree

is_node_nothing : (place : Option Place) → place ≡ Some Nothing → IsNode place → ⊥
is_node_nothing place is h = subst IsNode is h

is_node_past : (place : Option Place) → place ≡ None → IsNode place → ⊥
is_node_past place is h = subst IsNode is h

slice_get-placed : (places : List Place) (at : ℕ) (name : List ℕ) (node : ℕ) (d : Directory) → slice_get places at ≡ Some (Dir d)
    → (k : ℕ) → slice_get (placed places at name node) k ≡ cond (k == at) (Some (Dir (record d { shown = put_entry d.shown name node }))) (slice_get places k)
slice_get-placed places at name node d is k =
    let within : at < length places = slice_get_within places at (Dir d) is in
    slice_get-set places at k (place_with name node (slice_get places at)) within
    ∙ ap (λ (o : Option Place). cond (k == at) (Some (place_with name node o)) (slice_get places k)) is

-- a tree with one more entry, whose node had nothing, is a tree
pub is_tree_entered : (places : List Place) (dir : ℕ) (name : List ℕ) (kind : Kind) (node : ℕ) → IsTree places → IsTrue (is_name name) → TakesName places dir name → slice_get places node ≡ Some Nothing
    → IsTree (slice_set (placed places dir name node) node (begun kind))
is_tree_entered places dir name kind node tree lawful takes new =
    let d = the_directory (slice_get places dir) takes.directory in
    let first : length (placed places dir name node) ≡ length places = length-set places dir (place_with name node (slice_get places dir)) in
    let second : length (slice_set (placed places dir name node) node (begun kind)) ≡ length (placed places dir name node) = length-set (placed places dir name node) node (begun kind) in
    let within : node < length places = slice_get_within places node Nothing new in
    let within_placed : node < length (placed places dir name node) = omega arith in
    is_tree_shows tree (record {
      directory = d.1;
      absent = ap (λ (o : Option Place). node_in o name) (sym d.1) ∙ takes.absent;
      is_lawful = lawful;
      fresh = is_node_nothing (slice_get places node) new;
      few = omega (arith, tree.few);
      each = λ k. slice_get-set (placed places dir name node) node k (begun kind) within_placed
          ∙ ap (λ (o : Option Place). cond (k == node) (Some (begun kind)) o) (slice_get-placed places dir name node d.0 d.1 k);
    })

pub is_tree_added : (places : List Place) (at : ℕ) (name : List ℕ) (kind : Kind) → IsTree places → IsTrue (is_name name) → TakesName places at name → length places < most_nodes → IsTree (added places at name (begun kind))
is_tree_added places at name kind tree lawful takes few =
    let d = the_directory (slice_get places at) takes.directory in
    let first : length (placed places at name (length places)) ≡ length places = length-set places at (place_with name (length places) (slice_get places at)) in
    let second : length (added places at name (begun kind)) ≡ length (placed places at name (length places)) + 1 = length-append (placed places at name (length places)) (begun kind ∷ []) in
    is_tree_shows tree (record {
      directory = d.1;
      absent = ap (λ (o : Option Place). node_in o name) (sym d.1) ∙ takes.absent;
      is_lawful = lawful;
      fresh = is_node_past (slice_get places (length places)) (slice_get_past places (length places) (omega arith));
      few = omega arith;
      each = λ k. slice_get-push (placed places at name (length places)) (begun kind) k
          ∙ ap (λ (m : ℕ). cond (k == m) (Some (begun kind)) (slice_get (placed places at name (length places)) k)) first
          ∙ ap (λ (o : Option Place). cond (k == length places) (Some (begun kind)) o) (slice_get-placed places at name (length places) d.0 d.1 k);
    })

-- ---- the root alone

nothing_at : (n k : ℕ) (place : Place) → slice_get (replicate n Nothing) k ≡ Some place → place ≡ Nothing
nothing_at n k place is =
    let within : k < length (replicate n Nothing) = slice_get_within (replicate n Nothing) k place is in
    let few : length (replicate n Nothing) ≡ n = length-replicate n Nothing in
    sym (get_or_from_slice_get (replicate n Nothing) k place Nothing is) ∙ get_or-replicate n k Nothing Nothing (omega arith)

not_shown : (n k : ℕ) (place : Option Place) (name : List ℕ) (m : ℕ) → place ≡ slice_get (replicate n Nothing) k → node_in place name ≡ Some m → ⊥
not_shown n k None name m is shown = absurd cc
not_shown n k (Some place) name m is shown =
    let nothing : node_in (Some place) name ≡ None = ap (λ (p : Place). node_in (Some p) name) (nothing_at n k place (sym is)) in
    absurd cc

no_node : (n k : ℕ) (place : Option Place) → place ≡ slice_get (replicate n Nothing) k → IsNode place → ⊥
no_node n k None is h = absurd h
no_node n k (Some place) is h = subst (λ (p : Place). IsNode (Some p)) (nothing_at n k place (sym is)) h

root_shows_none : (n k : ℕ) (name : List ℕ) (m : ℕ) → node_in (slice_get (Dir empty_directory ∷ replicate n Nothing) k) name ≡ Some m → ⊥
root_shows_none n zero name m shown = absurd cc
root_shows_none n (suc k) name m shown = not_shown n k (slice_get (replicate n Nothing) k) name m refl shown

root_reached : (n k : ℕ) → IsNode (slice_get (Dir empty_directory ∷ replicate n Nothing) k) → (path : List (List ℕ)) × (walk (Dir empty_directory ∷ replicate n Nothing) 0 path ≡ Ok k)
root_reached n zero h = ([], refl)
root_reached n (suc k) h = absurd (no_node n k (slice_get (replicate n Nothing) k) refl h)

root_ordered : (n k : ℕ) (d : Directory) → slice_get (Dir empty_directory ∷ replicate n Nothing) k ≡ Some (Dir d) → RisesBehind [] d.shown
root_ordered n zero d is =
    let same : empty_directory ≡ d = cc in
    subst (λ (e : Directory). RisesBehind [] e.shown) same tt
root_ordered n (suc k) d is =
    let nothing : Dir d ≡ Nothing = nothing_at n k (Dir d) is in
    absurd cc

-- the root alone is a tree, however many numbers stand behind it
pub is_tree_root : (n : ℕ) → n < most_nodes → IsTree (Dir empty_directory ∷ replicate n Nothing)
is_tree_root n few = record {
  few = omega (arith, length-replicate n Nothing);
  root = tt;
  ordered = root_ordered n;
  there = λ k name m shown. absurd (root_shows_none n k name m shown);
  no_root = λ k name m shown. absurd (root_shows_none n k name m shown);
  once = λ j k a b m first second. absurd (root_shows_none n j a m first);
  reached = root_reached n;
}

pub nothing_more : (places pushed : List Place) (next : ℕ) → 1 ≤ next → places ≡ Dir empty_directory ∷ replicate (next - 1) Nothing → pushed ≡ places ++ Nothing ∷ [] → pushed ≡ Dir empty_directory ∷ replicate (next + 1 - 1) Nothing
nothing_more places pushed next some so_far is =
    let n : next - 1 + 1 ≡ next + 1 - 1 = omega arith in
    is ∙ ap (λ (l : List Place). l ++ Nothing ∷ []) so_far
    ∙ ap (λ (l : List Place). Dir empty_directory ∷ l) (replicate-append-replicate (next - 1) 1 Nothing ∙ ap (λ (m : ℕ). replicate m Nothing) n)

-- ---- more numbers, at which nothing stands

abbrev more_places : List Place → ℕ → List Place
more_places places n = places ++ replicate n Nothing

at_nothing : (n k : ℕ) (place : Option Place) → slice_get (replicate n Nothing) k ≡ place → (place ≡ None) ⊎ (place ≡ Some Nothing)
at_nothing n k None is = inl refl
at_nothing n k (Some place) is = inr (ap (λ (p : Place). Some p) (nothing_at n k place is))

-- more numbers leave what stands at the others
pub slice_get-grown : (places : List Place) (n k : ℕ) → (slice_get (more_places places n) k ≡ slice_get places k) ⊎ ((slice_get (more_places places n) k ≡ Some Nothing) × (slice_get places k ≡ None))
slice_get-grown [] n k = elim (at_nothing n k (slice_get (replicate n Nothing) k) refl) [
  | inl none ↦ inl none
  | inr nothing ↦ inr (nothing, refl)
]
slice_get-grown (place ∷ places) n zero = inl refl
slice_get-grown (place ∷ places) n (suc k) = slice_get-grown places n k

-- what holds of what stood at a number, and of nothing if it held of no number, holds behind it
grown_keeps : (P : Option Place → Type 0) → (P None → P (Some Nothing)) → (places : List Place) (n k : ℕ) → P (slice_get places k) → P (slice_get (more_places places n) k)
grown_keeps P step places n k h = elim (slice_get-grown places n k) [
  | inl same ↦ subst P (sym same) h
  | inr new ↦ subst P (sym new.0) (step (subst P new.1 h))
]

grown_back : (P : Option Place → Type 0) → (P (Some Nothing) → P None) → (places : List Place) (n k : ℕ) → P (slice_get (more_places places n) k) → P (slice_get places k)
grown_back P step places n k h = elim (slice_get-grown places n k) [
  | inl same ↦ subst P same h
  | inr new ↦ subst P (sym new.1) (step (subst P new.0 h))
]

-- a tree with more numbers is a tree
pub is_tree_grown : (places : List Place) (n : ℕ) → IsTree places → length places + n ≤ most_nodes → IsTree (more_places places n)
is_tree_grown places n tree few =
    let shown = λ (k : ℕ) (x : List ℕ) (m : ℕ). grown_back (λ p. node_in p x ≡ Some m) (λ h. h) places n k in
    let shows = λ (k : ℕ) (x : List ℕ) (m : ℕ). grown_keeps (λ p. node_in p x ≡ Some m) (λ h. h) places n k in
    record {
      few = omega (arith, length-append places (replicate n Nothing), length-replicate n Nothing);
      root = grown_keeps IsDirectory (λ h. h) places n 0 tree.root;
      ordered = λ k d h. tree.ordered k d (grown_back (λ p. p ≡ Some (Dir d)) (λ no. absurd cc) places n k h);
      there = λ k x m h. grown_keeps IsNode (λ no. no) places n m (tree.there k x m (shown k x m h));
      no_root = λ k x m h. tree.no_root k x m (shown k x m h);
      once = λ j k a b m f g. tree.once j k a b m (shown j a m f) (shown k b m g);
      reached = λ m h. (let here = tree.reached m (grown_back IsNode (λ no. no) places n m h) in (here.0, walk_stays places (more_places places n) shows 0 m here.0 here.1));
    }
