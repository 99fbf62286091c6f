-- What the calls on names in memory may rest on, out of their conditions.
use Rattle.std.proofs.Common.{◌≡◌, ◌≢◌, ℕ, ◌<◌, ◌≤◌, ◌+◌, ◌-◌, ◌⊎◌, inl, inr, Bool, true, false, List, [], ◌∷◌, ◌++◌, length, Option, Some, None, Ok, refl, sym, ap, subst, ◌∙◌, arith, replicate, length-append}
use Rattle.std.specs.Prelude.{IsTrue, slice_get, ◌&&◌}
use Rattle.std.proofs.lemmas.List.{length-replicate}
use Rattle.std.proofs.lemmas.Option.{slice_get_within, slice_get-get_or}
use Rattle.std.proofs.lemmas.Bool.{cases_Bool, true≢false}
use Rattle.lower_model.specs.declared.kind.Kind.{Kind}
use Rattle.lower_model.specs.declared.kind.Kind.TheVariants as kinds
use Rattle.lower_model.specs.Name.{is_name}
use Rattle.lower_model.proofs.NameOctets.{length-name}
use Rattle.tree_model.specs.declared.place.Directory.{Directory}
use Rattle.tree_model.specs.declared.place.Place.{Place}
use Rattle.tree_model.specs.declared.place.Place.TheVariants.{Dir, File, Nothing}
use Rattle.tree_model.specs.declared.change.Moving.{Moving}
use Rattle.tree_model.specs.Names.{entry_at, node_of}
use Rattle.tree_model.specs.Walk.{walk, comes_by, kind_of}
use Rattle.tree_model.specs.PlainTree.{PlainTree, most_nodes, kind_or_file, is_dir, is_bare, is_blocked_at, is_empty, has_nothing, shown_in}
use Rattle.tree_model.specs.IsTree.{IsTree, IsDirectory, IsNode, node_in}
use Rattle.tree_model.proofs.Walks.{first_step, ends_at, walk_from, node_from_directory}
use Rattle.plain_tree.specs.Prepared.{Replaces, CanMove}
use Rattle.plain_tree.proofs.IsTreeLemmas.{slice_get-grown}
use Rattle.names_model.specs.declared.entry.Linked.{Linked}
use Rattle.names_model.specs.declared.limits.TheConstants.{LONGEST_PLAIN_NAME}
use Rattle.names_model.specs.Store.{Entries}
use Rattle.names_model.specs.StoreCalls.{IsNew, IsBare, IsAtOrBelow, CanReplace, CanCreate, CanRemove, CanRename}
use Rattle.names_model.specs.StoreCalls.IsAtOrBelow.{at as at_itself, below as one_below}
use Rattle.lower_mem.specs.Names.{link, links, links_in, store_in, HasNoForeign}
use Rattle.lower_mem.proofs.Entries.{name_found, linked_shown, entered, shown_linked, absent_linked}

-- ---- what stands at a place

pub node_is : (places : List Place) (k : ℕ) (p : Option Place) → slice_get places k ≡ p → IsNode p → k < length places
node_is places k (Some q) e h = slice_get_within places k q e
node_is places k None e h = absurd h

is_dir_by : Kind → Bool
is_dir_by kinds.Dir = true
is_dir_by kinds.File = false

is_dir-kind : (p : Option Place) → is_dir p ≡ is_dir_by (kind_or_file (kind_of p))
unfolding is_dir_by
is_dir-kind (Some (Dir d)) = refl
is_dir-kind (Some File) = refl
is_dir-kind (Some Nothing) = refl
is_dir-kind None = refl

no_links : (places : List Place) (d : Directory) → Some (links places d.shown) ≡ Some [] → d.shown ≡ []
no_links places d is = none d.shown (same (links places d.shown) is)
  where
    same : (es : Entries) → Some es ≡ Some [] → es ≡ []
    same es h = cc

    none : (es : List (List ℕ × ℕ)) → links places es ≡ [] → es ≡ []
    none [] h = refl
    none (e ∷ es) h = absurd cc

nothing_in : (d : Directory) → d.shown ≡ [] → d.foreign ≡ [] → has_nothing d ≡ true
nothing_in d shown foreign = rw (shown, foreign) refl

-- what a call may take away is bare
bare_at : (places : List Place) (p : Option Place) → ((d : Directory) → p ≡ Some (Dir d) → d.foreign ≡ []) → (kind_or_file (kind_of p) ≡ kinds.Dir → links_in places p ≡ Some []) → is_bare p ≡ true
bare_at places (Some (Dir d)) none bare = nothing_in d (no_links places d (bare refl)) (none d refl)
bare_at places (Some File) none bare = refl
bare_at places (Some Nothing) none bare = refl
bare_at places None none bare = refl

unblocked : (p : Option Place) (name : List ℕ) → ((d : Directory) → p ≡ Some (Dir d) → d.foreign ≡ []) → is_blocked_at p name ≡ false
unblocked (Some (Dir d)) name none = rw (none d refl) refl
unblocked (Some File) name none = refl
unblocked (Some Nothing) name none = refl
unblocked None name none = refl

lawful_in : (places : List Place) → IsTree places → (p : Option Place) (k : ℕ) (name : List ℕ) (n : ℕ) → slice_get places k ≡ p → node_in p name ≡ Some n → IsTrue (is_name name)
lawful_in places tree (Some (Dir d)) k name n is shown = name_found [] name d.shown n (tree.ordered k d is) shown
lawful_in places tree (Some File) k name n is shown = absurd cc
lawful_in places tree (Some Nothing) k name n is shown = absurd cc
lawful_in places tree None k name n is shown = absurd cc

-- an entry that is shown has a name
pub shown_lawful : (places : List Place) → IsTree places → (k : ℕ) (name : List ℕ) (n : ℕ) → node_in (slice_get places k) name ≡ Some n → IsTrue (is_name name)
shown_lawful places tree k name n shown = lawful_in places tree (slice_get places k) k name n refl shown

-- ---- create

-- the way to a node ends with an entry, or at once
leads_to : (places : List Place) (at n : ℕ) (path : List (List ℕ)) → walk places at path ≡ Ok n → (at ≡ n) ⊎ ((k : ℕ) × (x : List ℕ) × (node_in (slice_get places k) x ≡ Some n))
leads_to places at n [] is = inl (ends_at places at n is)
leads_to places at n (x ∷ path) is =
    let s = first_step places at n x path is in
    elim (leads_to places s.0 n path s.2) [
      | inl e ↦ inr (at, x, s.1 ∙ ap (λ (m : ℕ). Some m) e)
      | inr entry ↦ inr entry
    ]

new_none : (places : List Place) (node : ℕ) → IsTree places → IsNew (store_in places) node → IsNode (slice_get places node) → ⊥
new_none places node tree new there =
    let here = tree.reached node there in
    elim (leads_to places 0 node here.0 here.1) [
      | inl root ↦ no_dir (slice_get places node) (subst (λ (k : ℕ). IsDirectory (slice_get places k)) root tree.root) new.no_dir
      | inr entry ↦ new.no_entry entry.0 entry.1 (link places node) (linked_shown places (slice_get places entry.0) entry.1 node entry.2) refl
    ]
  where
    no_dir : (p : Option Place) → IsDirectory p → links_in places p ≡ None → ⊥
    no_dir (Some (Dir d)) h none = absurd cc
    no_dir (Some File) h none = h
    no_dir (Some Nothing) h none = h
    no_dir None h none = h

-- What making an entry in names in memory rests on.
pub record MayCreate (places : List Place) (dir : ℕ) (name : List ℕ) (node : ℕ) : Type 0 where
  pub lawful : IsTrue (is_name name)
  pub few : node + 1 ≤ most_nodes
  pub directory : IsDirectory (slice_get (places ++ replicate (node + 1 - length places) Nothing) dir)
  pub absent : node_in (slice_get (places ++ replicate (node + 1 - length places) Nothing) dir) name ≡ None
  pub nothing : slice_get (places ++ replicate (node + 1 - length places) Nothing) node ≡ Some Nothing
  pub no_entry : (k : ℕ) (x : List ℕ) → node_in (slice_get (places ++ replicate (node + 1 - length places) Nothing) k) x ≡ Some node → ⊥

module _ (places : List Place) (n : ℕ) where
  abbrev more : List Place
  more = places ++ replicate n Nothing

  keeps : (P : Option Place → Type 0) → (P None → P (Some Nothing)) → (k : ℕ) → P (slice_get places k) → P (slice_get more k)
  keeps P step k h = elim (slice_get-grown places n k) [
    | inl same ↦ subst P (sym same) h
    | inr fresh ↦ subst P (sym fresh.0) (step (subst P fresh.1 h))
  ]

  back : (P : Option Place → Type 0) → (P (Some Nothing) → P None) → (k : ℕ) → P (slice_get more k) → P (slice_get places k)
  back P step k h = elim (slice_get-grown places n k) [
    | inl same ↦ subst P same h
    | inr fresh ↦ subst P (sym fresh.1) (step (subst P fresh.0 h))
  ]

  -- where no node stands, nothing does
  nothing_at : (k : ℕ) → (IsNode (slice_get places k) → ⊥) → k < length places + n → slice_get more k ≡ Some Nothing
  nothing_at k none lt =
      let here : k < length more = omega (arith, length-append places (replicate n Nothing), length-replicate n Nothing) in
      elim (slice_get-grown places n k) [
        | inr fresh ↦ fresh.0
        | inl same ↦ by (slice_get more k) (slice_get-get_or more k Nothing here) (λ h. none (subst IsNode same h))
      ]
    where
      by : (p : Option Place) {q : Place} → p ≡ Some q → (IsNode p → ⊥) → p ≡ Some Nothing
      by (Some (Dir d)) is none = absurd (none tt)
      by (Some File) is none = absurd (none tt)
      by (Some Nothing) is none = refl
      by None is none = absurd cc

pub may_create : (places : List Place) (dir : ℕ) (name : List ℕ) (node : ℕ) → IsTree places → CanCreate (store_in places) dir name node → MayCreate places dir name node
may_create places dir name node tree can =
    let n = node + 1 - length places in
    let e = entered places (slice_get places dir) can.entries can.is_dir in
    record {
      lawful = can.lawful;
      few = omega (arith, can.few);
      directory = keeps places n IsDirectory (λ nothing. nothing) dir e.directory;
      absent = keeps places n (λ p. node_in p name ≡ None) (λ h. h) dir (absent_linked places (slice_get places dir) can.entries name can.is_dir can.absent);
      nothing = nothing_at places n node (new_none places node tree can.new) (omega arith);
      no_entry = λ k x h. new_none places node tree can.new (tree.there k x node (back places n (λ p. node_in p x ≡ Some node) (λ nothing. nothing) k h));
    }

-- ---- remove

-- What removing an entry rests on.
pub record MayRemove (places : List Place) (dir : ℕ) (name : List ℕ) (node : ℕ) : Type 0 where
  pub lawful : IsTrue (is_name name)
  pub there : node_in (slice_get places dir) name ≡ Some node
  pub bare : is_bare (slice_get places node) ≡ true
  pub apart : dir ≢ node

pub bare_shows : (p : Option Place) (x : List ℕ) (n : ℕ) → is_bare p ≡ true → node_in p x ≡ Some n → ⊥
bare_shows p x n bare h = (let none : node_in p x ≡ None = ap (node_of x) (empty (shown_in p) (left _ _ bare)) in absurd cc)
  where
    empty : (xs : List (List ℕ × ℕ)) → is_empty xs ≡ true → xs ≡ []
    empty [] h = refl
    empty (x ∷ xs) h = absurd (true≢false (sym h))

    left : (a b : Bool) → (a && b) ≡ true → a ≡ true
    left true b h = refl
    left false b h = absurd (true≢false (sym h))

there_of : (places : List Place) (dir : ℕ) (name : List ℕ) (entries : Entries) (l : Linked) → store_in places dir ≡ Some entries → entry_at name entries ≡ Some l → (node_in (slice_get places dir) name ≡ Some l.node) × (l ≡ link places l.node)
there_of places dir name entries l is there = shown_linked places (slice_get places dir) entries name l is there

bare_of : (places : List Place) (l : Linked) → HasNoForeign places → l ≡ link places l.node → IsBare (store_in places) l → is_bare (slice_get places l.node) ≡ true
bare_of places l none is bare = bare_at places (slice_get places l.node) (none l.node) (λ kind. bare (ap (λ (x : Linked). x.kind) is ∙ kind))

pub may_remove : (places : List Place) (dir : ℕ) (name : List ℕ) (node : ℕ) → IsTree places → HasNoForeign places → CanRemove (store_in places) dir name → node_in (slice_get places dir) name ≡ Some node → MayRemove places dir name node
may_remove places dir name node tree none can shown =
    let t = there_of places dir name can.entries can.linked can.is_dir can.there in
    let same : can.linked.node ≡ node = (let both : Some can.linked.node ≡ Some node = sym t.0 ∙ shown in cc) in
    let bare : is_bare (slice_get places node) ≡ true = ap (λ (k : ℕ). is_bare (slice_get places k)) (sym same) ∙ bare_of places can.linked none t.1 can.bare in
    record {
      lawful = shown_lawful places tree dir name node shown;
      there = shown;
      bare = bare;
      apart = λ e. bare_shows (slice_get places node) name node bare (ap (λ (k : ℕ). node_in (slice_get places k) name) (sym e) ∙ shown);
    }

-- the entry that is asked for is there
pub is_there : (places : List Place) (dir : ℕ) (name : List ℕ) → CanRemove (store_in places) dir name → node_in (slice_get places dir) name ≡ None → ⊥
is_there places dir name can none = (let t = (there_of places dir name can.entries can.linked can.is_dir can.there).0 in absurd cc)

-- ---- rename

below_walk : (places : List Place) (top at to : ℕ) (path : List (List ℕ)) → walk places at path ≡ Ok to → IsAtOrBelow (store_in places) top at → IsAtOrBelow (store_in places) top to
below_walk places top at to [] is h = subst (IsAtOrBelow (store_in places) top) (ends_at places at to is) h
below_walk places top at to (x ∷ path) is h =
    let s = first_step places at to x path is in
    below_walk places top s.0 to path s.2 (one_below h x (link places s.0) (linked_shown places (slice_get places at) x s.0 s.1))

outside : (places : List Place) (node to : ℕ) (path : List (List ℕ)) → walk places 0 path ≡ Ok to → (IsAtOrBelow (store_in places) node to → ⊥) → comes_by places node 0 path ≡ false
outside places node to path is apart = elim (cases_Bool (comes_by places node 0 path)) [
  | inl by ↦ (let rest = walk_from places node 0 to path is by in absurd (apart (below_walk places node node to rest.0 rest.1 at_itself)))
  | inr around ↦ around
]

replaces : (t : PlainTree) (node to : ℕ) (name : List ℕ) (l : Linked) (goes_into : Entries) (target : Option ℕ) → HasNoForeign t.places → store_in t.places to ≡ Some goes_into → l ≡ link t.places l.node → l.node ≡ node → node_in (slice_get t.places to) name ≡ target
    → (o : Option Linked) → entry_at name goes_into ≡ o → CanReplace (store_in t.places) l o → Replaces t node to name target
replaces t node to name l goes_into None none entries is same there o has can = unblocked (slice_get t.places to) name (none to)
replaces t node to name l goes_into (Some target) none entries is same there None has can =
    (let absent : node_in (slice_get t.places to) name ≡ None = absent_linked t.places (slice_get t.places to) goes_into name entries has in absurd cc)
replaces t node to name l goes_into (Some target) none entries is same there (Some other) has can =
    let o = there_of t.places to name goes_into other entries has in
    let node_is : other.node ≡ target = (let e : Some other.node ≡ Some target = sym o.0 ∙ there in cc) in
    let kinds_are : kind_or_file (kind_of (slice_get t.places other.node)) ≡ kind_or_file (kind_of (slice_get t.places l.node)) = sym (ap (λ (x : Linked). x.kind) o.1) ∙ can.1 ∙ ap (λ (x : Linked). x.kind) is in
    let alike : is_dir (slice_get t.places other.node) ≡ is_dir (slice_get t.places l.node) = is_dir-kind (slice_get t.places other.node) ∙ ap is_dir_by kinds_are ∙ sym (is_dir-kind (slice_get t.places l.node)) in
    record {
      other = λ e. can.0 (node_is ∙ e ∙ sym same);
      alike = ap (λ (k : ℕ). is_dir (slice_get t.places k)) (sym node_is) ∙ alike ∙ ap (λ (k : ℕ). is_dir (slice_get t.places k)) same;
      bare = ap (λ (k : ℕ). is_bare (slice_get t.places k)) (sym node_is) ∙ bare_of t.places other none o.1 can.2;
    }

-- What moving an entry rests on.
pub may_move : (t : PlainTree) (m : Moving) → IsTree t.places → HasNoForeign t.places → t.limit ≡ LONGEST_PLAIN_NAME → CanRename (store_in t.places) m.from m.was m.to m.name → node_in (slice_get t.places m.from) m.was ≡ Some m.node → node_in (slice_get t.places m.to) m.name ≡ m.target → CanMove t m
may_move t m tree none limit can shown target =
    let e = there_of t.places m.from m.was can.entries can.linked can.is_dir can.there in
    let same : can.linked.node ≡ m.node = (let both : Some can.linked.node ≡ Some m.node = sym e.0 ∙ shown in cc) in
    let to = entered t.places (slice_get t.places m.to) can.goes_into can.to_dir in
    let way = tree.reached m.to (node_from_directory (slice_get t.places m.to) to.directory) in
    record {
      there = shown;
      directory = to.directory;
      target = target;
      replaces = replaces t m.node m.to m.name can.linked can.goes_into m.target none can.to_dir e.1 same target (entry_at m.name can.goes_into) refl can.replaces;
      path = way.0;
      reached = way.1;
      outside = λ dir. outside t.places m.node m.to way.0 way.1 (λ b. can.not_inside (subst (λ (k : ℕ). IsAtOrBelow (store_in t.places) k m.to) (sym same) b));
      fits = (let short = length-name m.name can.lawful in omega arith);
    }

pub was_there : (places : List Place) (dir : ℕ) (name : List ℕ) (to : ℕ) (new : List ℕ) → CanRename (store_in places) dir name to new → node_in (slice_get places dir) name ≡ None → ⊥
was_there places dir name to new can none = (let t = (there_of places dir name can.entries can.linked can.is_dir can.there).0 in absurd cc)
