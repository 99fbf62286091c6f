-- A tree that is being laid out.
use Rattle.std.proofs.Common.{◌≡◌, ℕ, ◌+◌, ◌<◌, ◌≤◌, ◌≢◌, List, [], ◌∷◌, ◌++◌, length, get_or, Option, Some, None, refl, sym, ap, subst, ◌∙◌, append_assoc, arith, inl, inr}
use Rattle.std.specs.Prelude.{slice_get}
use Rattle.std.proofs.lemmas.Bool.{cases_eq}
use Rattle.std.proofs.lemmas.List.{length_push}
use Rattle.std.proofs.lemmas.Option.{slice_get_read, slice_get_within, same_Some}
use Rattle.lower_model.specs.LowerTree.{root_path, AreEntries, IsRoot, IsLowerTree, HoldsOctets}
use Rattle.lower_model.specs.declared.kind.Kind.{Kind}
use Rattle.lower_model.specs.declared.kind.Kind.TheVariants as kinds
use Rattle.lower_model.specs.declared.limits.TheConstants.{MOST_ENTRIES}
use Rattle.lower_model.specs.declared.node.LowerNode.{LowerNode}
use Rattle.tree_model.specs.declared.place.Directory.{Directory}
use Rattle.tree_model.specs.declared.place.Place.{Place}
use Rattle.tree_model.specs.declared.place.Place.TheVariants.{Dir, File, Nothing}
use Rattle.tree_model.specs.Names.{node_of, RisesBehind}
use Rattle.tree_model.specs.Walk.{kind_of}
use Rattle.tree_model.specs.IsTree.{IsTree, IsNode, IsDirectory, node_in}
use Rattle.names_model.specs.LowerPaths.{file_in, tree_paths, paths_of}
use Rattle.body_model.specs.LowerFile.{LowerFile}
use Rattle.lower_mem.specs.Names.{store_in}
use Rattle.lower_mem.specs.Bodies.{AllFit}
use Rattle.tree_model.specs.PlainTree.{shown_in}
use Rattle.lower_mem.specs.Laid.{Remaining, octets_kept, entry_node}
use Rattle.lower_mem.proofs.Traced.{Traced, pending, next_fresh, traced_few, traced_more, traced_root}
use Rattle.lower_mem.proofs.Kept.{Files, Kept, Left, kept_root, kept_more, left_more, kept_holds}
use Rattle.lower_mem.proofs.Carried.{same_paths}
use Rattle.lower_mem.proofs.Opens.{RiseWithin, RiseWithin-split, RiseWithin-push, RiseWithin-wider, rest_of, rest_of-behind, rest_of-own, rest_of-other, Follows, Follows-pop, opens, next_entry, path_after, AreEntries-push, path_after-push}

-- Nodes of a tree in preorder, as far as they are laid out, with the directories whose entries are being laid out.
pub record Laying (files now : Files) (places : List Place) (nodes : List LowerNode) (os : List Remaining) : Type 0 where
  pub root : LowerNode
  pub entries : List LowerNode
  pub origin : List ℕ
  pub parts : nodes ≡ root ∷ entries
  pub is_root : IsRoot root
  pub are : AreEntries root_path 1 entries
  pub numbers : RiseWithin 0 os (1 + length entries)
  pub follows : Follows os (path_after root_path 1 entries)
  pub traced : Traced places root entries (rest_of os) origin
  pub kept : Kept files places (root ∷ entries) origin
  pub left : Left files now origin

shown_in-rises : (places : List Place) → IsTree places → (n : ℕ) (p : Option Place) → slice_get places n ≡ p → RisesBehind [] (shown_in p)
shown_in-rises places tree n (Some (Dir d)) e = tree.ordered n d e
shown_in-rises places tree n (Some File) e = tt
shown_in-rises places tree n (Some Nothing) e = tt
shown_in-rises places tree n None e = tt

-- what stands at the root, as it is read
root_place : (places : List Place) → IsTree places → (place : Place) → place ≡ get_or places 0 place → (slice_get places 0 ≡ Some place) × IsDirectory (Some place)
root_place [] tree place is = absurd tree.root
root_place (p ∷ places) tree place is = (ap Some (sym is), subst (λ (q : Place). IsDirectory (Some q)) (sym is) tree.root)

pub root_is_dir : (places : List Place) → IsTree places → (place : Place) → place ≡ get_or places 0 place → ((d : Directory) → place ≡ Dir d → ⊥) → ⊥
root_is_dir places tree place is none = no_dir place none (root_place places tree place is).1
  where
    no_dir : (p : Place) → ((d : Directory) → p ≡ Dir d → ⊥) → IsDirectory (Some p) → ⊥
    no_dir (Dir d) none h = none d refl
    no_dir File none h = h
    no_dir Nothing none h = h

pub laying_root : (files : Files) (places : List Place) → IsTree places → (place : Place) → place ≡ get_or places 0 place → (d : Directory) → place ≡ Dir d → (root : LowerNode) → IsRoot root → Laying files files places (root ∷ []) (record { number = 0; rest = d.shown } ∷ [])
laying_root files places tree place is d dir root is_root =
    let at : slice_get places 0 ≡ Some (Dir d) = (root_place places tree place is).0 ∙ ap Some dir in
    record {
      root = root;
      entries = [];
      origin = 0 ∷ [];
      parts = refl;
      is_root = is_root;
      are = tt;
      numbers = (omega arith, omega arith);
      follows = (refl, tree.ordered 0 d at, tt);
      traced = traced_root places root (rest_of (record { number = 0; rest = d.shown } ∷ [])) (ap kind_of at ∙ ap Some (sym is_root.1)) (λ a. ap (λ (p : Option Place). node_in p a) (sym at));
      kept = kept_root files places root tree.root;
      left = λ m apart. refl;
    }

pub laying_few : {files now : Files} (places : List Place) (nodes : List LowerNode) (os : List Remaining) → Laying files now places nodes os → length nodes ≤ length places
laying_few places nodes os h = omega (arith, ap length h.parts, traced_few places h.root h.entries (rest_of os) h.origin h.traced)

-- all is laid out
pub laying_end : {files now : Files} (places : List Place) (nodes : List LowerNode) → IsTree places → Laying files now places nodes [] → IsLowerTree nodes × ((path : List (List ℕ)) → tree_paths nodes path ≡ paths_of (store_in places) files path)
laying_end {files} places nodes tree h =
    let few : length h.entries ≤ MOST_ENTRIES = omega (arith, tree.few, traced_few places h.root h.entries (rest_of []) h.origin h.traced) in
    rw h.parts ((h.is_root, few, h.are), same_paths places h.root h.entries h.origin h.traced files h.kept h.is_root.1)

module _ (files now : Files) (fit : AllFit files) (places : List Place) (tree : IsTree places) (nodes : List LowerNode) (os : List Remaining) (o : Remaining) (h : Laying files now places nodes (os ++ o ∷ [])) where
  numbers : RiseWithin 0 os o.number × (o.number < 1 + length h.entries)
  numbers = RiseWithin-split 0 os o (1 + length h.entries) h.numbers

  -- the last of the directories is done
  pub laying_pop : o.rest ≡ [] → Laying files now places nodes os
  laying_pop empty =
      let same : (k : ℕ) → rest_of (os ++ o ∷ []) k ≡ rest_of os k = λ k. elim (cases_eq k o.number) [
        | inl e ↦ rw e (rest_of-own 0 os o numbers.0 ∙ empty ∙ sym (rest_of-behind 0 os o.number o.number numbers.0 (omega arith)))
        | inr ne ↦ rest_of-other os o k ne
      ] in
      let rest : rest_of (os ++ o ∷ []) ≡ rest_of os = λ i k. same k i in
      record {
        root = h.root;
        entries = h.entries;
        origin = h.origin;
        parts = h.parts;
        is_root = h.is_root;
        are = h.are;
        numbers = RiseWithin-wider 0 os o.number (1 + length h.entries) numbers.0 (omega (arith, numbers.1));
        follows = Follows-pop os o (path_after root_path 1 h.entries) h.follows;
        traced = subst (λ (r : ℕ → List (List ℕ × ℕ)). Traced places h.root h.entries r h.origin) rest h.traced;
        kept = h.kept;
        left = h.left;
      }

  module _ (name : List ℕ) (node : ℕ) (es : List (List ℕ × ℕ)) (left : o.rest ≡ (name, node) ∷ es) where
    rest_here : rest_of (os ++ o ∷ []) o.number ≡ (name, node) ∷ es
    rest_here = rest_of-own 0 os o numbers.0 ∙ left

    -- the next entry leads to a node
    pub next_node : IsNode (slice_get places node)
    next_node = tree.there (get_or h.origin o.number 0) name node (pending places h.root h.entries (rest_of (os ++ o ∷ [])) h.origin h.traced o.number name node es numbers.1 rest_here).1

    -- the directories that are open behind the next entry, of this kind
    abbrev pub open_behind : Kind → List Remaining
    open_behind kind = os ++ record { number = o.number; rest = es } ∷ opens kind (1 + length h.entries) (shown_in (slice_get places node))

    abbrev pub left_behind : Remaining
    left_behind = record { number = o.number; rest = es }

    numbers_more : (kind : Kind) → RiseWithin 0 (open_behind kind) (1 + length h.entries + 1)
    numbers_more kinds.File = RiseWithin-push 0 os left_behind (1 + length h.entries + 1) numbers.0 (omega (arith, numbers.1))
    numbers_more kinds.Dir =
        let inner : Remaining = record { number = 1 + length h.entries; rest = shown_in (slice_get places node) } in
        let first : RiseWithin 0 (os ++ left_behind ∷ []) (1 + length h.entries) = RiseWithin-push 0 os left_behind (1 + length h.entries) numbers.0 numbers.1 in
        subst (λ (l : List Remaining). RiseWithin 0 l (1 + length h.entries + 1)) (append_assoc os (left_behind ∷ []) (inner ∷ [])) (RiseWithin-push 0 (os ++ left_behind ∷ []) inner (1 + length h.entries + 1) first (omega arith))

    abbrev pub node_laid : Kind → LowerNode
    node_laid kind = entry_node o.number kind name (octets_kept kind (now node))

    -- its octets weren't taken yet
    still_there : now node ≡ files node
    still_there = h.left node (next_fresh places tree h.root h.entries (rest_of (os ++ o ∷ [])) h.origin h.traced o.number name node es numbers.1 rest_here)

    new_kept : (kind : Kind) → kind_of (slice_get places node) ≡ Some kind → slice_get places node ≡ Some File → file_in (Some (node_laid kind)) ≡ files node
    new_kept kinds.Dir e file = absurd (let is : kind_of (Some File) ≡ Some kinds.Dir = ap kind_of (sym file) ∙ e in cc)
    new_kept kinds.File e file = still_there

    rest_own : (kind : Kind) → rest_of (open_behind kind) o.number ≡ es
    rest_own kinds.File = rest_of-own 0 os left_behind numbers.0
    rest_own kinds.Dir =
        let inner : Remaining = record { number = 1 + length h.entries; rest = shown_in (slice_get places node) } in
        let ne : o.number ≢ 1 + length h.entries = λ q. omega (arith, numbers.1) in
        ap (λ (l : List Remaining). rest_of l o.number) (sym (append_assoc os (left_behind ∷ []) (inner ∷ []))) ∙ rest_of-other (os ++ left_behind ∷ []) inner o.number ne ∙ rest_of-own 0 os left_behind numbers.0

    rest_others : (kind : Kind) (k : ℕ) → k < 1 + length h.entries → k ≢ o.number → rest_of (open_behind kind) k ≡ rest_of (os ++ o ∷ []) k
    rest_others kinds.File k lt ne = rest_of-other os left_behind k ne ∙ sym (rest_of-other os o k ne)
    rest_others kinds.Dir k lt ne =
        let inner : Remaining = record { number = 1 + length h.entries; rest = shown_in (slice_get places node) } in
        let apart : k ≢ 1 + length h.entries = λ q. omega arith in
        ap (λ (l : List Remaining). rest_of l k) (sym (append_assoc os (left_behind ∷ []) (inner ∷ []))) ∙ rest_of-other (os ++ left_behind ∷ []) inner k apart ∙ rest_of-other os left_behind k ne ∙ sym (rest_of-other os o k ne)

    no_entries : (p : Option Place) (a : List ℕ) → kind_of p ≡ Some kinds.File → None ≡ node_in p a
    no_entries (Some (Dir d)) a e = absurd cc
    no_entries (Some File) a e = refl
    no_entries (Some Nothing) a e = refl
    no_entries None a e = refl

    shown_entries : (p : Option Place) (a : List ℕ) → node_of a (shown_in p) ≡ node_in p a
    shown_entries (Some (Dir d)) a = refl
    shown_entries (Some File) a = refl
    shown_entries (Some Nothing) a = refl
    shown_entries None a = refl

    rest_new : (kind : Kind) → kind_of (slice_get places node) ≡ Some kind → (a : List ℕ) → node_of a (rest_of (open_behind kind) (1 + length h.entries)) ≡ node_in (slice_get places node) a
    rest_new kinds.File e a =
        let first : RiseWithin 0 (os ++ left_behind ∷ []) (1 + length h.entries) = RiseWithin-push 0 os left_behind (1 + length h.entries) numbers.0 numbers.1 in
        ap (node_of a) (rest_of-behind 0 (os ++ left_behind ∷ []) (1 + length h.entries) (1 + length h.entries) first (omega arith)) ∙ no_entries (slice_get places node) a e
    rest_new kinds.Dir e a =
        let inner : Remaining = record { number = 1 + length h.entries; rest = shown_in (slice_get places node) } in
        let first : RiseWithin 0 (os ++ left_behind ∷ []) (1 + length h.entries) = RiseWithin-push 0 os left_behind (1 + length h.entries) numbers.0 numbers.1 in
        ap (λ (l : List Remaining). node_of a (rest_of l (1 + length h.entries))) (sym (append_assoc os (left_behind ∷ []) (inner ∷ []))) ∙ ap (node_of a) (rest_of-own 0 (os ++ left_behind ∷ []) inner first) ∙ shown_entries (slice_get places node) a

    -- the next entry is laid out
    pub laying_more : (kind : Kind) → kind_of (slice_get places node) ≡ Some kind → (now' : Files) → ((m : ℕ) → m ≢ node → now' m ≡ now m) → Laying files now' places (nodes ++ node_laid kind ∷ []) (open_behind kind)
    laying_more kind e now' others =
        let x = node_laid kind in
        let path = path_after root_path 1 h.entries in
        let n = next_entry path os o x node es (1 + length h.entries) (shown_in (slice_get places node)) numbers.0 h.follows refl left (kept_holds kind (now node) (subst (λ (f : LowerFile). HoldsOctets kinds.File f.attribute f.body) (sym still_there) (fit node))) (shown_in-rises places tree node (slice_get places node) refl) in
        let len : 1 + length h.entries + 1 ≡ 1 + length (h.entries ++ x ∷ []) = omega (arith, length_push h.entries x) in
        record {
          root = h.root;
          entries = h.entries ++ x ∷ [];
          origin = h.origin ++ node ∷ [];
          parts = ap (λ (l : List LowerNode). l ++ x ∷ []) h.parts;
          is_root = h.is_root;
          are = AreEntries-push root_path 1 h.entries x h.are n.fits;
          numbers = subst (RiseWithin 0 (open_behind kind)) len (numbers_more kind);
          follows = rw (path_after-push root_path 1 h.entries x) n.follows;
          traced = traced_more places tree h.root h.entries (rest_of (os ++ o ∷ [])) h.origin h.traced x node es numbers.1 rest_here n.rises (rest_of (open_behind kind)) (record {
            kind = e;
            parent = rest_own kind;
            others = rest_others kind;
            own = rest_new kind e;
          });
          kept = kept_more files places (h.root ∷ h.entries) h.origin x node (omega (arith, h.traced.many)) h.kept (new_kept kind e);
          left = left_more files places (h.root ∷ h.entries) h.origin x node now now' h.left others;
        }

-- One turn: the last of the open directories, the entry that is taken of it, and what is left.
pub record Turn (files now : Files) (places : List Place) (nodes : List LowerNode) (stack os : List Remaining) (left : Remaining) (name : List ℕ) (node : ℕ) : Type 0 where
  pub fit : AllFit files
  pub tree : IsTree places
  pub laying : Laying files now places nodes stack
  pub taken : stack ≡ os ++ record { number = left.number; rest = (name, node) ∷ left.rest } ∷ []

module _ {files now : Files} {places : List Place} {nodes : List LowerNode} {stack os : List Remaining} {left : Remaining} {name : List ℕ} {node : ℕ} (t : Turn files now places nodes stack os left name node) where
  abbrev first : Remaining
  first = record { number = left.number; rest = (name, node) ∷ left.rest }

  here : Laying files now places nodes (os ++ first ∷ [])
  here = subst (Laying files now places nodes) t.taken t.laying

  pub turn_node : IsNode (slice_get places node)
  turn_node = next_node files now t.fit places t.tree nodes os first here name node left.rest refl

  node_within : (p : Option Place) → slice_get places node ≡ p → IsNode p → node < length places
  node_within (Some p) e h = slice_get_within places node p e
  node_within None e h = absurd h

  pub turn_within : node < length places
  turn_within = node_within (slice_get places node) refl turn_node

  module _ (place : Place) (kind : Kind) (nodes' : List LowerNode) (is : place ≡ get_or places node place) (kind_is : kind_of (Some place) ≡ Some kind) (pushed : nodes' ≡ nodes ++ entry_node left.number kind name (octets_kept kind (now node)) ∷ []) (now' : Files) (others : (m : ℕ) → m ≢ node → now' m ≡ now m) where
    at : slice_get places node ≡ Some place
    at = slice_get_read places (length places) node place refl turn_within is

    more : Laying files now' places nodes' (os ++ left ∷ opens kind (length nodes) (shown_in (Some place)))
    more =
        let len : 1 + length here.entries ≡ length nodes = omega (arith, ap length here.parts) in
        let next = laying_more files now t.fit places t.tree nodes os first here name node left.rest refl kind (ap kind_of at ∙ kind_is) now' others in
        let next' : Laying files now' places nodes' (os ++ left ∷ opens kind (1 + length here.entries) (shown_in (slice_get places node))) = subst (λ (l : List LowerNode). Laying files now' places l (os ++ left ∷ opens kind (1 + length here.entries) (shown_in (slice_get places node)))) (sym pushed) next in
        subst (λ (p : Option Place). Laying files now' places nodes' (os ++ left ∷ opens kind (length nodes) (shown_in p))) at (subst (λ (n : ℕ). Laying files now' places nodes' (os ++ left ∷ opens kind n (shown_in (slice_get places node)))) len next')

    -- a directory is opened
    pub turn_dir : (d : Directory) (number : ℕ) (stack' : List Remaining) → place ≡ Dir d → number ≡ length nodes → stack' ≡ (os ++ left ∷ []) ++ record { number = number; rest = d.shown } ∷ [] → Laying files now' places nodes' stack'
    turn_dir d number stack' dir count after =
        let is_dir : kind ≡ kinds.Dir = same_Some kind kinds.Dir (sym kind_is ∙ ap (λ (p : Place). kind_of (Some p)) dir) in
        let both = subst (λ (p : Place). Laying files now' places nodes' (os ++ left ∷ opens kind (length nodes) (shown_in (Some p)))) dir more in
        let dirs = subst (λ (k : Kind). Laying files now' places nodes' (os ++ left ∷ opens k (length nodes) d.shown)) is_dir both in
        let numbered = subst (λ (n : ℕ). Laying files now' places nodes' (os ++ left ∷ record { number = n; rest = d.shown } ∷ [])) (sym count) dirs in
        subst (Laying files now' places nodes') (sym (append_assoc os (left ∷ []) (record { number = number; rest = d.shown } ∷ [])) ∙ sym after) numbered

    is_file : (p : Place) (k : Kind) → kind_of (Some p) ≡ Some k → ((d : Directory) → p ≡ Dir d → ⊥) → k ≡ kinds.File
    is_file (Dir d) k e none = absurd (none d refl)
    is_file File k e none = sym (same_Some kinds.File k e)
    is_file Nothing k e none = absurd cc

    -- a file is not
    pub turn_file : (stack' : List Remaining) → ((d : Directory) → place ≡ Dir d → ⊥) → stack' ≡ os ++ left ∷ [] → Laying files now' places nodes' stack'
    turn_file stack' none after =
        let laid = subst (λ (k : Kind). Laying files now' places nodes' (os ++ left ∷ opens k (length nodes) (shown_in (Some place)))) (is_file place kind kind_is none) more in
        subst (Laying files now' places nodes') (sym after) laid
