-- The places that a lower tree shows.
use Rattle.std.proofs.Common.{◌≡◌, ℕ, zero, suc, ◌+◌, ◌-◌, ◌<◌, ◌≤◌, ◌≢◌, List, [], ◌∷◌, ◌++◌, length, take, get_or, set, replicate, Option, Some, None, refl, sym, ap, subst, ◌∙◌, append_assoc, arith}
use Rattle.std.specs.Prelude.{slice_get, slice_set, IsTrue}
use Rattle.std.proofs.lemmas.Option.{slice_get_within}
use Rattle.std.proofs.lemmas.List.{set-append_left, set_at, append-nil, take_all, take_more, length-set, length-take-le}
use Rattle.lower_model.specs.Name.{is_name}
use Rattle.lower_model.specs.LowerTree.{IsLowerTree}
use Rattle.lower_model.specs.declared.kind.Kind.{Kind}
use Rattle.lower_model.specs.declared.kind.Kind.TheVariants as kinds
use Rattle.lower_model.specs.declared.node.LowerNode.{LowerNode}
use Rattle.tree_model.specs.declared.place.Place.{Place}
use Rattle.tree_model.specs.declared.place.Place.TheVariants.{Dir, Nothing}
use Rattle.tree_model.specs.Names.{node_of}
use Rattle.tree_model.specs.PlainTree.{PlainTree, begun, place_with, placed}
use Rattle.tree_model.specs.IsTree.{IsDirectory, node_in}
use Rattle.tree_model.specs.Shown.{entries_in, put_entries, place_of, places_of, shown_places}
use Rattle.plain_tree.specs.Entered.{entered}
use Rattle.tree_model.proofs.Rising.{put_entries-append, put_entries-rising}
use Rattle.tree_model.proofs.NodeEntries.{entries_in-own, entries_in-other, entries_in-none, slice_get-append, slice_get-at, get_append_left, slice_get-places_of}
use Rattle.tree_model.proofs.Standing.{HasDir, Fits, entry_fits}

-- ---- a place

pub length-places_of : (entries : List LowerNode) (from : ℕ) (nodes : List LowerNode) → length (places_of entries from nodes) ≡ length nodes
length-places_of entries from [] = refl
length-places_of entries from (x ∷ nodes) = ap suc (length-places_of entries (from + 1) nodes)

places_of-append : (entries : List LowerNode) (from : ℕ) (xs ys : List LowerNode) → places_of entries from (xs ++ ys) ≡ places_of entries from xs ++ places_of entries (from + length xs) ys
places_of-append entries from [] ys = let e : from ≡ from + 0 = omega arith in ap (λ (m : ℕ). places_of entries m ys) e
places_of-append entries from (x ∷ xs) ys =
    let e : from + 1 + length xs ≡ from + suc (length xs) = omega arith in
    let next = places_of-append entries (from + 1) xs ys in
    ap (λ (t : List Place). place_of entries from x.kind ∷ t) (next ∙ ap (λ (m : ℕ). places_of entries (from + 1) xs ++ places_of entries m ys) e)

-- ---- one more entry

module _ (entries : List LowerNode) (x : LowerNode) where
  place_of-other : (number : ℕ) (kind : Kind) → x.parent ≢ number → place_of (entries ++ x ∷ []) number kind ≡ place_of entries number kind
  place_of-other number kinds.Dir ne = ap (λ (t : List (List ℕ × ℕ)). Dir (record { shown = put_entries [] t; foreign = [] })) (entries_in-other number 1 entries x ne)
  place_of-other number kinds.File ne = refl

  places_of-behind : (from : ℕ) (nodes : List LowerNode) → x.parent < from → places_of (entries ++ x ∷ []) from nodes ≡ places_of entries from nodes
  places_of-behind from [] lt = refl
  places_of-behind from (y ∷ nodes) lt =
      let ne : x.parent ≢ from = λ q. omega arith in
      rw (place_of-other from y.kind ne, places_of-behind (from + 1) nodes (omega arith)) refl

  place_of-own : (number : ℕ) → x.parent ≡ number → place_of (entries ++ x ∷ []) number kinds.Dir ≡ place_with x.name (1 + length entries) (Some (place_of entries number kinds.Dir))
  place_of-own number e =
      let own = entries_in-own 1 entries x ∙ ap (λ (k : ℕ). entries_in k 1 entries ++ (x.name, 1 + length entries) ∷ []) e in
      let all : entries_in number 1 (entries ++ x ∷ []) ≡ entries_in number 1 entries ++ (x.name, 1 + length entries) ∷ [] = ap (λ (k : ℕ). entries_in k 1 (entries ++ x ∷ [])) (sym e) ∙ own in
      ap (λ (t : List (List ℕ × ℕ)). Dir (record { shown = t; foreign = [] })) (ap (put_entries []) all ∙ put_entries-append [] (entries_in number 1 entries) ((x.name, 1 + length entries) ∷ []))

  places_of-own : (from i : ℕ) (nodes : List LowerNode) → from + i ≡ x.parent → HasDir nodes i → places_of (entries ++ x ∷ []) from nodes ≡ placed (places_of entries from nodes) i x.name (1 + length entries)
  places_of-own from i [] e h = absurd (none_dir i h)
    where
      none_dir : (i : ℕ) → HasDir [] i → ⊥
      none_dir i h = let q = h.1 in cc
  places_of-own from zero (y ∷ nodes) e h =
      let q : y.kind ≡ kinds.Dir = (let r = h.1 in let s = h.2 in cc) in
      let p : x.parent ≡ from = omega arith in
      rw (q, place_of-own from p, places_of-behind (from + 1) nodes (omega arith)) refl
  places_of-own from (suc i) (y ∷ nodes) e h =
      let ne : x.parent ≢ from = λ q. omega arith in
      rw (place_of-other from y.kind ne) (ap (λ (t : List Place). place_of entries from y.kind ∷ t) (places_of-own (from + 1) i nodes (omega arith) h))

  place_of-new : (number : ℕ) (kind : Kind) → entries_in number 1 (entries ++ x ∷ []) ≡ [] → place_of (entries ++ x ∷ []) number kind ≡ begun kind
  place_of-new number kinds.Dir h = rw h refl
  place_of-new number kinds.File h = refl

-- ---- a tree whose nodes are entered up to one

-- what stands at each number once the nodes below this number are entered
abbrev pub entered_places : ℕ → List LowerNode → List Place
entered_places number nodes = shown_places (take number nodes) ++ replicate (length nodes - number) Nothing

-- all of them are
pub entered_all : (nodes : List LowerNode) (number : ℕ) → length nodes ≤ number → entered_places number nodes ≡ shown_places nodes
entered_all nodes number le =
    let none : length nodes - number ≡ 0 = omega arith in
    ap (λ (xs : List LowerNode). shown_places xs ++ replicate (length nodes - number) Nothing) (take_all number nodes le) ∙ ap (λ (k : ℕ). shown_places nodes ++ replicate k Nothing) none ∙ append-nil (shown_places nodes)

within_dir : (nodes : List LowerNode) (k : ℕ) → HasDir nodes k → k < length nodes
within_dir nodes k h = slice_get_within nodes k h.0 h.1

-- What entering a node asks for.
pub record MayEnter (places : List Place) (x : LowerNode) (number : ℕ) : Type 0 where
  pub directory : IsDirectory (slice_get places x.parent)
  pub absent : node_in (slice_get places x.parent) x.name ≡ None
  pub new : slice_get places number ≡ Some Nothing

module _ (root : LowerNode) (entries : List LowerNode) (x : LowerNode) (left : ℕ) (f : Fits root entries x) where
  before : List Place
  before = places_of entries 0 (root ∷ entries)

  pub parent_place : slice_get (places_of entries 0 (root ∷ entries) ++ Nothing ∷ replicate left Nothing) x.parent ≡ Some (place_of entries x.parent kinds.Dir)
  parent_place =
      let e : 0 + x.parent ≡ x.parent = omega arith in
      let p : slice_get (places_of entries 0 (root ∷ entries)) x.parent ≡ Some (place_of entries (0 + x.parent) f.directory.0.kind) = slice_get-places_of entries 0 x.parent (root ∷ entries) f.directory.0 f.directory.1 in
      let q : slice_get (places_of entries 0 (root ∷ entries)) x.parent ≡ Some (place_of entries x.parent kinds.Dir) = p ∙ ap (λ (k : ℕ). Some (place_of entries k f.directory.0.kind)) e ∙ ap (λ (k : Kind). Some (place_of entries x.parent k)) f.directory.2 in
      slice_get-append (places_of entries 0 (root ∷ entries)) (Nothing ∷ replicate left Nothing) x.parent (place_of entries x.parent kinds.Dir) q

  pub may_enter : MayEnter (places_of entries 0 (root ∷ entries) ++ Nothing ∷ replicate left Nothing) x (1 + length entries)
  may_enter = record {
    directory = subst IsDirectory (sym parent_place) tt;
    absent = ap (λ (p : Option Place). node_in p x.name) parent_place ∙ ap (node_of x.name) (put_entries-rising (entries_in x.parent 1 entries) f.rises) ∙ f.absent;
    new =
        let len : 1 + length entries ≡ length (places_of entries 0 (root ∷ entries)) = omega (arith, length-places_of entries 0 (root ∷ entries)) in
        subst (λ (i : ℕ). slice_get (places_of entries 0 (root ∷ entries) ++ Nothing ∷ replicate left Nothing) i ≡ Some Nothing) (sym len) (slice_get-at (places_of entries 0 (root ∷ entries)) Nothing (replicate left Nothing));
  }

  pub entered_one : slice_set (placed (places_of entries 0 (root ∷ entries) ++ Nothing ∷ replicate left Nothing) x.parent x.name (1 + length entries)) (1 + length entries) (begun x.kind) ≡ places_of (entries ++ x ∷ []) 0 (root ∷ (entries ++ x ∷ [])) ++ replicate left Nothing
  entered_one =
      let old = places_of entries 0 (root ∷ entries) in
      let tail : List Place = Nothing ∷ replicate left Nothing in
      let number = 1 + length entries in
      let len : length old ≡ number = omega (arith, length-places_of entries 0 (root ∷ entries)) in
      let within : x.parent < length old = omega (arith, within_dir (root ∷ entries) x.parent f.directory) in
      let put = place_with x.name number (slice_get old x.parent) in
      let same : placed (old ++ tail) x.parent x.name number ≡ placed old x.parent x.name number ++ tail =
      ap (λ (p : Option Place). set (old ++ tail) x.parent (place_with x.name number p)) (get_append_left old tail x.parent within) ∙ set-append_left old tail x.parent put within in
      let own : places_of (entries ++ x ∷ []) 0 (root ∷ entries) ≡ placed old x.parent x.name number = places_of-own entries x 0 x.parent (root ∷ entries) (omega arith) f.directory in
      let len' : length (placed old x.parent x.name number) ≡ number = length-set old x.parent put ∙ len in
      let there : set (placed old x.parent x.name number ++ tail) number (begun x.kind) ≡ placed old x.parent x.name number ++ begun x.kind ∷ replicate left Nothing = set_at (placed old x.parent x.name number) Nothing (replicate left Nothing) (begun x.kind) number len' in
      let last : place_of (entries ++ x ∷ []) number x.kind ≡ begun x.kind = place_of-new entries x number x.kind (entries_in-none number 1 (entries ++ x ∷ []) f.low) in
      let at : 0 + length (root ∷ entries) ≡ number = omega arith in
      let split : places_of (entries ++ x ∷ []) 0 (root ∷ (entries ++ x ∷ [])) ≡ places_of (entries ++ x ∷ []) 0 (root ∷ entries) ++ place_of (entries ++ x ∷ []) number x.kind ∷ [] =
      places_of-append (entries ++ x ∷ []) 0 (root ∷ entries) (x ∷ []) ∙ ap (λ (k : ℕ). places_of (entries ++ x ∷ []) 0 (root ∷ entries) ++ place_of (entries ++ x ∷ []) k x.kind ∷ []) at in
      let new : places_of (entries ++ x ∷ []) 0 (root ∷ (entries ++ x ∷ [])) ≡ placed old x.parent x.name number ++ begun x.kind ∷ [] = split ∙ ap (λ (p : Place). places_of (entries ++ x ∷ []) 0 (root ∷ entries) ++ p ∷ []) last ∙ ap (λ (l : List Place). l ++ begun x.kind ∷ []) own in
      ap (λ (l : List Place). set l number (begun x.kind)) same ∙ there ∙ sym (append_assoc (placed old x.parent x.name number) (begun x.kind ∷ []) (replicate left Nothing)) ∙ ap (λ (l : List Place). l ++ replicate left Nothing) (sym new)

-- the places before the next entry, apart
split_places : (root : LowerNode) (entries : List LowerNode) (i left : ℕ) → length entries - i ≡ suc left → entered_places (suc i) (root ∷ entries) ≡ places_of (take i entries) 0 (root ∷ take i entries) ++ Nothing ∷ replicate left Nothing
split_places root entries i left e =
    let n : length (root ∷ entries) - suc i ≡ suc left = omega arith in
    ap (λ (k : ℕ). places_of (take i entries) 0 (root ∷ take i entries) ++ replicate k Nothing) n

next_places : (root : LowerNode) (entries : List LowerNode) (i left : ℕ) (x : LowerNode) → i < length entries → x ≡ get_or entries i x → length entries - i ≡ suc left
    → places_of (take i entries ++ x ∷ []) 0 (root ∷ (take i entries ++ x ∷ [])) ++ replicate left Nothing ≡ entered_places (suc i + 1) (root ∷ entries)
next_places root entries i left x lt is e =
    let n : length (root ∷ entries) - suc (suc i) ≡ left = omega arith in
    let two : suc i + 1 ≡ suc (suc i) = omega arith in
    let one : i + 1 ≡ suc i = omega arith in
    let more : take (suc i) entries ≡ take i entries ++ x ∷ [] = ap (λ (k : ℕ). take k entries) (sym one) ∙ take_more entries i x lt ∙ ap (λ (y : LowerNode). take i entries ++ y ∷ []) (sym is) in
    ap (λ (es : List LowerNode). places_of es 0 (root ∷ es) ++ replicate left Nothing) (sym more) ∙ ap (λ (k : ℕ). places_of (take (suc i) entries) 0 (root ∷ take (suc i) entries) ++ replicate k Nothing) (sym n) ∙ ap (λ (k : ℕ). entered_places k (root ∷ entries)) (sym two)

-- The next node of a lower tree may be entered, and then the nodes up to it are.
pub record Enters (nodes : List LowerNode) (number limit : ℕ) (x : LowerNode) : Type 0 where
  pub may : MayEnter (entered_places number nodes) x number
  pub name : IsTrue (is_name x.name)
  pub next : entered (record { limit = limit; places = entered_places number nodes }) x.parent x.name x.kind number ≡ record { limit = limit; places = entered_places (number + 1) nodes }

pub enters : (nodes : List LowerNode) (number limit : ℕ) (x : LowerNode) → IsLowerTree nodes → 1 ≤ number → number < length nodes → x ≡ get_or nodes number x → Enters nodes number limit x
enters [] number limit x h one lt is = absurd h
enters (root ∷ entries) zero limit x h one lt is = absurd (omega arith)
enters (root ∷ entries) (suc i) limit x h one lt is =
    let within : i < length entries = omega arith in
    let left = length entries - suc i in
    let e : length entries - i ≡ suc left = omega arith in
    let f : Fits root (take i entries) x = subst (Fits root (take i entries)) (sym is) (entry_fits root entries h i x within) in
    let len : 1 + length (take i entries) ≡ suc i = omega (arith, length-take-le i entries (omega arith)) in
    let may : MayEnter (entered_places (suc i) (root ∷ entries)) x (suc i) =
    subst (λ (ps : List Place). MayEnter ps x (suc i)) (sym (split_places root entries i left e)) (subst (MayEnter (places_of (take i entries) 0 (root ∷ take i entries) ++ Nothing ∷ replicate left Nothing) x) len (may_enter root (take i entries) x left f)) in
    let one_more : slice_set (placed (places_of (take i entries) 0 (root ∷ take i entries) ++ Nothing ∷ replicate left Nothing) x.parent x.name (suc i)) (suc i) (begun x.kind) ≡ places_of (take i entries ++ x ∷ []) 0 (root ∷ (take i entries ++ x ∷ [])) ++ replicate left Nothing =
    subst (λ (k : ℕ). slice_set (placed (places_of (take i entries) 0 (root ∷ take i entries) ++ Nothing ∷ replicate left Nothing) x.parent x.name k) k (begun x.kind) ≡ places_of (take i entries ++ x ∷ []) 0 (root ∷ (take i entries ++ x ∷ [])) ++ replicate left Nothing) len
    (entered_one root (take i entries) x left f) in
    let whole = ap (λ (ps : List Place). slice_set (placed ps x.parent x.name (suc i)) (suc i) (begun x.kind)) (split_places root entries i left e) ∙ one_more ∙ next_places root entries i left x within is e in
    record { may = may; name = f.name; next = ap (λ (ps : List Place). let t : PlainTree = record { limit = limit; places = ps } in t) whole }
