-- What names in memory hold is a tree of names.
use Rattle.std.proofs.Common.{◌≡◌, ℕ, zero, suc, ◌+◌, ◌-◌, ◌≤◌, List, [], ◌∷◌, ◌++◌, length, take, get_or, replicate, Option, Some, None, refl, sym, ap, subst, ◌∙◌, arith}
use Rattle.std.specs.Prelude.{slice_get}
use Rattle.std.proofs.lemmas.List.{append-nil, get_or_default, take_all}
use Rattle.lower_model.specs.LowerTree.{IsLowerTree, HoldsOctets}
use Rattle.lower_model.specs.declared.kind.Kind.{Kind}
use Rattle.lower_model.specs.declared.kind.Kind.TheVariants as kinds
use Rattle.lower_model.specs.declared.node.LowerNode.{LowerNode}
use Rattle.tree_model.specs.declared.place.Place.{Place}
use Rattle.tree_model.specs.declared.place.Place.TheVariants.{Dir, File, Nothing}
use Rattle.tree_model.specs.Names.{RisesBehind}
use Rattle.tree_model.specs.Walk.{kind_of}
use Rattle.tree_model.specs.PlainTree.{PlainTree, empty_directory, kind_or_file}
use Rattle.tree_model.specs.Shown.{shown_places}
use Rattle.plain_tree.proofs.IsTreeLemmas.{is_tree_root, is_tree_entered}
use Rattle.names_model.specs.declared.limits.TheConstants.{LONGEST_PLAIN_NAME}
use Rattle.body_model.specs.LowerFile.{LowerFile}
use Rattle.names_model.proofs.FilesFit.{files_fit}
use Rattle.lower_tree.specs.Held.{HeldParts, HoldTree}
use Rattle.lower_tree.specs.Making.{HoldSomeTree}
use Rattle.tree_model.specs.IsTree.{IsTree, IsDirectory, IsNode, node_in}
use Rattle.names_model.specs.declared.entry.Linked.{Linked}
use Rattle.names_model.specs.Store.{Entries, linked_at}
use Rattle.names_model.specs.StoreCalls.{IsKind, IsStoreTree}
use Rattle.lower_mem.specs.Names.{link, links, links_in, store_in}
use Rattle.lower_mem.proofs.Entries.{shown_linked}
use Rattle.lower_mem.proofs.Conditions.{node_is}
use Rattle.lower_mem.proofs.ShownPlaces.{entered_places, enters}
use Rattle.lower_mem.proofs.ShownStore.{store_shown}

links_rise : (places : List Place) (last : List ℕ) (es : List (List ℕ × ℕ)) → RisesBehind last es → RisesBehind last (links places es)
links_rise places last [] h = tt
links_rise places last (e ∷ es) h = (h.0, h.1, links_rise places e.0 es h.2)

rises_by : (places : List Place) → IsTree places → (k : ℕ) (p : Option Place) (entries : Entries) → slice_get places k ≡ p → links_in places p ≡ Some entries → RisesBehind [] entries
rises_by places tree k (Some (Dir d)) entries is has = (let same : links places d.shown ≡ entries = cc in subst (RisesBehind []) same (links_rise places [] d.shown (tree.ordered k d is)))
rises_by places tree k (Some File) entries is has = absurd cc
rises_by places tree k (Some Nothing) entries is has = absurd cc
rises_by places tree k None entries is has = absurd cc

-- an entry, as the places show it
shown_by : (places : List Place) (p : Option Place) (name : List ℕ) (l : Linked) → linked_at (links_in places p) name ≡ Some l → (node_in p name ≡ Some l.node) × (l ≡ link places l.node)
shown_by places (Some (Dir d)) name l is = shown_linked places (Some (Dir d)) (links places d.shown) name l refl is
shown_by places (Some File) name l is = absurd cc
shown_by places (Some Nothing) name l is = absurd cc
shown_by places None name l is = absurd cc

kind_there : (places : List Place) (p : Option Place) → IsNode p → IsKind (kind_or_file (kind_of p)) (links_in places p)
kind_there places (Some (Dir d)) h = tt
kind_there places (Some File) h = tt
kind_there places (Some Nothing) h = absurd h
kind_there places None h = absurd h

root_there : (places : List Place) (p : Option Place) → IsDirectory p → IsKind kinds.Dir (links_in places p)
root_there places (Some (Dir d)) h = tt
root_there places (Some File) h = absurd h
root_there places (Some Nothing) h = absurd h
root_there places None h = absurd h

pub store_tree : (places : List Place) → IsTree places → IsStoreTree (store_in places)
store_tree places tree = record {
  root = root_there places (slice_get places 0) tree.root;
  rising = λ k entries has. rises_by places tree k (slice_get places k) entries refl has;
  no_root = λ k name l is. tree.no_root k name l.node (shown_by places (slice_get places k) name l is).0;
  kinds = λ k name l is.
      (let s = shown_by places (slice_get places k) name l is in
      subst (λ (kind : Kind). IsKind kind (store_in places l.node)) (sym (ap (λ (x : Linked). x.kind) s.1)) (kind_there places (slice_get places l.node) (tree.there k name l.node s.0)));
  once = λ j k a b l m f g same.
      (let s = shown_by places (slice_get places j) a l f in
      let r = shown_by places (slice_get places k) b m g in
      tree.once j k a b l.node s.0 (r.0 ∙ ap (λ (n : ℕ). Some n) (sym same)));
  few = λ k name l is.
      (let s = shown_by places (slice_get places k) name l is in
      let within = node_is places l.node (slice_get places l.node) refl (tree.there k name l.node s.0) in
      omega (arith, tree.few));
}

-- ---- of a lower tree

entered_tree : (root : LowerNode) (entries : List LowerNode) → IsLowerTree (root ∷ entries) → (number : ℕ) → number ≤ length entries → IsTree (entered_places (number + 1) (root ∷ entries))
entered_tree root entries h zero le =
    let first : Dir empty_directory ∷ replicate (length entries) Nothing ≡ entered_places 1 (root ∷ entries) = rw h.0.1 (let same : length entries ≡ length (root ∷ entries) - 1 = omega arith in ap (λ (n : ℕ). Dir empty_directory ∷ replicate n Nothing) same) in
    subst IsTree first (is_tree_root (length entries) (omega (arith, h.1)))
entered_tree root entries h (suc n) le =
    let number = n + 1 in
    let x = get_or (root ∷ entries) number root in
    let is : x ≡ get_or (root ∷ entries) number x = get_or_default (root ∷ entries) number root x (omega arith) in
    let e = enters (root ∷ entries) number LONGEST_PLAIN_NAME x h (omega arith) (omega arith) is in
    let tree = is_tree_entered (entered_places number (root ∷ entries)) x.parent x.name x.kind number (entered_tree root entries h n (omega arith)) e.name (record { directory = e.may.directory; absent = e.may.absent }) e.may.new in
    let same : n + 1 + 1 ≡ suc n + 1 = omega arith in
    subst (λ (m : ℕ). IsTree (entered_places m (root ∷ entries))) same (subst IsTree (ap (λ (t : PlainTree). t.places) e.next) tree)

all_entered : (root : LowerNode) (entries : List LowerNode) → entered_places (length entries + 1) (root ∷ entries) ≡ shown_places (root ∷ entries)
all_entered root entries =
    let whole : take (length entries + 1) (root ∷ entries) ≡ root ∷ entries = take_all (length entries + 1) (root ∷ entries) (omega arith) in
    let left : length (root ∷ entries) - (length entries + 1) ≡ 0 = omega arith in
    ap (λ (l : List LowerNode). shown_places l ++ replicate (length (root ∷ entries) - (length entries + 1)) Nothing) whole
    ∙ ap (λ (n : ℕ). shown_places (root ∷ entries) ++ replicate n Nothing) left ∙ append-nil (shown_places (root ∷ entries))

is_tree_shown : (nodes : List LowerNode) → IsLowerTree nodes → IsTree (shown_places nodes)
is_tree_shown [] h = absurd h
is_tree_shown (root ∷ entries) h = subst IsTree (all_entered root entries) (entered_tree root entries h (length entries) (omega arith))

-- parts that hold a lower tree hold what an image allows
pub hold_some_tree : (parts : HeldParts) (nodes : List LowerNode) → HoldTree parts nodes → HoldSomeTree parts
hold_some_tree parts nodes h =
    let same : store_in (shown_places nodes) ≡ parts.names.entries = λ i k. (store_shown nodes h.lawful k ∙ sym (h.entries k)) i in
    record {
      names = subst IsStoreTree same (store_tree (shown_places nodes) (is_tree_shown nodes h.lawful));
      files = λ k. subst (λ (f : LowerFile). HoldsOctets kinds.File f.attribute f.body) (sym (h.files k)) (files_fit nodes h.lawful k);
    }
