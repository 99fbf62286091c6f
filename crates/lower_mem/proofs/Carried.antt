-- Nodes that are laid out: each path of names leads to the same as in the store that they came from.
use Rattle.std.proofs.Common.{one-add, ◌≡◌, ℕ, ◌+◌, ◌<◌, List, [], ◌∷◌, length, get_or, Option, Some, None, refl, sym, ap, subst, ◌∙◌, arith}
use Rattle.std.specs.Prelude.{slice_get}
use Rattle.std.specs.Option.{option_map, option_and_then}
use Rattle.std.proofs.lemmas.Option.{slice_get-get_or}
use Rattle.std.proofs.lemmas.Map.Made.{lookup-map_values}
use Rattle.lower_model.specs.declared.kind.Kind.{Kind}
use Rattle.lower_model.specs.declared.kind.Kind.TheVariants as kinds
use Rattle.lower_model.specs.declared.node.LowerNode.{LowerNode}
use Rattle.tree_model.specs.declared.place.Place.{Place}
use Rattle.tree_model.specs.declared.place.Place.TheVariants.{Dir, File, Nothing}
use Rattle.tree_model.specs.Names.{is_named, node_of, entry_at}
use Rattle.tree_model.specs.Walk.{kind_of}
use Rattle.tree_model.specs.PlainTree.{kind_or_file}
use Rattle.tree_model.specs.IsTree.{node_in}
use Rattle.tree_model.specs.Shown.{entries_in}
use Rattle.names_model.specs.declared.entry.Linked.{Linked}
use Rattle.names_model.specs.Store.{linked_at, entries_from, entries_if, store_of}
use Rattle.names_model.specs.LowerPaths.{LowerThing, files_of, found, thing_of, thing_at, paths_of, tree_paths}
use Rattle.lower_mem.specs.Names.{link, links_in, store_in}
use Rattle.lower_mem.proofs.Entries.{linked-at}
use Rattle.lower_mem.proofs.ShownStore.{entries_from-kinds}
use Rattle.lower_mem.proofs.Traced.{Matches, Traced}
use Rattle.lower_mem.proofs.Kept.{Files, Kept}

kind_in : Option LowerNode → Kind
kind_in (Some x) = x.kind
kind_in None = kinds.File

link_to : List LowerNode → ℕ → Linked
link_to nodes k = record { kind = kind_in (slice_get nodes k); node = k }

-- What two ways lead to: a node that is laid out, and the one that it comes from; or both to nothing.
abbrev Leads : List LowerNode → List ℕ → Option Linked → Option Linked → Type 0
Leads nodes origin (Some l) o = (l.node < length origin) × (l.kind ≡ kind_in (slice_get nodes l.node)) × (o ≡ Some (record { kind = l.kind; node = get_or origin l.node 0 }))
Leads nodes origin None o = o ≡ None

file_place : (p : Option Place) → kind_of p ≡ Some kinds.File → p ≡ Some File
file_place (Some (Dir d)) is = absurd cc
file_place (Some File) is = refl
file_place (Some Nothing) is = absurd cc
file_place None is = absurd cc

module _ (places : List Place) (root : LowerNode) (entries : List LowerNode) (origin : List ℕ) (t : Traced places root entries (λ k. []) origin) where
  -- the node with a number, and the place that it comes from
  node_at : (k : ℕ) → k < length origin → (x : LowerNode) × (slice_get (root ∷ entries) k ≡ Some x) × (kind_of (slice_get places (get_or origin k 0)) ≡ Some x.kind)
  node_at k lt =
      let x = get_or (root ∷ entries) k root in
      let is : slice_get (root ∷ entries) k ≡ Some x = slice_get-get_or (root ∷ entries) k root (omega (arith, t.many)) in
      (x, is, t.kinds k x is)

  kind_is : (i : ℕ) (x : LowerNode) → slice_get entries i ≡ Some x → kind_in (slice_get (root ∷ entries) (1 + i)) ≡ x.kind
  unfolding kind_in
  kind_is i x is = rw one-add (ap kind_in is)

  -- a name among the entries of a node that is laid out
  entries_at : (k : ℕ) (name : List ℕ) → entry_at name (entries_from 1 entries k) ≡ option_map (link_to (root ∷ entries)) (node_of name (entries_in k 1 entries))
  unfolding link_to
  entries_at k name =
      ap (entry_at name) (sym (entries_from-kinds (λ n. kind_in (slice_get (root ∷ entries) n)) 1 entries k kind_is))
      ∙ lookup-map_values (λ n. let l : Linked = record { kind = kind_in (slice_get (root ∷ entries) n); node = n } in l) (is_named name) (entries_in k 1 entries)

  same_link : (k : ℕ) → k < length origin → link places (get_or origin k 0) ≡ record { kind = (link_to (root ∷ entries) k).kind; node = get_or origin k 0 }
  unfolding link_to kind_in
  same_link k lt =
      let n = node_at k lt in
      let kind : kind_or_file (kind_of (slice_get places (get_or origin k 0))) ≡ kind_in (slice_get (root ∷ entries) k) = ap kind_or_file n.2 ∙ sym (ap kind_in n.1) in
      ap (λ (x : Kind). let l : Linked = record { kind = x; node = get_or origin k 0 } in l) kind

  -- one name, in a directory
  by_name : (in_lower in_tree : Option ℕ) → Matches origin None in_lower in_tree → Leads (root ∷ entries) origin (option_map (link_to (root ∷ entries)) in_lower) (option_map (link places) in_tree)
  unfolding link_to
  by_name (Some j) in_tree h = (h.0, refl, ap (option_map (link places)) h.1 ∙ ap (λ (l : Linked). Some l) (same_link j h.0))
  by_name None in_tree h = ap (option_map (link places)) h

  -- one name, from a node of either kind
  one_name : (k : ℕ) (name : List ℕ) (lt : k < length origin) (kind : Kind) (p : Option Place) → kind_of p ≡ Some kind → Matches origin None (node_of name (entries_in k 1 entries)) (node_in p name)
      → Leads (root ∷ entries) origin (linked_at (entries_if kind (entries_from 1 entries k)) name) (linked_at (links_in places p) name)
  one_name k name lt kinds.Dir (Some (Dir d)) is h = rw (entries_at k name, linked-at places name d.shown) (by_name (node_of name (entries_in k 1 entries)) (node_of name d.shown) h)
  one_name k name lt kinds.Dir (Some File) is h = absurd cc
  one_name k name lt kinds.Dir (Some Nothing) is h = absurd cc
  one_name k name lt kinds.Dir None is h = absurd cc
  one_name k name lt kinds.File (Some (Dir d)) is h = absurd cc
  one_name k name lt kinds.File (Some File) is h = refl
  one_name k name lt kinds.File (Some Nothing) is h = absurd cc
  one_name k name lt kinds.File None is h = absurd cc

  step : (k : ℕ) (name : List ℕ) → k < length origin → Leads (root ∷ entries) origin (linked_at (store_of (root ∷ entries) k) name) (linked_at (store_in places (get_or origin k 0)) name)
  step k name lt =
      let n = node_at k lt in
      rw n.1 (one_name k name lt n.0.kind (slice_get places (get_or origin k 0)) n.2 (t.matches k name lt))

  goes_on : (path : List (List ℕ)) → ((l : Linked) → l.node < length origin → l.kind ≡ kind_in (slice_get (root ∷ entries) l.node) → Leads (root ∷ entries) origin (found (store_of (root ∷ entries)) l path) (found (store_in places) (record { kind = l.kind; node = get_or origin l.node 0 }) path))
      → (a b : Option Linked) → Leads (root ∷ entries) origin a b → Leads (root ∷ entries) origin (option_and_then (λ (l : Linked). found (store_of (root ∷ entries)) l path) a) (option_and_then (λ (l : Linked). found (store_in places) l path) b)
  goes_on path go (Some l) b h = rw h.2 (go l h.0 h.1)
  goes_on path go None b h = rw h refl

  same_found : (path : List (List ℕ)) (l : Linked) → l.node < length origin → l.kind ≡ kind_in (slice_get (root ∷ entries) l.node) → Leads (root ∷ entries) origin (found (store_of (root ∷ entries)) l path) (found (store_in places) (record { kind = l.kind; node = get_or origin l.node 0 }) path)
  same_found [] l lt kind = (lt, kind, refl)
  same_found (name ∷ path) l lt kind =
      goes_on path (same_found path) (linked_at (store_of (root ∷ entries) l.node) name) (linked_at (store_in places (get_or origin l.node 0)) name) (step l.node name lt)

  module _ (files : Files) (kept : Kept files places (root ∷ entries) origin) where
    same_file : (k : Kind) (node : ℕ) → node < length origin → k ≡ kind_in (slice_get (root ∷ entries) node) → thing_of k (files_of (root ∷ entries) node) ≡ thing_of k (files (get_or origin node 0))
    unfolding kind_in
    same_file kinds.Dir node lt is = refl
    same_file kinds.File node lt is =
        let n = node_at node lt in
        let file : n.0.kind ≡ kinds.File = sym (ap kind_in n.1) ∙ sym is in
        ap (thing_of kinds.File) (kept node lt (file_place (slice_get places (get_or origin node 0)) (n.2 ∙ ap (λ (k : Kind). Some k) file)))

    same_thing : (a b : Option Linked) → Leads (root ∷ entries) origin a b → option_map (thing_at (files_of (root ∷ entries))) a ≡ option_map (thing_at files) b
    same_thing (Some l) b h = rw h.2 (ap (λ (x : LowerThing). Some x) (same_file l.kind l.node h.0 h.1))
    same_thing None b h = rw h refl

    -- each path leads to the same
    pub same_paths : root.kind ≡ kinds.Dir → (path : List (List ℕ)) → tree_paths (root ∷ entries) path ≡ paths_of (store_in places) files path
    unfolding kind_in
    same_paths is_dir path =
        let ends = same_found path (record { kind = kinds.Dir; node = 0 }) (omega (arith, t.many)) (sym is_dir) in
        let first = subst (λ (n : ℕ). Leads (root ∷ entries) origin (found (store_of (root ∷ entries)) (record { kind = kinds.Dir; node = 0 }) path) (found (store_in places) (record { kind = kinds.Dir; node = n }) path)) t.first ends in
        same_thing (found (store_of (root ∷ entries)) (record { kind = kinds.Dir; node = 0 }) path) (found (store_in places) (record { kind = kinds.Dir; node = 0 }) path) first
