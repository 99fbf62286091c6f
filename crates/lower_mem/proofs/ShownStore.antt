-- The plain tree that a lower tree shows holds the lower tree's names.
use Rattle.std.proofs.Common.{one-add, ◌≡◌, ℕ, suc, ◌+◌, inl, inr, List, [], ◌∷◌, map, Option, Some, None, refl, sym, ap, ◌∙◌, arith}
use Rattle.std.specs.Prelude.{◌==◌, slice_get}
use Rattle.std.proofs.lemmas.Bool.{cases_Bool}
use Rattle.std.proofs.lemmas.Option.{slice_get_past}
use Rattle.lower_model.specs.LowerTree.{IsLowerTree, AreEntries, root_path}
use Rattle.lower_model.specs.declared.kind.Kind.{Kind}
use Rattle.lower_model.specs.declared.kind.Kind.TheVariants as kinds
use Rattle.lower_model.specs.declared.node.LowerNode.{LowerNode}
use Rattle.tree_model.specs.declared.place.Directory.{Directory}
use Rattle.tree_model.specs.declared.place.Place.TheVariants.{Dir}
use Rattle.tree_model.specs.Walk.{kind_of}
use Rattle.tree_model.specs.PlainTree.{kind_or_file}
use Rattle.tree_model.specs.Shown.{entries_in, put_entries, place_of, places_of, shown_places}
use Rattle.names_model.specs.declared.entry.Linked.{Linked}
use Rattle.names_model.specs.Store.{Entries, entries_from, entries_if, entries_of, store_of}
use Rattle.lower_mem.specs.Names.{links, links_in, store_in, HasNoForeign}
use Rattle.tree_model.proofs.Rising.{put_entries-rising}
use Rattle.tree_model.proofs.NodeEntries.{slice_get-none, slice_get-places_of}
use Rattle.lower_mem.proofs.ShownPlaces.{length-places_of}
use Rattle.tree_model.proofs.Standing.{names_rise}

abbrev pub with_kinds : (ℕ → Kind) → List (List ℕ × ℕ) → Entries
with_kinds kind es = map (λ (e : List ℕ × ℕ). let x : List ℕ × Linked = (e.0, record { kind = kind e.1; node = e.1 }) in x) es

-- the entries of a directory among nodes, with what each leads to
pub entries_from-kinds : (kind : ℕ → Kind) (number : ℕ) (nodes : List LowerNode) (directory : ℕ) → ((i : ℕ) (x : LowerNode) → slice_get nodes i ≡ Some x → kind (number + i) ≡ x.kind)
    → with_kinds kind (entries_in directory number nodes) ≡ entries_from number nodes directory
entries_from-kinds kind number [] directory h = refl
entries_from-kinds kind number (x ∷ nodes) directory h =
    let here : kind number ≡ x.kind = (let e : number ≡ number + 0 = omega arith in ap kind e ∙ h 0 x refl) in
    let behind : with_kinds kind (entries_in directory (number + 1) nodes) ≡ entries_from (number + 1) nodes directory =
    entries_from-kinds kind (number + 1) nodes directory (λ i y is. (let e : number + 1 + i ≡ number + suc i = omega arith in ap kind e ∙ h (suc i) y is)) in
    elim (cases_Bool (x.parent == directory)) [
      | inl t ↦ rw t (ap (λ (k : Kind). let e : List ℕ × Linked = (x.name, record { kind = k; node = number }) in e ∷ with_kinds kind (entries_in directory (number + 1) nodes)) here
          ∙ ap (λ (es : Entries). (x.name, record { kind = x.kind; node = number }) ∷ es) behind)
      | inr f ↦ rw f behind
    ]

pub kind_of-place_of : (entries : List LowerNode) (number : ℕ) (kind : Kind) → kind_of (Some (place_of entries number kind)) ≡ Some kind
kind_of-place_of entries number kinds.Dir = refl
kind_of-place_of entries number kinds.File = refl

module _ (root : LowerNode) (entries : List LowerNode) where
  place_at : (k : ℕ) (x : LowerNode) → slice_get (root ∷ entries) k ≡ Some x → slice_get (places_of entries 0 (root ∷ entries)) k ≡ Some (place_of entries k x.kind)
  place_at k x is = (let e : 0 + k ≡ k = omega arith in slice_get-places_of entries 0 k (root ∷ entries) x is ∙ ap (λ (n : ℕ). Some (place_of entries n x.kind)) e)

  place_past : (k : ℕ) → slice_get (root ∷ entries) k ≡ None → slice_get (places_of entries 0 (root ∷ entries)) k ≡ None
  place_past k is = slice_get_past (places_of entries 0 (root ∷ entries)) k (let long = slice_get-none (root ∷ entries) k is in omega (arith, length-places_of entries 0 (root ∷ entries)))

  kind_at : (i : ℕ) (x : LowerNode) → slice_get entries i ≡ Some x → kind_or_file (kind_of (slice_get (places_of entries 0 (root ∷ entries)) (1 + i))) ≡ x.kind
  kind_at i x is = rw one-add (ap (λ p. kind_or_file (kind_of p)) (place_at (suc i) x is) ∙ ap kind_or_file (kind_of-place_of entries (suc i) x.kind))

  shown_links : (k : ℕ) → links (places_of entries 0 (root ∷ entries)) (entries_in k 1 entries) ≡ entries_from 1 entries k
  shown_links k = entries_from-kinds (λ n. kind_or_file (kind_of (slice_get (places_of entries 0 (root ∷ entries)) n))) 1 entries k kind_at

  module _ (is_root : root.kind ≡ kinds.Dir) (are : AreEntries root_path 1 entries) where
    store_by : (k : ℕ) (o : Option LowerNode) → slice_get (root ∷ entries) k ≡ o → store_in (places_of entries 0 (root ∷ entries)) k ≡ entries_of o (entries_from 1 entries k)
    store_by k None is = ap (links_in (places_of entries 0 (root ∷ entries))) (place_past k is)
    store_by k (Some x) is = ap (links_in (places_of entries 0 (root ∷ entries))) (place_at k x is) ∙ by x.kind
      where
        by : (kind : Kind) → links_in (places_of entries 0 (root ∷ entries)) (Some (place_of entries k kind)) ≡ entries_if kind (entries_from 1 entries k)
        by kinds.Dir = ap (λ (es : List (List ℕ × ℕ)). Some (links (places_of entries 0 (root ∷ entries)) es)) (put_entries-rising (entries_in k 1 entries) (names_rise root entries is_root are k)) ∙ ap (λ (es : Entries). Some es) (shown_links k)
        by kinds.File = refl

  foreign_by : (k : ℕ) (o : Option LowerNode) → slice_get (root ∷ entries) k ≡ o → (d : Directory) → slice_get (places_of entries 0 (root ∷ entries)) k ≡ Some (Dir d) → d.foreign ≡ []
  foreign_by k None is d at = absurd (let p = place_past k is in cc)
  foreign_by k (Some x) is d at = by x.kind (sym (place_at k x is) ∙ at)
    where
      by : (kind : Kind) → Some (place_of entries k kind) ≡ Some (Dir d) → d.foreign ≡ []
      by kinds.Dir h = (let same : record { shown = put_entries [] (entries_in k 1 entries); foreign = [] } ≡ d = cc in ap (λ (x : Directory). x.foreign) (sym same))
      by kinds.File h = absurd cc

pub store_shown : (nodes : List LowerNode) → IsLowerTree nodes → (k : ℕ) → store_in (shown_places nodes) k ≡ store_of nodes k
store_shown [] h k = absurd h
store_shown (root ∷ entries) h k = store_by root entries h.0.1 h.2 k (slice_get (root ∷ entries) k) refl

pub foreign_shown : (nodes : List LowerNode) → HasNoForeign (shown_places nodes)
foreign_shown [] k d is = absurd cc
foreign_shown (root ∷ entries) k d is = foreign_by root entries k (slice_get (root ∷ entries) k) refl d is
