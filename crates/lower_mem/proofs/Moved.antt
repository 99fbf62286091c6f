-- The store of names in memory behind a move.
use Rattle.std.proofs.Common.{◌≡◌, ◌≢◌, ℕ, ◌<◌, List, length, Option, Some, None, refl, sym, ap, ◌∙◌, arith}
use Rattle.std.specs.Prelude.{slice_get}
use Rattle.std.proofs.lemmas.List.{length-set}
use Rattle.tree_model.specs.declared.place.Place.{Place}
use Rattle.tree_model.specs.declared.change.Moving.{Moving}
use Rattle.tree_model.specs.declared.change.Change.TheVariants.{Move}
use Rattle.tree_model.specs.Walk.{kind_of}
use Rattle.tree_model.specs.PlainTree.{PlainTree, kind_or_file, place_without, taken_out, cleared, moved}
use Rattle.tree_model.specs.IsTree.{IsTree, node_in}
use Rattle.plain_tree.specs.Prepared.{Replaces, CanMove, MayMove}
use Rattle.plain_tree.proofs.Changes.{may_change}
use Rattle.names_model.specs.declared.entry.Linked.{Linked}
use Rattle.names_model.specs.Store.{Store, linked_at}
use Rattle.names_model.specs.StoreCalls as calls
use Rattle.lower_mem.specs.Names.{link, store_in, HasNoForeign}
use Rattle.lower_mem.proofs.Entries.{linked_shown, linked_none}
use Rattle.lower_mem.proofs.Stores.{store_taken, store_placed, store_removed, foreign_removed, foreign_taken, foreign_placed, kind_removed, kinds_taken}
use Rattle.lower_mem.proofs.Conditions.{bare_shows, node_is}

module _ (t : PlainTree) (m : Moving) (tree : IsTree t.places) (can : CanMove t m) where
  target_apart : (target : ℕ) → node_in (slice_get t.places m.to) m.name ≡ Some target → Replaces t m.node m.to m.name (Some target) → m.to ≢ target
  target_apart target there r e = bare_shows (slice_get t.places target) m.name target r.bare (ap (λ (k : ℕ). node_in (slice_get t.places k) m.name) (sym e) ∙ there)

  target_within : (target : ℕ) → node_in (slice_get t.places m.to) m.name ≡ Some target → target < length (taken_out t.places m.to m.name)
  target_within target there =
      let lt : target < length t.places = node_is t.places target (slice_get t.places target) refl (tree.there m.to m.name target there) in
      omega (arith, length-set t.places m.to (place_without m.name (slice_get t.places m.to)))

  store_cleared : (target : Option ℕ) → node_in (slice_get t.places m.to) m.name ≡ target → Replaces t m.node m.to m.name target
      → (k : ℕ) → store_in (cleared t.places m.to m.name target) k ≡ calls.cleared (store_in t.places) m.to m.name (linked_at (store_in t.places m.to) m.name) k
  store_cleared None there r k = rw (linked_none t.places (slice_get t.places m.to) m.name there) refl
  store_cleared (Some target) there r k =
      rw (linked_shown t.places (slice_get t.places m.to) m.name target there)
      (store_removed t.places m.to m.name target tree there (target_apart target there r) (target_within target there) k)

  kind_cleared : (target : Option ℕ) → node_in (slice_get t.places m.to) m.name ≡ target → Replaces t m.node m.to m.name target → kind_of (slice_get (cleared t.places m.to m.name target) m.node) ≡ kind_of (slice_get t.places m.node)
  kind_cleared None there r = refl
  kind_cleared (Some target) there r = kind_removed t.places m.to m.name target tree there (target_apart target there r) (target_within target there) m.node (λ e. r.other (sym e))

  foreign_cleared : (target : Option ℕ) → node_in (slice_get t.places m.to) m.name ≡ target → Replaces t m.node m.to m.name target → HasNoForeign t.places → HasNoForeign (cleared t.places m.to m.name target)
  foreign_cleared None there r none = none
  foreign_cleared (Some target) there r none = foreign_removed t.places m.to m.name target tree there (target_apart target there r) (target_within target there) none

  abbrev mid : List Place
  mid = cleared t.places m.to m.name m.target

  abbrev out : List Place
  out = taken_out mid m.from m.was

  may : MayMove t.places m
  may = may_change t (Move m) tree can

  abbrev old : Store
  old = store_in t.places

  abbrev mid_store : Store
  mid_store = calls.cleared old m.to m.name (linked_at (old m.to) m.name)

  mid_is : store_in mid ≡ mid_store
  mid_is = λ i k. store_cleared m.target can.target can.replaces k i

  out_is : store_in out ≡ calls.taken_from mid_store m.from m.was
  out_is = (λ i k. store_taken mid m.from m.was may.from k i) ∙ ap (λ (s : Store). calls.taken_from s m.from m.was) mid_is

  kind_out : kind_of (slice_get out m.node) ≡ kind_of (slice_get t.places m.node)
  kind_out = kinds_taken mid m.from m.was may.from m.node ∙ kind_cleared m.target can.target can.replaces

  link_is : Some (link out m.node) ≡ linked_at (old m.from) m.was
  link_is =
      ap (λ k. let o : Option Linked = Some (record { kind = kind_or_file k; node = m.node }) in o) kind_out
      ∙ sym (linked_shown t.places (slice_get t.places m.from) m.was m.node can.there)

  pub store_moved : (k : ℕ) → store_in (moved t.places m) k ≡ calls.renamed (store_in t.places) m.from m.was m.to m.name k
  store_moved k =
      store_placed out m.to m.name m.node may.to k
      ∙ ap (λ (s : Store). calls.put_into s m.to m.name (Some (link out m.node)) k) out_is
      ∙ ap (λ (o : Option Linked). calls.put_into (calls.taken_from mid_store m.from m.was) m.to m.name o k) link_is

  pub foreign_moved : HasNoForeign t.places → HasNoForeign (moved t.places m)
  foreign_moved none = foreign_placed out m.to m.name m.node may.to (foreign_taken mid m.from m.was may.from (foreign_cleared m.target can.target can.replaces none))
