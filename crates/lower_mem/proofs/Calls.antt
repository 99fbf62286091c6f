-- What calls leave of the store of names in memory.
use Rattle.std.proofs.Common.{◌≡◌, ℕ, ◌+◌, ◌-◌, ◌<◌, List, ◌++◌, length, refl, ap, ◌∙◌, arith, replicate}
use Rattle.std.specs.Prelude.{slice_get, slice_set}
use Rattle.std.proofs.lemmas.List.{length-set}
use Rattle.lower_model.specs.declared.kind.Kind.{Kind}
use Rattle.tree_model.specs.declared.place.Place.{Place}
use Rattle.tree_model.specs.declared.place.Place.TheVariants.{Nothing}
use Rattle.tree_model.specs.PlainTree.{begun, place_without, placed, taken_out, removed}
use Rattle.tree_model.specs.IsTree.{IsTree}
use Rattle.plain_tree.proofs.IsTreeLemmas.{is_tree_grown}
use Rattle.names_model.specs.Store.{Store}
use Rattle.names_model.specs.StoreCalls as calls
use Rattle.lower_mem.specs.Names.{store_in, HasNoForeign}
use Rattle.lower_mem.proofs.Stores.{IsLoose, store_grown, foreign_grown, store_entered, foreign_entered, store_removed, foreign_removed}
use Rattle.lower_mem.proofs.Conditions.{MayCreate, MayRemove, node_is}

module _ (places : List Place) (dir : ℕ) (name : List ℕ) (kind : Kind) (node : ℕ) (tree : IsTree places) (may : MayCreate places dir name node) where
  abbrev more : ℕ
  more = node + 1 - length places

  abbrev wide : List Place
  wide = places ++ replicate more Nothing

  loose : IsLoose wide node
  loose = record {
    ordered = (is_tree_grown places more tree (omega (arith, may.few, tree.few))).ordered;
    loose = may.no_entry;
  }

  pub store_created : (k : ℕ) → store_in (slice_set (placed wide dir name node) node (begun kind)) k ≡ calls.created (store_in places) dir name (record { kind = kind; node = node }) k
  store_created k =
      let same : store_in wide ≡ store_in places = λ i j. store_grown places more j i in
      store_entered wide dir name node kind may.directory may.nothing loose k
      ∙ ap (λ (s : Store). calls.created s dir name (record { kind = kind; node = node }) k) same

  pub foreign_created : HasNoForeign places → HasNoForeign (slice_set (placed wide dir name node) node (begun kind))
  foreign_created none = foreign_entered wide dir name node kind may.directory may.nothing loose (foreign_grown places more none)

module _ (places : List Place) (dir : ℕ) (name : List ℕ) (node : ℕ) (tree : IsTree places) (may : MayRemove places dir name node) where
  inside : node < length (taken_out places dir name)
  inside =
      let lt : node < length places = node_is places node (slice_get places node) refl (tree.there dir name node may.there) in
      omega (arith, length-set places dir (place_without name (slice_get places dir)))

  pub store_gone : (k : ℕ) → store_in (removed places dir name node) k ≡ calls.removed (store_in places) dir name k
  store_gone = store_removed places dir name node tree may.there may.apart inside

  pub foreign_gone : HasNoForeign places → HasNoForeign (removed places dir name node)
  foreign_gone = foreign_removed places dir name node tree may.there may.apart inside
