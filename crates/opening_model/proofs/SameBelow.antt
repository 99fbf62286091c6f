-- Files that are as they were under each number that was no file of the tree at first, are so below foreign entries.
use Rattle.std.proofs.Common.{◌≡◌, ℕ, ◌<◌, List, ◌∷◌, length, Option, Some, sym, ap, subst, ◌∙◌}
use Rattle.std.specs.Prelude.{slice_get}
use Rattle.lower_model.specs.declared.kind.Kind.TheVariants as kinds
use Rattle.lower_model.specs.declared.node.LowerNode.{LowerNode}
use Rattle.body_model.specs.LowerFile.{LowerFile}
use Rattle.names_model.specs.declared.entry.Linked.{Linked}
use Rattle.names_model.specs.Store.{Store, store_of}
use Rattle.names_model.specs.NameForm.{NameForm}
use Rattle.names_model.specs.LowerPaths.{found, files_of}
use Rattle.names_model.specs.CarriedBy.{Among}
use Rattle.tree_model.specs.declared.place.ForeignEntry.{ForeignEntry}
use Rattle.tree_model.specs.declared.place.Place.{Place}
use Rattle.tree_model.specs.declared.place.Place.TheVariants.{File}
use Rattle.tree_model.specs.IsTree.{IsTree, IsNode}
use Rattle.namespace_model.specs.Carried.{Keeps, foreign_at}
use Rattle.namespace_model.proofs.Unshown.{hidden, hidden_within}

-- The tree at first, with the store of these nodes; places later, whose foreign entries are those of the tree.
module _ (form : NameForm) (start : List Place) (kept : List (List ℕ)) (first : Store) (keeps : Keeps form start kept first) (tree : IsTree start)
    (nodes : List LowerNode) (held : (k : ℕ) → first k ≡ store_of nodes k) (places : List Place) (foreign : (k : ℕ) → foreign_at (slice_get places k) ≡ foreign_at (slice_get start k)) where
  pub same_below : (files : ℕ → LowerFile) → ((n : ℕ) → n < length start → (slice_get start n ≡ Some File → ⊥) → files n ≡ files_of nodes n)
      → (n : ℕ) (f : ForeignEntry) → Among f (foreign_at (slice_get places n)) → (path : List (List ℕ)) (l : Linked) → found (store_of nodes) (record { kind = kinds.Dir; node = n }) (f.lower ∷ path) ≡ Some l
      → l.kind ≡ kinds.File → files l.node ≡ files_of nodes l.node
  same_below files same n f among path l h kind =
      let here : Among f (foreign_at (slice_get start n)) = subst (Among f) (foreign n) among in
      let all : first ≡ store_of nodes = λ i k. held k i in
      let leads : found first (record { kind = kinds.Dir; node = n }) (f.lower ∷ path) ≡ Some l = ap (λ (s : Store). found s (record { kind = kinds.Dir; node = n }) (f.lower ∷ path)) all ∙ h in
      same l.node (hidden_within form start kept first keeps tree n f path l leads) (λ file. hidden form start kept first keeps tree n f here path l leads (subst (λ (p : Option Place). IsNode p) (sym file) tt))
