-- What lies below a foreign entry is no node of the tree.
use Rattle.std.proofs.Common.{◌≡◌, ℕ, ◌<◌, inl, inr, List, [], ◌∷◌, length, get_or, Option, Some, None, refl, sym, ap, subst, ◌∙◌}
use Rattle.std.specs.Prelude.{slice_get}
use Rattle.std.specs.Option.{option_and_then}
use Rattle.lower_model.specs.declared.kind.Kind.TheVariants as kinds
use Rattle.names_model.specs.declared.entry.Linked.{Linked}
use Rattle.names_model.specs.Store.{Store, linked_at}
use Rattle.names_model.specs.NameForm.{NameForm}
use Rattle.names_model.specs.LowerPaths.{found}
use Rattle.names_model.specs.CarriedBy.{Among}
use Rattle.tree_model.specs.declared.place.ForeignEntry.{ForeignEntry}
use Rattle.tree_model.specs.declared.place.Place.{Place}
use Rattle.tree_model.specs.IsTree.{IsTree, IsNode, node_in}
use Rattle.tree_model.proofs.Walks.{shows_in_directory, node_from_directory}
use Rattle.namespace_model.specs.Carried.{Keeps, foreign_at}
use Rattle.namespace_model.proofs.Inside.{last_step}

-- the first name of a way, and what is left of it
found_first : (store : Store) (names : List (List ℕ)) (o : Option Linked) (l : Linked) → option_and_then (λ (m : Linked). found store m names) o ≡ Some l → (m : Linked) × (o ≡ Some m) × (found store m names ≡ Some l)
found_first store names (Some m) l h = (m, refl, h)
found_first store names None l h = absurd cc

same_link : (l m : Linked) → Some l ≡ Some m → l ≡ m
same_link l m h = cc

module _ (form : NameForm) (places : List Place) (kept : List (List ℕ)) (store : Store) (keeps : Keeps form places kept store) (tree : IsTree places) where
  -- the directory of the tree that shows a node, and that its lower entry is in
  record ShownIn (at : ℕ) (lower : List ℕ) (node : ℕ) : Type 0 where
    name : List ℕ
    shows : node_in (slice_get places at) name ≡ Some node
    keeps_it : lower ≡ get_or kept node []

  -- a node that has a lower entry is shown where that is, under the lower name that is kept for it
  shown_in : (at : ℕ) (lower : List ℕ) (l : Linked) → linked_at (store at) lower ≡ Some l → IsNode (slice_get places l.node) → ShownIn at lower l.node
  shown_in at lower l h there =
      let way = tree.reached l.node there in
      elim (last_step places 0 way.0 l.node way.1) [
        | inl e ↦ absurd (keeps.carries.low_root at lower l h (sym e.1))
        | inr s ↦ (let same = keeps.carries.low_once at s.from lower (get_or kept l.node []) l _ h (keeps.carries.down s.from s.name l.node s.shows) refl in
            record {
              name = s.name;
              shows = ap (λ (j : ℕ). node_in (slice_get places j) s.name) same.0 ∙ s.shows;
              keeps_it = same.1;
            })
      ]

  -- a foreign entry is no node of the tree
  foreign_is_none : (k : ℕ) (f : ForeignEntry) (l : Linked) → Among f (foreign_at (slice_get places k)) → linked_at (store k) f.lower ≡ Some l → IsNode (slice_get places l.node) → ⊥
  foreign_is_none k f l among h there =
      let s = shown_in k f.lower l h there in
      keeps.carries.apart k s.name l.node f s.shows among s.keeps_it

  -- where the end of a way is a node of the tree, its beginning is one
  begins_there : (path : List (List ℕ)) (at l : Linked) → found store at path ≡ Some l → IsNode (slice_get places l.node) → IsNode (slice_get places at.node)
  begins_there [] at l h there = subst (λ (m : Linked). IsNode (slice_get places m.node)) (sym (same_link at l h)) there
  begins_there (x ∷ path) at l h there =
      let m = found_first store path (linked_at (store at.node) x) l h in
      let s = shown_in at.node x m.0 m.1 (begins_there path m.0 l m.2 there) in
      node_from_directory (slice_get places at.node) (shows_in_directory (slice_get places at.node) s.name m.0.node s.shows)

  pub hidden : (k : ℕ) (f : ForeignEntry) → Among f (foreign_at (slice_get places k)) → (path : List (List ℕ)) (l : Linked)
      → found store (record { kind = kinds.Dir; node = k }) (f.lower ∷ path) ≡ Some l → IsNode (slice_get places l.node) → ⊥
  hidden k f among path l h there =
      let m = found_first store path (linked_at (store k) f.lower) l h in
      foreign_is_none k f m.0 among m.1 (begins_there path m.0 l m.2 there)

  -- what lies below a directory has a number of the tree
  number_within : (y : List ℕ) (path : List (List ℕ)) (at l : Linked) → found store at (y ∷ path) ≡ Some l → l.node < length places
  number_within y [] at l h =
      let m = found_first store [] (linked_at (store at.node) y) l h in
      subst (λ (x : Linked). x.node < length places) (same_link m.0 l m.2) (keeps.carries.low_within at.node y m.0 m.1)
  number_within y (x ∷ path) at l h =
      let m = found_first store (x ∷ path) (linked_at (store at.node) y) l h in
      number_within x path m.0 l m.2

  pub hidden_within : (k : ℕ) (f : ForeignEntry) (path : List (List ℕ)) (l : Linked) → found store (record { kind = kinds.Dir; node = k }) (f.lower ∷ path) ≡ Some l → l.node < length places
  hidden_within k f path l h = number_within f.lower path (record { kind = kinds.Dir; node = k }) l h
