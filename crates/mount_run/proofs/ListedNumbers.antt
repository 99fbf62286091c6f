-- The numbers of the items of a listing.
use Rattle.std.proofs.Common.{◌≡◌, ℕ, zero, suc, ◌<◌, List, [], ◌∷◌, length, refl, subst, arith, length-append}
use Rattle.std.specs.Prelude.{slice_get}
use Rattle.std.specs.List.{AllByRecursion}
use Rattle.lower_model.specs.declared.node.LowerNode.{LowerNode}
use Rattle.tree_model.specs.declared.place.Place.{Place}
use Rattle.tree_model.specs.IsTree.{IsNode}
use Rattle.tree_model.specs.declared.listed.Listed.{Listed}
use Rattle.tree_model.specs.declared.listed.Listed.TheVariants.{Shown, Foreign}
use Rattle.tree_model.specs.Listing.{LeadsToNode}
use Rattle.names_model.specs.Store.{Store, store_of}
use Rattle.names_model.specs.NameForm.{NameForm}
use Rattle.names_model.specs.ShownBy.{shown_places, shown_of, next_place}
use Rattle.mount_run.specs.ShowLines.{IsNumber}

count_of : (form : NameForm) (store : Store) (count : ℕ) → length (shown_places form store count) ≡ count
count_of form store zero = refl
count_of form store (suc n) =
    let before = shown_places form store n in
    omega (arith, length-append before (next_place form store n before ∷ []), count_of form store n)

below : (places : List Place) (number : ℕ) → IsNode (slice_get places number) → number < length places
below [] zero h = absurd h
below [] (suc number) h = absurd h
below (place ∷ places) zero h = omega arith
below (place ∷ places) (suc number) h = (let b = below places number h in omega (arith, b))

number_of : (form : NameForm) (image : List LowerNode) (item : Listed) → LeadsToNode (shown_of form image).places item → IsNumber image item
number_of form image (Shown path number) h = subst (λ (count : ℕ). number < count) (count_of form (store_of image) (length image)) (below (shown_places form (store_of image) (length image)) number h)
number_of form image (Foreign path lower number) h = tt

-- each item that is shown has the number of a node of the image
pub numbers : (form : NameForm) (image : List LowerNode) (items : List Listed) → AllByRecursion (LeadsToNode (shown_of form image).places) items → AllByRecursion (IsNumber image) items
numbers form image [] all = tt
numbers form image (item ∷ items) all = (number_of form image item all.0, numbers form image items all.1)
