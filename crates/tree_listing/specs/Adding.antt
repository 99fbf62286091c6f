-- Items of a listing, added directory by directory.
use Rattle.std.specs.Prelude.{ℕ, ◌≡◌, ◌<◌, List, [], ◌++◌, length, Option, Some, None, slice_get}
use Rattle.std.specs.List.{AllByRecursion}
use Rattle.tree_model.specs.declared.listed.Listed.{Listed}
use Rattle.tree_model.specs.declared.listed.Listed.TheVariants.{Shown, Foreign}
use Rattle.tree_model.specs.declared.place.Place.{Place}
use Rattle.tree_model.specs.PlainTree.{shown_in}
use Rattle.tree_model.specs.Listing.{Lists, LeadsToNode, foreign_in}

abbrev pub path_in : Option Listed → List (List ℕ)
path_in (Some (Shown path number)) = path
path_in (Some (Foreign path lower number)) = path
path_in None = []

-- the path of the directory whose item has this index; the root has no item
abbrev pub path_at : List Listed → Option ℕ → List (List ℕ)
path_at items (Some index) = path_in (slice_get items index)
path_at items None = []

-- It is the index of an item, or none.
abbrev pub IsIndex : Option ℕ → List Listed → Type 0
IsIndex (Some index) items = index < length items
IsIndex None items = Unit {0}

-- The listing of the directory at a number, which has this path, was added.
pub record AddsListing (places : List Place) (number : ℕ) (path : List (List ℕ)) (old new : List Listed) : Type 0 where
  pub listing : List Listed
  pub lists : Lists places path (shown_in (slice_get places number)) (foreign_in (slice_get places number)) listing
  pub nodes : AllByRecursion (LeadsToNode places) listing
  pub added : new ≡ old ++ listing
