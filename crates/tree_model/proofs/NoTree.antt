-- Places that are no tree: a directory that shows itself, which no path leads to.
use Rattle.std.proofs.Common.{◌≡◌, ℕ, List, [], ◌∷◌, Ok}
use Rattle.tree_model.specs.declared.place.Place.{Place}
use Rattle.tree_model.specs.declared.place.Place.TheVariants.{Dir}
use Rattle.tree_model.specs.PlainTree.{empty_directory}
use Rattle.tree_model.specs.Walk.{walk}
use Rattle.tree_model.specs.IsTree.{IsTree}

abbrev shows_itself : List Place
shows_itself = Dir empty_directory ∷ Dir (record { shown = (97 ∷ [], 1) ∷ []; foreign = [] }) ∷ []

not_reached : (path : List (List ℕ)) → walk shows_itself 0 path ≡ Ok 1 → ⊥
not_reached [] is = absurd cc
not_reached (name ∷ path) is = absurd cc

is_no_tree : IsTree shows_itself → ⊥
is_no_tree tree = not_reached (tree.reached 1 tt).0 (tree.reached 1 tt).1
