use Rattle.std.proofs.Common.{[], ◌∷◌, List, subst, sym}
use Rattle.tree_model.specs.declared.place.Place.{Place}
use Rattle.names_model.specs.StoreCalls.{CanRemove}
use Rattle.lower_mem.specs.Names.{store_in}
use Rattle.lower_mem.proofs.OneFile.{can_remove_it}
use Rattle.lower_mem.proofs.tests.without_file.Goals as goal

pub remove-requires : goal.remove-requires
remove-requires c = subst (λ (places : List Place). CanRemove (store_in places) 0 (97 ∷ [])) (sym c.in_ok-names.ensures) can_remove_it
