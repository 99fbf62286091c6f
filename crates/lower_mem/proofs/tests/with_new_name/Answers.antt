use Rattle.std.proofs.Common.{[], ◌∷◌, List, subst, sym}
use Rattle.tree_model.specs.declared.place.Place.{Place}
use Rattle.names_model.specs.StoreCalls.{CanRename}
use Rattle.lower_mem.specs.Names.{store_in}
use Rattle.lower_mem.proofs.OneFile.{can_rename_it}
use Rattle.lower_mem.proofs.tests.with_new_name.Goals as goal

pub rename-requires : goal.rename-requires
rename-requires c = subst (λ (places : List Place). CanRename (store_in places) 0 (97 ∷ []) 0 (98 ∷ [])) (sym c.in_ok-names.ensures) can_rename_it
