use Rattle.std.proofs.Common.{[], ◌∷◌, List, subst, sym}
use Rattle.tree_model.specs.declared.place.Place.{Place}
use Rattle.names_model.specs.StoreCalls.{CanCreate}
use Rattle.lower_mem.specs.Names.{store_in}
use Rattle.lower_mem.proofs.OneFile.{can_create_beside}
use Rattle.lower_mem.proofs.tests.with_second.Goals as goal

pub create-requires : goal.create-requires
create-requires c = subst (λ (places : List Place). CanCreate (store_in places) 0 (98 ∷ []) 2) (sym c.in_ok-names.ensures) can_create_beside
