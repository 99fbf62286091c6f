use Rattle.std.proofs.Common.{subst, sym}
use Rattle.names_model.specs.StoreCalls.{CanCreate}
use Rattle.lower_mem.specs.Names.{NamesInMemory, store_in}
use Rattle.lower_mem.proofs.names.MemNamesLowerNames.create.Goals as goal

pub create-requires : goal.create-requires
create-requires c = subst (λ (n : NamesInMemory). CanCreate (store_in n.places) c.args.dir c.args.name.now c.args.node) (sym c.self.view_is) c.requires
