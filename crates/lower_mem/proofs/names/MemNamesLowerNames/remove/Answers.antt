use Rattle.std.proofs.Common.{subst, sym}
use Rattle.names_model.specs.StoreCalls.{CanRemove}
use Rattle.lower_mem.specs.Names.{NamesInMemory, store_in}
use Rattle.lower_mem.proofs.names.MemNamesLowerNames.remove.Goals as goal

pub remove-requires-clause-can : goal.remove-requires-clause-can
remove-requires-clause-can c = subst (λ (n : NamesInMemory). CanRemove (store_in n.places) c.args.dir c.args.name.now) (sym c.self.view_is) c.requires
