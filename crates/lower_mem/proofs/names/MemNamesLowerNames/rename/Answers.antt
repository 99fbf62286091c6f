use Rattle.std.proofs.Common.{subst, sym}
use Rattle.names_model.specs.StoreCalls.{CanRename}
use Rattle.lower_mem.specs.Names.{NamesInMemory, store_in}
use Rattle.lower_mem.proofs.names.MemNamesLowerNames.rename.Goals as goal

pub rename-requires-clause-can : goal.rename-requires-clause-can
rename-requires-clause-can c = subst (λ (n : NamesInMemory). CanRename (store_in n.places) c.args.dir c.args.name.now c.args.to_dir c.args.to_name.now) (sym c.self.view_is) c.requires
