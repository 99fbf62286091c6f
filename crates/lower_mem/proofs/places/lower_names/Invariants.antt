use Rattle.std.proofs.Common.{◌≡◌, map, take}
use Rattle.names_model.specs.Store.{lower_name}
use Rattle.lower_mem.specs.Names.{links}
use Rattle.lower_mem.proofs.places.lower_names.Given as goal

abbrev pub invariant-loop-entry : goal.invariant-loop-entry
invariant-loop-entry l = l.listed ≡ map lower_name (links l.places (take l.entry-index l.entries))
