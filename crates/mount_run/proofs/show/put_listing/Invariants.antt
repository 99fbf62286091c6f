use Rattle.std.proofs.Common.{◌∷◌, []}
use Rattle.mount_run.specs.ShowLines.{AddsLines}
use Rattle.mount_run.proofs.show.put_listing.Given as goal

abbrev pub invariant-loop-listed : goal.invariant-loop-listed
invariant-loop-listed l = AddsLines (l.ring ∷ []) l.nodes l.yielded l.fn.out.items l.out.items
