use Rattle.std.proofs.Common.{◌≡◌, vec_len}
use Rattle.namespace.proofs.listing.unopened.Given as goal

abbrev pub invariant-fill : goal.invariant-fill
invariant-fill l = vec_len l.kept ≡ l.i
