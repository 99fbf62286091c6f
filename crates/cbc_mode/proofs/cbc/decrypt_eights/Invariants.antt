use Rattle.std.proofs.Common.{◌*◌}
use Rattle.cbc_mode.specs.BlocksInPlace.{IsDecryptedTo}
use Rattle.cbc_mode.proofs.cbc.decrypt_eights.Given as goal

abbrev pub invariant-eights : goal.invariant-eights
invariant-eights l = IsDecryptedTo l.keys l.iv l.fn.octets l.octets l.last (8 * l.j)
