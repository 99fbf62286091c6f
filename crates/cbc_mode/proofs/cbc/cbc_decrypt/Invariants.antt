use Rattle.cbc_mode.specs.BlocksInPlace.{IsDecryptedTo}
use Rattle.cbc_mode.proofs.cbc.cbc_decrypt.Given as goal

abbrev pub invariant-chain : goal.invariant-chain
invariant-chain l = IsDecryptedTo l.keys l.iv l.fn.octets l.octets l.last l.i
