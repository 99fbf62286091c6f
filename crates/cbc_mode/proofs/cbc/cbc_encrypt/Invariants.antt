use Rattle.std.specs.Int.{w128, to_le_bytes}
use Rattle.cbc_mode.proofs.CbcSteps.{IsEncryptedTo}
use Rattle.cbc_mode.proofs.cbc.cbc_encrypt.Given as goal

abbrev pub invariant-chain : goal.invariant-chain
invariant-chain l = IsEncryptedTo l.keys l.iv l.fn.octets l.octets (to_le_bytes w128 l.last) l.i
