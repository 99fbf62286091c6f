use Rattle.std.proofs.Common.{◌≡◌}
use Rattle.cipher_model.specs.Aes.{encrypted}
use Rattle.cipher_model.specs.Blocks.{block_at}
use Rattle.cbc_mode.specs.BlocksInPlace.{IsDone}
use Rattle.cbc_mode.proofs.ecb.ecb_encrypt.Given as goal

abbrev pub invariant-each : goal.invariant-each
invariant-each l = IsDone (λ j b. b ≡ encrypted l.keys (block_at l.fn.octets j)) l.fn.octets l.octets l.i
