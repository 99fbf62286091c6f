use Rattle.std.proofs.Common.{◌≡◌, ◌++◌}
use Rattle.key_model.specs.PassphraseKey.{iterated_sha512}
use Rattle.passphrase_key.proofs.key_octets.Given as goal

abbrev pub invariant-loop-done : goal.invariant-loop-done
invariant-loop-done l = l.digest ≡ iterated_sha512 l._done (l.salt ++ l.passphrase)
