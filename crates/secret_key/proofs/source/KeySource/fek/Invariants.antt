use Rattle.std.proofs.Common.{◌≡◌, ◌*◌, take}
use Rattle.key_model.specs.FileKey.{file_key}
use Rattle.secret_key.proofs.source.KeySource.fek.Given as goal

abbrev pub invariant-loop-i : goal.invariant-loop-i
invariant-loop-i l = take (4 * l.i) l.octets ≡ file_key l.fn.self l.fn.node l.i
