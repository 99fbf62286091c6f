use Rattle.std.proofs.Common.{arith, ◌≡◌, ◌++◌, ℕ, ap, ◌∙◌}
use Rattle.key_model.specs.PassphraseKey.{iterated_sha512}
use Rattle.passphrase_key.proofs.key_octets.Goals as goal

pub returns : goal.returns
returns c =
    let all : c.loop-done._done ≡ 65536 = omega arith in
    c.loop-done.invariant ∙ ap (λ (n : ℕ). iterated_sha512 n (c.args.salt.now ++ c.args.passphrase.now)) all
