use Rattle.std.proofs.Common.{List, ℕ, refl, ap, sym, ◌∙◌}
use Rattle.std.specs.Int.{w128, to_le_bytes}
use Rattle.cipher_model.specs.Aes.{bytes_at, encrypted, encrypted_with}
use Rattle.cipher_model.proofs.InverseCipher.{encrypted-16}
use Rattle.aes_block.proofs.round_keys.RoundKeys.encrypt_number.Goals as goal

pub returns : goal.returns
returns c =
    let b : List ℕ = to_le_bytes w128 c.args.block in
    c.encrypted_number.ensures ∙ ap (λ (ws : List ℕ). encrypted_with 10 ws b) c.self.invariant.scheduled
    ∙ sym (encrypted-16 (bytes_at c.self.inside.words 0) b refl) ∙ ap (λ (k : List ℕ). encrypted k b) c.self.view_is
