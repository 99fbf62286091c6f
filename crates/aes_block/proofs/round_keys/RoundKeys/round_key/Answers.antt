use Rattle.std.proofs.Common.{◌*◌, List, ℕ, refl, ap, sym, ◌∙◌}
use Rattle.cipher_model.specs.Aes.{bytes_at, round_key}
use Rattle.cipher_model.proofs.InverseCipher.{round_key-16}
use Rattle.aes_block.proofs.round_keys.RoundKeys.round_key.Goals as goal

pub returns-clause-value : goal.returns-clause-value
returns-clause-value c =
    c.to_le_bytes.ensures ∙ c.number_of.ensures ∙ c.key_at.ensures ∙ ap (λ (ws : List ℕ). bytes_at ws (4 * c.args.r)) c.self.invariant.scheduled
    ∙ sym (round_key-16 (bytes_at c.self.inside.words 0) c.args.r refl) ∙ ap (λ (k : List ℕ). round_key k c.args.r) c.self.view_is

pub returns-clause-first : goal.returns-clause-first
returns-clause-first c =
    ap (λ (k : List ℕ). round_key k 0) (sym c.self.view_is) ∙ round_key-16 (bytes_at c.self.inside.words 0) 0 refl
    ∙ ap (λ (ws : List ℕ). bytes_at ws 0) (sym c.self.invariant.scheduled) ∙ c.self.view_is
