use Rattle.std.proofs.Common.{◌≡◌, List, ℕ, ap, sym, ◌∙◌}
use Rattle.cipher_model.specs.Aes.{bytes_at, key_schedule}
use Rattle.cipher_model.proofs.States.{IsBlock-from_each}
use Rattle.aes_block.proofs.KeySchedule.{bytes_at-key_schedule}
use Rattle.aes_block.proofs.round_keys.RoundKeys.new.Goals as goal

-- the first of the round keys is the key
pub returns : goal.returns
returns c =
    ap (λ (ws : List ℕ). bytes_at ws 0) c.key_schedule-words.ensures
    ∙ bytes_at-key_schedule c.args.key.now (IsBlock-from_each c.args.key.now c.told-key c.fits-key)

pub invariant_of-result : goal.invariant_of-result
invariant_of-result c =
    let first : bytes_at c.key_schedule-words.result 0 ≡ c.args.key.now =
    ap (λ (ws : List ℕ). bytes_at ws 0) c.key_schedule-words.ensures
    ∙ bytes_at-key_schedule c.args.key.now (IsBlock-from_each c.args.key.now c.told-key c.fits-key) in
    record { scheduled = c.key_schedule-words.ensures ∙ ap (λ (k : List ℕ). key_schedule 4 k) (sym first); inverse = c.unmixed_words-unmixed.ensures }
