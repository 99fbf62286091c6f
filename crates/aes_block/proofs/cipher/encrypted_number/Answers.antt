use Rattle.std.proofs.Common.{List, ℕ, ap, ◌∙◌}
use Rattle.cipher_model.specs.Aes.{encrypted_with}
use Rattle.aes_block.proofs.cipher.encrypted_number.Goals as goal

pub returns : goal.returns
returns c =
    c.number_of.ensures ∙ c.encrypted_words.ensures ∙ ap (λ (b : List ℕ). encrypted_with 10 c.args.ws.now b) c.words_of.ensures
