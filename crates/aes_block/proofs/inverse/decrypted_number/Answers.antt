use Rattle.std.proofs.Common.{List, ℕ, ap, ◌∙◌}
use Rattle.cipher_model.specs.Aes.{decrypted_with}
use Rattle.aes_block.proofs.inverse.decrypted_number.Goals as goal

pub returns : goal.returns
returns c =
    c.number_of.ensures ∙ c.decrypted_words.ensures ∙ ap (λ (b : List ℕ). decrypted_with 10 c.args.ws.now b) c.words_of.ensures
