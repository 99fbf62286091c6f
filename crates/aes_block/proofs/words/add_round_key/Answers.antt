use Rattle.std.proofs.Common.{List, ℕ, ap, ◌∙◌}
use Rattle.cipher_model.specs.Aes.{add_round_key, bytes_at}
use Rattle.aes_block.proofs.WordBytes.{xored_bytes}
use Rattle.aes_block.proofs.words.add_round_key.Goals as goal

pub returns : goal.returns
returns c = xored_bytes c.args.s c.key_at.result ∙ ap (λ (k : List ℕ). add_round_key (bytes_at c.args.s 0) k) c.key_at.ensures
