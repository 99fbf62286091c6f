use Rattle.std.proofs.Common.{ap, ◌∙◌}
use Rattle.cipher_model.specs.Aes.{inv_mix_columns}
use Rattle.aes_planes.proofs.plane_keys.unround.Goals as goal

pub returns : goal.returns
returns c m hm = c.inv_mix.ensures m ∙ ap inv_mix_columns (c.last_unround.ensures m hm)
