use Rattle.aes_block.proofs.InverseRounds.{unmixed_word-sub_word}
use Rattle.aes_block.proofs.inverse.unmixed_word.Goals as goal

pub returns : goal.returns
returns c = unmixed_word-sub_word c.args.w c.subbed_column-s.result c.unmixed_column.result c.subbed_column-s.ensures c.unmixed_column.ensures
