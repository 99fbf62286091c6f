use Rattle.aes_block.proofs.Rounds.{last_round_bytes}
use Rattle.aes_block.proofs.cipher.last_round.Goals as goal

pub returns : goal.returns
returns c = last_round_bytes c.args.s c.args.k c.subbed_column.result c.subbed_column-2.result c.subbed_column-3.result c.subbed_column-4.result
    c.subbed_column.ensures c.subbed_column-2.ensures c.subbed_column-3.ensures c.subbed_column-4.ensures
