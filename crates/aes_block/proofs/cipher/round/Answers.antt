use Rattle.aes_block.proofs.Rounds.{round_bytes}
use Rattle.aes_block.proofs.cipher.round.Goals as goal

pub returns : goal.returns
returns c = round_bytes c.args.s c.args.k c.mixed_column.result c.mixed_column-2.result c.mixed_column-3.result c.mixed_column-4.result
    c.mixed_column.ensures c.mixed_column-2.ensures c.mixed_column-3.ensures c.mixed_column-4.ensures
