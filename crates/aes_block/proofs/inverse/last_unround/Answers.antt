use Rattle.aes_block.proofs.InverseRounds.{last_unround_bytes}
use Rattle.aes_block.proofs.inverse.last_unround.Goals as goal

pub returns : goal.returns
returns c = last_unround_bytes c.args.s c.args.k c.unsubbed_column.result c.unsubbed_column-2.result c.unsubbed_column-3.result c.unsubbed_column-4.result
    c.unsubbed_column.ensures c.unsubbed_column-2.ensures c.unsubbed_column-3.ensures c.unsubbed_column-4.ensures
