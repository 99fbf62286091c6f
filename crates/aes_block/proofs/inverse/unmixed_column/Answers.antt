use Rattle.aes_block.proofs.InverseRounds.{unmixed_column-parts}
use Rattle.aes_block.proofs.inverse.unmixed_column.Goals as goal

pub returns : goal.returns
returns c = unmixed_column-parts c.args.a c.args.b c.args.c c.args.d c.inv_part0.result c.inv_part1.result c.inv_part2.result c.inv_part3.result
    c.inv_part0.ensures c.inv_part1.ensures c.inv_part2.ensures c.inv_part3.ensures
