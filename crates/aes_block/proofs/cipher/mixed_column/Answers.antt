use Rattle.aes_block.proofs.Rounds.{mixed_column-parts}
use Rattle.aes_block.proofs.cipher.mixed_column.Goals as goal

pub returns : goal.returns
returns c = mixed_column-parts c.args.a c.args.b c.args.c c.args.d c.part0.result c.part1.result c.part2.result c.part3.result
    c.part0.ensures c.part1.ensures c.part2.ensures c.part3.ensures
