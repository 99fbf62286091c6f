use Rattle.aes_block.proofs.Rounds.{subbed_column-parts}
use Rattle.aes_block.proofs.cipher.subbed_column.Goals as goal

pub returns : goal.returns
returns c = subbed_column-parts c.args.a c.args.b c.args.c c.args.d c.sub_part0.result c.sub_part1.result c.sub_part2.result c.sub_part3.result
    c.sub_part0.ensures c.sub_part1.ensures c.sub_part2.ensures c.sub_part3.ensures
