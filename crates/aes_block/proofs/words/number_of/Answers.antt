use Rattle.aes_block.proofs.BlockWords.{number_bytes}
use Rattle.aes_block.proofs.words.number_of.Goals as goal

pub returns : goal.returns
returns c =
    number_bytes c.args.words c.swap_bytes.result c.swap_bytes-2.result c.swap_bytes-3.result c.swap_bytes-4.result
    c.swap_bytes.ensures c.swap_bytes-2.ensures c.swap_bytes-3.ensures c.swap_bytes-4.ensures
