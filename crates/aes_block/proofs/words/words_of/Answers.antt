use Rattle.aes_block.proofs.BlockWords.{words_bytes}
use Rattle.aes_block.proofs.words.words_of.Goals as goal

pub returns : goal.returns
returns c =
    words_bytes c.args.block c.swap_bytes.result c.swap_bytes-2.result c.swap_bytes-3.result c.swap_bytes-4.result
    c.swap_bytes.ensures c.swap_bytes-2.ensures c.swap_bytes-3.ensures c.swap_bytes-4.ensures
