use Rattle.std.proofs.Common.{◌≡◌, arith, rules}
use Rattle.cbc_mode.proofs.BlockSteps.{puts_block}
use Rattle.cbc_mode.proofs.blocks.put_block.Goals as goal

pub returns : goal.returns
returns c =
    let same : c.copy_from_slice.new.self ≡ c.args.block.now = search rules in
    puts_block c.args.octets.now c.copy_from_slice.new.self c.args.block.now c.args.i _ (omega arith) c.requires c.told-block same
