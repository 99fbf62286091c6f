use Rattle.aes_planes.proofs.States.{sum_of_lanes}
use Rattle.cbc_mode.proofs.blocks.sum_of.Goals as goal

pub returns : goal.returns
returns c = sum_of_lanes c.args.a.now c.args.b.now c.told-a c.told-b
