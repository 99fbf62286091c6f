use Rattle.aes_planes.proofs.Lanes.{is_block}
use Rattle.aes_planes.proofs.planes.as_block.Goals as goal

pub returns-clause-block : goal.returns-clause-block
returns-clause-block c = is_block c.args.a c.fits-a.0 c.fits-a.1
