use Rattle.aes_planes.proofs.Lanes.{left_lanes}
use Rattle.aes_planes.proofs.transpose.left.Goals as goal

pub returns : goal.returns
returns c i m hi hm = left_lanes c.args.a c.args.n i m c.fits-a.0 hi hm
