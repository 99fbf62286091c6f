use Rattle.aes_planes.proofs.Lanes.{right_lanes}
use Rattle.aes_planes.proofs.transpose.right.Goals as goal

pub returns : goal.returns
returns c i m hi = right_lanes c.args.a c.args.n i m c.fits-a.0 hi
