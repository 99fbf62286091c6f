use Rattle.aes_planes.proofs.Lanes.{not_lanes}
use Rattle.aes_planes.proofs.planes.not.Goals as goal

pub returns : goal.returns
returns c i m hi hm = not_lanes c.args.a i m c.fits-a.0 hi hm
