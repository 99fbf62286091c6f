use Rattle.aes_planes.proofs.Lanes.{masked_lanes}
use Rattle.aes_planes.proofs.transpose.with_mask.Goals as goal

pub returns : goal.returns
returns c i m hi = masked_lanes c.args.a c.args.mask i m c.fits-a.0 hi
