use Rattle.std.proofs.Common.{sym, ◌∙◌}
use Rattle.aes_planes.proofs.Lanes.{xor_lanes}
use Rattle.aes_planes.proofs.planes.xor.Goals as goal

pub returns : goal.returns
returns c i m = xor_lanes c.args.a c.args.b i m (c.fits-a.0 ∙ sym c.fits-b.0)
