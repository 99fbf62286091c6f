use Rattle.std.proofs.Common.{sym, ◌∙◌}
use Rattle.aes_planes.proofs.Lanes.{and_lanes}
use Rattle.aes_planes.proofs.planes.and.Goals as goal

pub returns : goal.returns
returns c i m = and_lanes c.args.a c.args.b i m (c.fits-a.0 ∙ sym c.fits-b.0)
