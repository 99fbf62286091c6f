use Rattle.std.proofs.Common.{List, ℕ, subst}
use Rattle.cbc_mode.specs.BlocksInPlace.{PutsBlock}
use Rattle.aes_planes.proofs.States.{sum_of_lanes}
use Rattle.cbc_mode.proofs.blocks.put_sum.Goals as goal

pub returns : goal.returns
returns c =
    subst (λ (b : List ℕ). PutsBlock c.args.octets.now c.put_block.new.octets c.args.i b) (sum_of_lanes c.args.a c.args.b c.fits-a.0 c.fits-b.0) c.put_block.ensures
