use Rattle.std.proofs.Common.{◌≡◌, subst}
use Rattle.std.specs.Prelude.{slice_index_or}
use Rattle.lower_mem.specs.Making.{MakerInMemory, tally_in}
use Rattle.lower_mem.proofs.Tallies.{reads}
use Rattle.lower_mem.proofs.maker.MemMakerLowerMaker.tally.Goals as goal

pub returns : goal.returns
returns c = subst (λ (m : MakerInMemory). slice_index_or c.self.inside.tallies c.args.part 0 ≡ tally_in m c.args.part) c.self.view_is (reads c.self.inside.tallies c.args.part)
