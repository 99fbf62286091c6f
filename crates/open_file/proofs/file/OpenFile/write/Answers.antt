use Rattle.std.proofs.Common.{subst}
use Rattle.file_model.specs.ByteFile.{written}
use Rattle.open_file.specs.Buffered.{Buffered, ChangesOctets, buffered_of}
use Rattle.open_file.proofs.Laid.{goes_on}
use Rattle.open_file.proofs.file.OpenFile.write.Goals as goal

pub returns-clause-octets : goal.returns-clause-octets
returns-clause-octets g c =
    let held = g.B.LowerBodies.held in
    let new = buffered_of c.write.new.self in
    let change = written c.args.at c.args.octets.now in
    let e = c.in_ok-write.ensures in
    subst (λ (f : Buffered _). ChangesOctets c.args.node (held c.args.bodies.now) (held c.write.new.bodies) f new change) c.self.view_is
    (goes_on c.args.node (held c.args.bodies.now) (held c.write.new.bodies) (buffered_of c.self.inside.buffers) new change c.self.invariant e.shaped e.room e.octets e.reads.keeps e.stands)
