use Rattle.std.proofs.Common.{arith}
use Rattle.open_file.specs.Buffered.{buffered_of}
use Rattle.open_file.proofs.Resizing.{reached_octets}
use Rattle.open_file.proofs.buffers.Buffers.reach.Goals as goal

pub returns-clause-octets : goal.returns-clause-octets
returns-clause-octets g c =
    reached_octets c.args.end (buffered_of c.args.self.now) (buffered_of c.truncate.new.self) c.requires.shaped (omega (arith, c.if-end-self.false)) c.in_ok-truncate.ensures.octets
