use Rattle.open_file.specs.Buffered.{buffered_of}
use Rattle.open_file.proofs.Resizing.{changed_octets, changed_stands}
use Rattle.open_file.proofs.buffers.Buffers.truncate.Goals as goal

pub returns-then-size-self-2-clause-stands : goal.returns-then-size-self-2-clause-stands
returns-then-size-self-2-clause-stands g c = λ format origin file lawful s.
    changed_stands c.args.size (buffered_of c.args.self.now) (buffered_of c.shrink.new.self) format origin file c.requires.shaped c.requires.most c.shrink.ensures lawful s

pub returns-clause-octets : goal.returns-clause-octets
returns-clause-octets g c = changed_octets c.args.size (buffered_of c.args.self.now) (buffered_of c.grow.new.self) c.requires.shaped c.in_ok-grow.ensures.ok

pub returns-clause-stands : goal.returns-clause-stands
returns-clause-stands g c = λ format origin file lawful s.
    changed_stands c.args.size (buffered_of c.args.self.now) (buffered_of c.grow.new.self) format origin file c.requires.shaped c.requires.most c.in_ok-grow.ensures.ok lawful s
