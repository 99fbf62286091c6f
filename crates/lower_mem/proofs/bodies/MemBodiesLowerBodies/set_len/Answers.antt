use Rattle.lower_mem.specs.Files.{resized}
use Rattle.lower_mem.specs.Bodies.{file_at_node}
use Rattle.lower_mem.proofs.Written.{resized_octets}
use Rattle.lower_mem.proofs.Changed.{body_octets, len_set}
use Rattle.lower_mem.proofs.bodies.MemBodiesLowerBodies.set_len.Goals as goal

pub returns-clause-others : goal.returns-clause-others
returns-clause-others c =
    let old = (file_at_node c.args.self.now c.args.node).file.body in
    rw (c.resize.ensures, c.begin_change.ensures.counted) (body_octets c.args.self.now c.args.node (resized c.args.len old) (resized_octets c.args.len old))

pub returns-clause-resized : goal.returns-clause-resized
returns-clause-resized c = rw (c.resize.ensures, c.begin_change.ensures.counted) (len_set c.args.self.now c.args.node c.args.len c.requires)
