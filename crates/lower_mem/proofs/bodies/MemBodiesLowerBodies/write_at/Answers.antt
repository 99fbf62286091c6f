use Rattle.std.proofs.Common.{length, arith}
use Rattle.octet_model.specs.Octets.{AreOctets}
use Rattle.octet_model.proofs.Octets.{AreOctets-from_each}
use Rattle.lower_mem.specs.Files.{put_at, torn}
use Rattle.lower_mem.specs.Bodies.{file_at_node}
use Rattle.lower_mem.proofs.Written.{put_octets, torn_octets}
use Rattle.lower_mem.proofs.Changed.{body_call, body_octets, octets_put, octets_torn}
use Rattle.lower_mem.proofs.bodies.MemBodiesLowerBodies.write_at.Goals as goal

pub returns-in-Err-clause-others : goal.returns-in-Err-clause-others
returns-in-Err-clause-others c =
    let old = (file_at_node c.args.self.now c.args.node).file.body in
    let count = length c.args.from.now in
    rw (c.tear.ensures, c.begin_change.ensures.counted) (body_octets c.args.self.now c.args.node (put_at c.args.at (torn count) old) (put_octets c.args.at (torn count) old (torn_octets count)))

pub returns-in-Err-clause-torn : goal.returns-in-Err-clause-torn
returns-in-Err-clause-torn c = rw (c.tear.ensures, c.begin_change.ensures.counted) (octets_torn c.args.self.now c.args.node c.args.at (length c.args.from.now) c.requires)

pub returns-clause-call : goal.returns-clause-call
returns-clause-call c =
    let old = (file_at_node c.args.self.now c.args.node).file.body in
    rw (c.write.ensures, c.begin_change.ensures.counted) (body_call c.args.self.now c.args.node (put_at c.args.at c.args.from.now old) _ c.in_default.ensures.failed)

pub returns-clause-others : goal.returns-clause-others
returns-clause-others c =
    let old = (file_at_node c.args.self.now c.args.node).file.body in
    let octets : AreOctets c.args.from.now = AreOctets-from_each c.args.from.now (λ i. omega (arith, c.type_inv.from i)) in
    rw (c.write.ensures, c.begin_change.ensures.counted) (body_octets c.args.self.now c.args.node (put_at c.args.at c.args.from.now old) (put_octets c.args.at c.args.from.now old octets))

pub returns-clause-written : goal.returns-clause-written
returns-clause-written c = rw (c.write.ensures, c.begin_change.ensures.counted) (octets_put c.args.self.now c.args.node c.args.at c.args.from.now c.requires)
