use Rattle.lower_mem.proofs.Changed.{rooms_call, rooms_keep, rooms_has}
use Rattle.lower_mem.proofs.bodies.MemBodiesLowerBodies.reserve.Goals as goal

pub returns-clause-call : goal.returns-clause-call
returns-clause-call c = rw c.or_memory.ensures (rooms_call c.args.self.now c.make_room.new.self c.args.node c.args.body c.args.attribute (rw c.begin.ensures at c.make_room.ensures.rest) c.make_room.result (rw c.begin.ensures at c.make_room.ensures.ok) (rw c.begin.ensures at c.make_room.ensures.err))

pub returns-clause-keeps : goal.returns-clause-keeps
returns-clause-keeps c = rooms_keep c.args.self.now c.make_room.new.self c.args.node c.args.body c.args.attribute (rw c.begin.ensures at c.make_room.ensures.rest) c.make_room.result (rw c.begin.ensures at c.make_room.ensures.ok) (rw c.begin.ensures at c.make_room.ensures.err)

pub returns-clause-rooms : goal.returns-clause-rooms
returns-clause-rooms c = rw c.or_memory.ensures (rooms_has c.args.self.now c.make_room.new.self c.args.node c.args.body c.args.attribute (rw c.begin.ensures at c.make_room.ensures.rest) c.make_room.result (rw c.begin.ensures at c.make_room.ensures.ok) (rw c.begin.ensures at c.make_room.ensures.own))
