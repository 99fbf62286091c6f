use Rattle.lower_tree.specs.Making.{held_parts}
use Rattle.lower_mem.specs.Names.{names_held}
use Rattle.lower_mem.specs.Bodies.{bodies_held}
use Rattle.lower_mem.proofs.StoreTrees.{hold_some_tree}
use Rattle.lower_mem.proofs.tests.united.Goals as goal

pub unite-requires-clause-allowed : goal.unite-requires-clause-allowed
unite-requires-clause-allowed c = λ told. hold_some_tree (held_parts names_held bodies_held c.in-Ok.parts.names c.in-Ok.parts.bodies.items) _ c.in-Ok.ensures.hold
