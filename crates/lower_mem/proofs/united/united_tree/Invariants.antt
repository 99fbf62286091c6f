use Rattle.std.proofs.Common.{◌+◌, ◌-◌, ◌*◌, length, map, vec_len}
use Rattle.lower_tree.specs.Held.{file_at}
use Rattle.lower_mem.specs.Bodies.{bodies_held}
use Rattle.lower_mem.proofs.Laying.{Laying}
use Rattle.lower_mem.proofs.united.united_tree.Given as goal

abbrev pub invariant-loop-open : goal.invariant-loop-open
invariant-loop-open l = Laying (file_at (map bodies_held l.initial.bodies)) (file_at (map bodies_held l.bodies)) l.places l.nodes.items l.stack.items

-- each turn lays out a node or closes a directory
abbrev pub decreases-loop-open : goal.decreases-loop-open
decreases-loop-open l = 2 * (length l.places - vec_len l.nodes) + vec_len l.stack
