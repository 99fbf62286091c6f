use Rattle.std.proofs.Common.{arith}
use Rattle.octet_model.proofs.Octets.{AreOctets-from_each}
use Rattle.image_model.proofs.Image.{nodes_take}
use Rattle.image_model.proofs.FaultOffsets.{left-within}
use Rattle.lower_image.proofs.image_reader.tree_of.Goals as goal

pub from_vec-requires : goal.from_vec-requires
from_vec-requires c = (nodes_take c.args.octets.now c.in-Ok.nodes.items (AreOctets-from_each c.args.octets.now (λ i. omega (arith, c.type_inv.octets i))) c.in-Ok.ensures).0

pub overflow_sub-result : goal.overflow_sub-result
overflow_sub-result c = left-within c.args.octets.now (record { left = c.in-Err-Fault.left; kind = c.in-Err-Fault.kind }) (rw c.in-Err-Fault.field-0-is at c.in-Err-Fault.ensures)
