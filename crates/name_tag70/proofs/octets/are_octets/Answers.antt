use Rattle.std.proofs.Common.{arith}
use Rattle.octet_model.proofs.Octets.{AreOctets-from_each}
use Rattle.name_tag70.proofs.octets.are_octets.Goals as goal

pub returns : goal.returns
returns c = AreOctets-from_each c.args.octets.now (λ i. omega (arith, c.type_inv.octets i))
