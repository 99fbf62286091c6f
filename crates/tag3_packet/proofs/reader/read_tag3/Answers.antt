use Rattle.std.proofs.Common.{◌≡◌, ℕ, ◌++◌, List, length, drop, Result, Ok, Err, ap, subst, ◌∙◌, arith}
use Rattle.std.specs.Prelude.{IfOk}
use Rattle.octet_model.specs.Octets.{AreOctets}
use Rattle.packet_model.specs.declared.packet.Tag3.{Tag3}
use Rattle.packet_model.specs.declared.packet.PacketError.{PacketError}
use Rattle.packet_model.specs.Packet.{tag3, IsTag3}
use Rattle.packet_model.specs.FrontPacket.{tag3_at, GivesPacket}
use Rattle.octet_model.proofs.Octets.{AreOctets-from_each}
use Rattle.packet_model.proofs.Found.{read_is}
use Rattle.packet_model.proofs.Packets.{tag3_takes, tag3_again}
use Rattle.tag3_packet.proofs.reader.read_tag3.Goals as goal

found : (octets : List ℕ) (r : Result (Tag3 × ℕ) PacketError) → AreOctets octets → GivesPacket r (tag3_at octets)
    → IfOk r (λ x. IsTag3 x.0 × (octets ≡ tag3 x.0 ++ drop x.1 octets) × (x.1 ≡ length (tag3 x.0)))
found octets (Ok x) fits gives = let h = tag3_takes octets x fits (read_is (tag3_at octets) x gives) in (h.1, h.0.parts, h.0.long)
found octets (Err e) fits gives = tt

pub returns-clause-found : goal.returns-clause-found
returns-clause-found c = found c.args.octets.now c.tag3_of.result (AreOctets-from_each c.args.octets.now (λ i. omega (arith, c.type_inv.octets i))) c.tag3_of.ensures

pub returns-clause-again : goal.returns-clause-again
returns-clause-again c = λ p rest is e. subst (GivesPacket c.tag3_of.result) (ap tag3_at e ∙ tag3_again p rest is) c.tag3_of.ensures
