use Rattle.std.proofs.Common.{◌≡◌, ℕ, ◌++◌, List, length, drop, Option, Result, Ok, Err, sym, ap, ◌∙◌, arith}
use Rattle.std.specs.Prelude.{IfOk}
use Rattle.std.specs.Option.{ok_or}
use Rattle.octet_model.specs.Octets.{AreOctets}
use Rattle.packet_model.specs.declared.packet.Tag11.{Tag11}
use Rattle.packet_model.specs.declared.packet.PacketError.{PacketError}
use Rattle.packet_model.specs.declared.packet.PacketError.TheVariants.{Bad}
use Rattle.packet_model.specs.Packet.{tag11, IsTag11, Skipped}
use Rattle.packet_model.specs.FrontPacket.{tag11_at}
use Rattle.octet_model.proofs.Octets.{AreOctets-from_each}
use Rattle.packet_model.proofs.Found.{read_is}
use Rattle.packet_model.proofs.Packets.{tag11_takes, tag11_again}
use Rattle.tag11_packet.proofs.reader.read_tag11.Goals as goal

found : (octets : List ℕ) (r : Result (Tag11 × ℕ) PacketError) → AreOctets octets → r ≡ ok_or (tag11_at octets) Bad
    → IfOk r (λ x. (s : Skipped) × IsTag11 s x.0 × (octets ≡ tag11 s x.0 ++ drop x.1 octets) × (x.1 ≡ length (tag11 s x.0)))
found octets (Ok x) fits gives = let h = tag11_takes octets x fits (read_is (tag11_at octets) x (sym gives)) in (h.0, h.2, h.1.parts, h.1.long)
found octets (Err e) fits gives = tt

pub returns-clause-found : goal.returns-clause-found
returns-clause-found c = found c.args.octets.now c.tag11_of.result (AreOctets-from_each c.args.octets.now (λ i. omega (arith, c.type_inv.octets i))) c.tag11_of.ensures

pub returns-clause-again : goal.returns-clause-again
returns-clause-again c = λ s p rest is e. c.tag11_of.ensures ∙ ap (λ (o : Option (Tag11 × ℕ)). ok_or o Bad) (ap tag11_at e ∙ tag11_again s p rest is)
