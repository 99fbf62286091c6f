use Rattle.std.proofs.Common.{◌≡◌, ◌≤◌, ℕ, ◌++◌, List, length, drop, Result, Ok, Err, sym, ap, ◌∙◌, arith}
use Rattle.std.specs.Prelude.{IfOk}
use Rattle.octet_model.specs.Octets.{AreOctets}
use Rattle.packet_model.specs.declared.length.LengthFault.{LengthFault}
use Rattle.packet_model.specs.declared.length.TheConstants.{MAX_LENGTH}
use Rattle.packet_model.specs.Length.{length_at, length_octets}
use Rattle.octet_model.proofs.Octets.{AreOctets-from_each}
use Rattle.packet_model.proofs.Lengths.{length_takes, length_again, length-octets}
use Rattle.packet_length.proofs.length.read_length.Goals as goal

found : (octets : List ℕ) (r : Result (ℕ × ℕ) LengthFault) → AreOctets octets → r ≡ length_at octets → IfOk r (λ x. octets ≡ length_octets x.0 ++ drop x.1 octets)
found octets (Ok x) fits is = (length_takes octets x fits (sym is)).0.parts
found octets (Err fault) fits is = tt

small : (octets : List ℕ) (r : Result (ℕ × ℕ) LengthFault) → AreOctets octets → r ≡ length_at octets → IfOk r (λ x. (x.0 ≤ MAX_LENGTH) × (x.1 ≡ length (length_octets x.0)) × (x.1 ≤ 2))
small octets (Ok x) fits is = let h = length_takes octets x fits (sym is) in (h.1, h.0.long, omega (arith, h.0.long, length-octets x.0))
small octets (Err fault) fits is = tt

pub returns-clause-found : goal.returns-clause-found
returns-clause-found c = found c.args.octets.now c.length_of.result (AreOctets-from_each c.args.octets.now (λ i. omega (arith, c.type_inv.octets i))) c.length_of.ensures

pub returns-clause-small : goal.returns-clause-small
returns-clause-small c = small c.args.octets.now c.length_of.result (AreOctets-from_each c.args.octets.now (λ i. omega (arith, c.type_inv.octets i))) c.length_of.ensures

pub returns-clause-again : goal.returns-clause-again
returns-clause-again c = λ n rest lt is. c.length_of.ensures ∙ ap length_at is ∙ length_again n rest lt
