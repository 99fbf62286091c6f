use Rattle.std.proofs.Common.{◌≡◌, true, sym, subst, arith}
use Rattle.key_model.specs.SignedKey.{SignedKey}
use Rattle.content_model.specs.Ecryptfs.{are_eight_octets}
use Rattle.format_laws.proofs.EightOctets.{eight_pass}
use Rattle.extent_file.proofs.ecryptfs.Ecryptfs.new.Goals as goal

pub invariant_of-result : goal.invariant_of-result
invariant_of-result c = (
  subst (λ (k : SignedKey). are_eight_octets k.signature ≡ true) (sym c.new.ensures) (eight_pass c.args.signature (omega arith) c.are_octets.ensures),
  (eight_pass c.args.salt (omega arith) c.are_octets-2.ensures, tt),
)
