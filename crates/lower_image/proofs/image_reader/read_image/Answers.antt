use Rattle.std.proofs.Common.{◌≡◌, ℕ, List, Result, Ok, Err, arith, ap, subst, ◌∙◌}
use Rattle.std.specs.Prelude.{IfOk}
use Rattle.lower_model.specs.declared.node.LowerNode.{LowerNode}
use Rattle.octet_model.specs.Octets.{AreOctets}
use Rattle.lower_model.specs.LowerTree.{IsLowerTree}
use Rattle.answer_model.specs.Answer.{GivesAs}
use Rattle.image_model.specs.declared.fault.ImageError.{ImageError}
use Rattle.image_model.specs.declared.fault.ImageFault.{ImageFault}
use Rattle.image_model.specs.ImageText.{image}
use Rattle.image_model.specs.ImageReading.{reading, fault_of}
use Rattle.octet_model.proofs.Octets.{AreOctets-from_each}
use Rattle.image_model.proofs.Image.{reading_takes, reading_again}
use Rattle.lower_image.proofs.image_reader.read_image.Goals as goal

abbrev Gives : Result (List LowerNode) ImageError → Result (List LowerNode) ImageFault → Type 0
Gives answer read = GivesAs (λ nodes. nodes) fault_of (Unit {0}) answer read

found : (octets : List ℕ) (r : Result (List LowerNode) ImageError) → AreOctets octets → Gives r (reading octets) → IfOk r (λ tree. IsLowerTree tree × (octets ≡ image tree))
found octets (Ok tree) fits gives = reading_takes octets tree fits gives
found octets (Err e) fits gives = tt

pub returns-clause-found : goal.returns-clause-found
returns-clause-found c = found c.args.octets.now c.tree_of.result (AreOctets-from_each c.args.octets.now (λ i. omega (arith, c.type_inv.octets i))) c.tree_of.ensures

pub returns-clause-only : goal.returns-clause-only
returns-clause-only c = λ nodes lawful e. subst (Gives c.tree_of.result) (ap reading e ∙ reading_again nodes lawful) c.tree_of.ensures
