use Rattle.cipher_model.proofs.WorkedExamples.{field_inverse}
use Rattle.cipher_model.proofs.field_inverse.Goals as goal

pub returns : goal.returns
returns c = field_inverse
