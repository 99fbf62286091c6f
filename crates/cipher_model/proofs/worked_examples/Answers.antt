use Rattle.cipher_model.proofs.WorkedExamples.{cipher_example, aes_128_example, aes_256_example, ecb_example, cbc_example}
use Rattle.cipher_model.proofs.worked_examples.Goals as goal

pub returns : goal.returns
returns c = record {
  cipher = cipher_example;
  aes_128 = aes_128_example;
  aes_256 = aes_256_example;
  ecb = ecb_example;
  cbc = cbc_example;
}
