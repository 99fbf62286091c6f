use Rattle.cipher_model.proofs.PlainTexts.{cbc_has_one, ecb_has_one}
use Rattle.cipher_model.proofs.one_plain_text.Goals as goal

pub returns : goal.returns
returns c = record { cbc = cbc_has_one; ecb = ecb_has_one }
