use Rattle.cipher_model.proofs.InverseCipher.{decrypted-encrypted, encrypted-decrypted}
use Rattle.cipher_model.proofs.inverse_cipher.Goals as goal

pub returns : goal.returns
returns c k = record { undone = decrypted-encrypted k; redone = encrypted-decrypted k }
