-- What is proved of the definitions.
use Rattle.std.specs.Prelude.{◌≡◌, ℕ, ◌%◌, ◌<◌, List, length}
use Rattle.octet_model.specs.Octets.{AreOctets}
use Rattle.cipher_model.specs.Field.{product, inverse}
use Rattle.cipher_model.specs.Aes.{IsBlock, encrypted, decrypted}
use Rattle.cipher_model.specs.Cbc.{IsCbc}
use Rattle.cipher_model.specs.Ecb.{IsEcb}

-- each byte but 0 times its inverse is 1
abbrev pub HasInverses : Type 0
HasInverses = (a : ℕ) → 0 < a → a < 256 → product a (inverse a) ≡ 1

-- under the key k the cipher and the inverse cipher undo each other on every block
pub record AreInverse (k : List ℕ) : Type 0 where
  pub undone : (b : List ℕ) → IsBlock b → decrypted k (encrypted k b) ≡ b
  pub redone : (b : List ℕ) → IsBlock b → encrypted k (decrypted k b) ≡ b

-- a list of octets that the fact P holds of, and no other
pub record ExactlyOneText (P : List ℕ → Type 0) : Type 0 where
  pub text : List ℕ
  pub octets : AreOctets text
  pub holds : P text
  pub only : (other : List ℕ) → AreOctets other → P other → other ≡ text

-- a cipher text of whole blocks has exactly one plain text, under every key and every initial block
abbrev pub CbcHasOnePlainText : Type 0
CbcHasOnePlainText = (k iv cs : List ℕ) → IsBlock iv → AreOctets cs → length cs % 16 ≡ 0 → ExactlyOneText (λ ps. IsCbc k iv ps cs)

abbrev pub EcbHasOnePlainText : Type 0
EcbHasOnePlainText = (k cs : List ℕ) → AreOctets cs → length cs % 16 ≡ 0 → ExactlyOneText (λ ps. IsEcb k ps cs)
