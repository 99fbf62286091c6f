-- Cipher block chaining (NIST SP 800-38A, 6.2), as a relation between a plain text and a cipher text.
use Rattle.std.specs.Prelude.{◌≡◌, ℕ, zero, suc, ◌<◌, List}
use Rattle.cipher_model.specs.Aes.{encrypted, xor_blocks}
use Rattle.cipher_model.specs.Blocks.{AreBlocks, block_at, block_count}

-- the block that is added to block i of the plain text: the block of the cipher text before it, and the initial block iv to the first
abbrev pub previous : List ℕ → List ℕ → ℕ → List ℕ
previous iv cs zero = iv
previous iv cs (suc i) = block_at cs i

-- each block of the cipher text cs is, under the key k, the sum of that of the plain text ps and the block before it, encrypted
pub record IsCbc (k iv ps cs : List ℕ) : Type 0 where
  pub same_length : AreBlocks ps cs
  pub blocks : (i : ℕ) → i < block_count ps → block_at cs i ≡ encrypted k (xor_blocks (block_at ps i) (previous iv cs i))
