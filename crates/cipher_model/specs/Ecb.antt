-- The electronic codebook mode (NIST SP 800-38A, 6.1), as a relation between a plain text and a cipher text.
use Rattle.std.specs.Prelude.{◌≡◌, ℕ, ◌<◌, List}
use Rattle.cipher_model.specs.Aes.{encrypted}
use Rattle.cipher_model.specs.Blocks.{AreBlocks, block_at, block_count}

-- each block of the cipher text cs is that of the plain text ps, encrypted under the key k
pub record IsEcb (k ps cs : List ℕ) : Type 0 where
  pub same_length : AreBlocks ps cs
  pub blocks : (i : ℕ) → i < block_count ps → block_at cs i ≡ encrypted k (block_at ps i)
