-- A text that is worked in place, one block after another.
use Rattle.std.specs.Prelude.{◌≡◌, ℕ, ◌+◌, ◌*◌, ◌<◌, List, drop}
use Rattle.cipher_model.specs.Aes.{encrypted, xor_blocks}
use Rattle.cipher_model.specs.Blocks.{block_at}
use Rattle.cipher_model.specs.Cbc.{previous}

-- block i becomes b, and nothing else changes
pub record PutsBlock (old new : List ℕ) (i : ℕ) (b : List ℕ) : Type 0 where
  pub below : (j : ℕ) → j < i → block_at new j ≡ block_at old j
  pub at : block_at new i ≡ b
  pub above : drop (16 * i + 16) new ≡ drop (16 * i + 16) old

-- of the text that was at the start, the first i blocks are now as R says
pub record IsDone (R : ℕ → List ℕ → Type 0) (start now : List ℕ) (i : ℕ) : Type 0 where
  pub done : (j : ℕ) → j < i → R j (block_at now j)
  pub rest : drop (16 * i) now ≡ drop (16 * i) start

-- of the cipher text cs the first i blocks are now decrypted, and last is the block before the rest
pub record IsDecryptedTo (k iv cs now last : List ℕ) (i : ℕ) : Type 0 where
  pub blocks : IsDone (λ j b. block_at cs j ≡ encrypted k (xor_blocks b (previous iv cs j))) cs now i
  pub last_is : last ≡ previous iv cs i
