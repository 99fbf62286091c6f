-- The plain text of an extent and the file key, as functions of the cipher text.
use Rattle.std.specs.Prelude.{ℕ, List, take}
use Rattle.cipher_model.specs.Aes.{encrypted, decrypted, xor_blocks}
use Rattle.cipher_model.specs.Blocks.{block_at, block_count, text_of}
use Rattle.cipher_model.specs.Cbc.{previous}
use Rattle.key_model.specs.ExtentIv.{root_iv, extent_iv}

-- CBC decryption (SP 800-38A, 6.2): the inverse cipher of block i of the cipher text, and the exclusive or with the block before it
abbrev pub plain_block : List ℕ → List ℕ → List ℕ → ℕ → List ℕ
plain_block k iv cs i = xor_blocks (decrypted k (block_at cs i)) (previous iv cs i)

-- the text of these blocks
abbrev pub cbc_decrypted : List ℕ → List ℕ → List ℕ → List ℕ
cbc_decrypted k iv cs = text_of (plain_block k iv cs) (block_count cs)

-- the plain text of the extent with this number under a file key
unfoldable pub plain_extent : List ℕ → ℕ → List ℕ → List ℕ
plain_extent key n extent = cbc_decrypted key (extent_iv (root_iv key) n) extent

-- A file key is one block, which ECB (SP 800-38A, 6.1) encrypts as the cipher does, under the first 16 octets of the key-encryption key.
abbrev pub wrapped_key : List ℕ → List ℕ → List ℕ
wrapped_key kek key = encrypted (take 16 kek) key

-- the file key that is wrapped so
abbrev pub unwrapped_key : List ℕ → List ℕ → List ℕ
unwrapped_key kek wrapped = decrypted (take 16 kek) wrapped
