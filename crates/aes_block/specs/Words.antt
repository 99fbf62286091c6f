-- Columns of a state as words, and the words of a key of 16 bytes.
use Rattle.std.specs.Prelude.{◌≡◌, ◌<◌, ℕ, List, slice_index}
use Rattle.cipher_model.specs.Aes.{word, byte_of, mixed_byte, inv_mixed_byte, key_schedule}

-- a column under MixColumns
abbrev pub mixed_word : ℕ → ℕ → ℕ → ℕ → ℕ
mixed_word a b c d = word (mixed_byte a b c d) (mixed_byte b c d a) (mixed_byte c d a b) (mixed_byte d a b c)

-- a column under InvMixColumns
abbrev pub inv_mixed_word : ℕ → ℕ → ℕ → ℕ → ℕ
inv_mixed_word a b c d = word (inv_mixed_byte a b c d) (inv_mixed_byte b c d a) (inv_mixed_byte c d a b) (inv_mixed_byte d a b c)

-- a word under InvMixColumns
abbrev pub unmixed_word : ℕ → ℕ
unmixed_word w = inv_mixed_word (byte_of w 0) (byte_of w 1) (byte_of w 2) (byte_of w 3)

-- us has the 44 words of ws under InvMixColumns
abbrev pub AreUnmixed : List ℕ → List ℕ → Type 0
AreUnmixed us ws = (i : ℕ) → i < 44 → slice_index us i ≡ unmixed_word (slice_index ws i)

-- the words of the schedule of a key of 16 bytes, and the same under InvMixColumns
pub record AreKeyWords (key words unmixed : List ℕ) : Type 0 where
  pub scheduled : words ≡ key_schedule 4 key
  pub inverse : AreUnmixed unmixed words
