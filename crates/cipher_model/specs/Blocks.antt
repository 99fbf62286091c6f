-- A text as a list of blocks of 16 octets.
use Rattle.std.specs.Prelude.{◌≡◌, ℕ, ◌+◌, ◌*◌, ◌/◌, ◌%◌, List, length, map, slice_index, slice_range}
use Rattle.std.specs.List.{range_with_len}

-- how many blocks a text has
abbrev pub block_count : List ℕ → ℕ
block_count xs = length xs / 16

-- block i of a text
abbrev pub block_at : List ℕ → ℕ → List ℕ
block_at xs i = slice_range xs (16 * i) (16 * i + 16)

-- two texts of whole blocks, as many in the one as in the other
pub record AreBlocks (ps cs : List ℕ) : Type 0 where
  pub whole : length ps % 16 ≡ 0
  pub long : length cs ≡ length ps

-- the text of n blocks, of which block i is f i
abbrev pub text_of : (ℕ → List ℕ) → ℕ → List ℕ
text_of f n = map (λ j. slice_index (f (j / 16)) (j % 16)) (range_with_len 0 (16 * n))
