-- The Advanced Encryption Standard (FIPS 197) for keys of 16 and of 32 bytes.
-- A state is a list of 16 bytes, of which byte r + 4 * c stands in row r and column c (3.4).
-- A word is a number of 32 bits, whose first byte is the highest.
use Rattle.std.specs.Prelude.{◌≡◌, length, ℕ, zero, suc, ◌+◌, ◌-◌, ◌*◌, ◌/◌, ◌%◌, ◌^◌, ◌==◌, ◌&&◌, nat_lt, if◌then◌else◌, List, [], ◌∷◌, ◌++◌, map, bit_xor, slice_index}
use Rattle.std.specs.List.{range_with_len}
use Rattle.std.specs.Int.{w32, rotate_left}
use Rattle.octet_model.specs.Octets.{AreOctets}
use Rattle.cipher_model.specs.Field.{product, power, sub_byte, inv_sub_byte}

-- a block: 16 bytes
pub record IsBlock (b : List ℕ) : Type 0 where
  pub long : length b ≡ 16
  pub bytes : AreOctets b

-- the state whose byte i is f i
abbrev pub each_byte : (ℕ → ℕ) → List ℕ
each_byte f = map f (range_with_len 0 16)

-- the byte k rows below byte i, in its column, from the top again after the last row
abbrev pub below : List ℕ → ℕ → ℕ → ℕ
below s i k = slice_index s (4 * (i / 4) + (i + k) % 4)

-- the exclusive or of two blocks
abbrev pub xor_blocks : List ℕ → List ℕ → List ℕ
xor_blocks a b = each_byte (λ i. bit_xor (slice_index a i) (slice_index b i))

-- ---- the steps of a round (5.1.1 to 5.1.4)

abbrev pub sub_bytes : List ℕ → List ℕ
sub_bytes s = each_byte (λ i. sub_byte (slice_index s i))

-- row r moves r columns to the left: byte r + 4 * c is that of column c + r
abbrev pub shift_rows : List ℕ → List ℕ
shift_rows s = each_byte (λ i. slice_index s ((i + 4 * (i % 4)) % 16))

-- one byte of MixColumns, from the bytes of its column, from its own row on down
abbrev pub mixed_byte : ℕ → ℕ → ℕ → ℕ → ℕ
mixed_byte a b c d = bit_xor (bit_xor (product a 2) (product b 3)) (bit_xor (product c 1) (product d 1))

abbrev pub mix_columns : List ℕ → List ℕ
mix_columns s = each_byte (λ i. mixed_byte (below s i 0) (below s i 1) (below s i 2) (below s i 3))

abbrev pub add_round_key : List ℕ → List ℕ → List ℕ
add_round_key s k = xor_blocks s k

-- ---- the inverse steps (5.3.1 to 5.3.3)

abbrev pub inv_sub_bytes : List ℕ → List ℕ
inv_sub_bytes s = each_byte (λ i. inv_sub_byte (slice_index s i))

abbrev pub inv_shift_rows : List ℕ → List ℕ
inv_shift_rows s = each_byte (λ i. slice_index s ((i + 12 * (i % 4)) % 16))

abbrev pub inv_mixed_byte : ℕ → ℕ → ℕ → ℕ → ℕ
inv_mixed_byte a b c d = bit_xor (bit_xor (product a 14) (product b 11)) (bit_xor (product c 13) (product d 9))

abbrev pub inv_mix_columns : List ℕ → List ℕ
inv_mix_columns s = each_byte (λ i. inv_mixed_byte (below s i 0) (below s i 1) (below s i 2) (below s i 3))

-- ---- words (3.5)

-- the word of four bytes
abbrev pub word : ℕ → ℕ → ℕ → ℕ → ℕ
word a b c d = ((a * 2 ^ 8 + b) * 2 ^ 8 + c) * 2 ^ 8 + d

-- byte r of a word
abbrev pub byte_of : ℕ → ℕ → ℕ
byte_of w r = w / 2 ^ (24 - 8 * r) % 256

-- the bytes of four words, from word i on
abbrev pub bytes_at : List ℕ → ℕ → List ℕ
bytes_at ws i = each_byte (λ j. byte_of (slice_index ws (i + j / 4)) (j % 4))

-- ---- the key expansion (5.2). The key has nk words.

abbrev pub sub_word : ℕ → ℕ
sub_word w = word (sub_byte (byte_of w 0)) (sub_byte (byte_of w 1)) (sub_byte (byte_of w 2)) (sub_byte (byte_of w 3))

abbrev pub rot_word : ℕ → ℕ
rot_word w = rotate_left w32 w 8

-- the round constant j, from 1 on: x to the power j - 1, and three zero bytes
abbrev pub round_constant : ℕ → ℕ
round_constant j = word (power 2 (j - 1)) 0 0 0

-- what the word before word i, w, adds to it
abbrev pub turned_word : ℕ → ℕ → ℕ → ℕ
turned_word nk w i =
    if i % nk == 0
    then bit_xor (sub_word (rot_word w)) (round_constant (i / nk))
    else if nat_lt 6 nk && (i % nk == 4) then sub_word w else w

-- word i of the schedule, from the words before it
abbrev pub next_word : ℕ → List ℕ → ℕ → ℕ
next_word nk ws i = bit_xor (slice_index ws (i - nk)) (turned_word nk (slice_index ws (i - 1)) i)

-- the words of the key
abbrev pub key_words : ℕ → List ℕ → List ℕ
key_words nk k = map (λ c. word (slice_index k (4 * c)) (slice_index k (4 * c + 1)) (slice_index k (4 * c + 2)) (slice_index k (4 * c + 3)))
    (range_with_len 0 nk)

-- the words of the key and the n words after them
unfoldable pub schedule : ℕ → List ℕ → ℕ → List ℕ
schedule nk k zero = key_words nk k
schedule nk k (suc n) = let ws = schedule nk k n in ws ++ next_word nk ws (n + nk) ∷ []

-- how many rounds there are for a key of nk words: 10 for 4, and 14 for 8
abbrev pub round_count : ℕ → ℕ
round_count nk = nk + 6

-- the whole schedule, four words for each round and four more
abbrev pub key_schedule : ℕ → List ℕ → List ℕ
key_schedule nk k = schedule nk k (4 * (round_count nk + 1) - nk)

-- ---- the cipher (5.1). ws is a key schedule.

-- the state after the first key and r rounds that mix columns
unfoldable pub rounds : List ℕ → List ℕ → ℕ → List ℕ
rounds ws b zero = add_round_key b (bytes_at ws 0)
rounds ws b (suc r) = add_round_key (mix_columns (shift_rows (sub_bytes (rounds ws b r)))) (bytes_at ws (4 * (r + 1)))

-- block b after nr rounds, of which the last mixes no columns
abbrev pub encrypted_with : ℕ → List ℕ → List ℕ → List ℕ
encrypted_with nr ws b = add_round_key (shift_rows (sub_bytes (rounds ws b (nr - 1)))) (bytes_at ws (4 * nr))

-- ---- the inverse cipher (5.3)

-- the state that a round with the round key k makes into s
abbrev pub unrounded : List ℕ → List ℕ → List ℕ
unrounded s k = inv_sub_bytes (inv_shift_rows (inv_mix_columns (add_round_key s k)))

-- the block whose state after r rounds is s
unfoldable pub unrounds : List ℕ → List ℕ → ℕ → List ℕ
unrounds ws s zero = add_round_key s (bytes_at ws 0)
unrounds ws s (suc r) = unrounds ws (unrounded s (bytes_at ws (4 * (r + 1)))) r

abbrev pub decrypted_with : ℕ → List ℕ → List ℕ → List ℕ
decrypted_with nr ws b = unrounds ws (inv_sub_bytes (inv_shift_rows (add_round_key b (bytes_at ws (4 * nr))))) (nr - 1)

-- ---- for a key, whose length gives the number of rounds

-- how many words a key has
abbrev pub word_count : List ℕ → ℕ
word_count k = length k / 4

-- the round key r, from 0 on
unfoldable pub round_key : List ℕ → ℕ → List ℕ
round_key k r = bytes_at (key_schedule (word_count k) k) (4 * r)

-- block b under the key k
unfoldable pub encrypted : List ℕ → List ℕ → List ℕ
encrypted k b = encrypted_with (round_count (word_count k)) (key_schedule (word_count k) k) b

-- the block that the inverse cipher with the key k makes of block b
unfoldable pub decrypted : List ℕ → List ℕ → List ℕ
decrypted k b = decrypted_with (round_count (word_count k)) (key_schedule (word_count k) k) b
