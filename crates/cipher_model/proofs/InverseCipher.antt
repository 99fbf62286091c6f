-- Each step of the inverse cipher undoes the cipher's, on blocks, and the other way round.
use Rattle.std.proofs.Common.{◌≡◌, ℕ, zero, suc, length, ◌+◌, ◌-◌, ◌*◌, ◌/◌, ◌%◌, ◌<◌, bit_xor, List, [], ◌∷◌, ap, ◌∙◌, arith}
use Rattle.std.specs.Prelude.{slice_index}
use Rattle.std.proofs.lemmas.Nat.{xor_lt}
use lib.Bits.{xor_assoc, xor_self, xor_zero_r}
use Rattle.cipher_model.specs.Field.{sub_byte, inv_sub_byte}
use Rattle.cipher_model.specs.Aes.{IsBlock, each_byte, below, sub_bytes, shift_rows, mix_columns, add_round_key, inv_sub_bytes, inv_shift_rows, inv_mix_columns, unrounded, unrounds, rounds, encrypted_with, decrypted_with, bytes_at, byte_of, mixed_byte, inv_mixed_byte, round_count, word_count, key_schedule, encrypted, decrypted, round_key}
use Rattle.cipher_model.proofs.SubByteLaws.{sub_byte-lt, inv_sub_byte-lt, inv_sub_byte-sub_byte, sub_byte-inv_sub_byte}
use Rattle.cipher_model.proofs.MixLaws.{inv_mixed_byte-mixed_byte, mixed_byte-inv_mixed_byte, mixed_byte-lt, inv_mixed_byte-lt}
use Rattle.cipher_model.proofs.States.{block_byte, each_byte_whole, IsBlock-each_byte, whole_from}

-- ---- each step keeps blocks

pub IsBlock-sub_bytes : (s : List ℕ) → IsBlock s → IsBlock (sub_bytes s)
IsBlock-sub_bytes s b = IsBlock-each_byte (λ i. sub_byte (slice_index s i)) (λ i h. sub_byte-lt (slice_index s i) (block_byte s i b))

pub IsBlock-inv_sub_bytes : (s : List ℕ) → IsBlock s → IsBlock (inv_sub_bytes s)
IsBlock-inv_sub_bytes s b = IsBlock-each_byte (λ i. inv_sub_byte (slice_index s i)) (λ i h. inv_sub_byte-lt (slice_index s i) (block_byte s i b))

pub IsBlock-shift_rows : (s : List ℕ) → IsBlock s → IsBlock (shift_rows s)
IsBlock-shift_rows s b = IsBlock-each_byte (λ i. slice_index s ((i + 4 * (i % 4)) % 16)) (λ i h. block_byte s ((i + 4 * (i % 4)) % 16) b)

pub IsBlock-inv_shift_rows : (s : List ℕ) → IsBlock s → IsBlock (inv_shift_rows s)
IsBlock-inv_shift_rows s b = IsBlock-each_byte (λ i. slice_index s ((i + 12 * (i % 4)) % 16)) (λ i h. block_byte s ((i + 12 * (i % 4)) % 16) b)

pub IsBlock-add_round_key : (s k : List ℕ) → IsBlock s → IsBlock k → IsBlock (add_round_key s k)
IsBlock-add_round_key s k b c =
    IsBlock-each_byte (λ i. bit_xor (slice_index s i) (slice_index k i)) (λ i h. xor_lt 8 (slice_index s i) (slice_index k i) (block_byte s i b) (block_byte k i c))

pub IsBlock-mix_columns : (s : List ℕ) → IsBlock s → IsBlock (mix_columns s)
IsBlock-mix_columns s b =
    IsBlock-each_byte (λ i. mixed_byte (below s i 0) (below s i 1) (below s i 2) (below s i 3))
    (λ i h. mixed_byte-lt (below s i 0) (below s i 1) (below s i 2) (below s i 3) (block_byte s _ b) (block_byte s _ b) (block_byte s _ b) (block_byte s _ b))

pub IsBlock-inv_mix_columns : (s : List ℕ) → IsBlock s → IsBlock (inv_mix_columns s)
IsBlock-inv_mix_columns s b =
    IsBlock-each_byte (λ i. inv_mixed_byte (below s i 0) (below s i 1) (below s i 2) (below s i 3))
    (λ i h. inv_mixed_byte-lt (below s i 0) (below s i 1) (below s i 2) (below s i 3) (block_byte s _ b) (block_byte s _ b) (block_byte s _ b) (block_byte s _ b))

-- ---- each step and its inverse

pub inv_sub-sub : (s : List ℕ) → IsBlock s → inv_sub_bytes (sub_bytes s) ≡ s
inv_sub-sub s b =
    each_byte_same16 (λ x. inv_sub_byte (sub_byte x)) s (λ x h. inv_sub_byte-sub_byte x h) b
  where
    each_byte_same16 : (f : ℕ → ℕ) (s : List ℕ) → ((x : ℕ) → x < 256 → f x ≡ x) → IsBlock s → each_byte (λ i. f (slice_index s i)) ≡ s
    each_byte_same16 f s e b = whole_from s (λ i. f (slice_index s i)) b (λ i h. e (slice_index s i) (block_byte s i b))

pub sub-inv_sub : (s : List ℕ) → IsBlock s → sub_bytes (inv_sub_bytes s) ≡ s
sub-inv_sub s b = whole_from s (λ i. sub_byte (inv_sub_byte (slice_index s i))) b (λ i h. sub_byte-inv_sub_byte (slice_index s i) (block_byte s i b))

pub inv_shift-shift : (s : List ℕ) → IsBlock s → inv_shift_rows (shift_rows s) ≡ s
inv_shift-shift s b = each_byte_whole s b.long

pub shift-inv_shift : (s : List ℕ) → IsBlock s → shift_rows (inv_shift_rows s) ≡ s
shift-inv_shift s b = each_byte_whole s b.long

-- a round key that is added twice falls out
pub add-add : (s k : List ℕ) → IsBlock s → add_round_key (add_round_key s k) k ≡ s
add-add s k b =
    whole_from s (λ i. bit_xor (bit_xor (slice_index s i) (slice_index k i)) (slice_index k i)) b
    (λ i h. xor_assoc (slice_index s i) (slice_index k i) (slice_index k i) ∙ ap (bit_xor (slice_index s i)) (xor_self (slice_index k i)) ∙ xor_zero_r (slice_index s i))

-- the bytes of s, each with the three below it
pub inv_mix-mix : (s : List ℕ) → IsBlock s → inv_mix_columns (mix_columns s) ≡ s
inv_mix-mix s b =
    let e : (i j k l : ℕ) → inv_mixed_byte (mixed_byte (slice_index s i) (slice_index s j) (slice_index s k) (slice_index s l))
    (mixed_byte (slice_index s j) (slice_index s k) (slice_index s l) (slice_index s i))
    (mixed_byte (slice_index s k) (slice_index s l) (slice_index s i) (slice_index s j))
    (mixed_byte (slice_index s l) (slice_index s i) (slice_index s j) (slice_index s k)) ≡ slice_index s i =
    λ i j k l. inv_mixed_byte-mixed_byte (slice_index s i) (slice_index s j) (slice_index s k) (slice_index s l) (block_byte s i b) (block_byte s j b) (block_byte s k b) (block_byte s l b) in
    (λ t. e 0 1 2 3 t ∷ e 1 2 3 0 t ∷ e 2 3 0 1 t ∷ e 3 0 1 2 t ∷ e 4 5 6 7 t ∷ e 5 6 7 4 t ∷ e 6 7 4 5 t ∷ e 7 4 5 6 t
    ∷ e 8 9 10 11 t ∷ e 9 10 11 8 t ∷ e 10 11 8 9 t ∷ e 11 8 9 10 t ∷ e 12 13 14 15 t ∷ e 13 14 15 12 t ∷ e 14 15 12 13 t ∷ e 15 12 13 14 t ∷ [])
    ∙ each_byte_whole s b.long

pub mix-inv_mix : (s : List ℕ) → IsBlock s → mix_columns (inv_mix_columns s) ≡ s
mix-inv_mix s b =
    let e : (i j k l : ℕ) → mixed_byte (inv_mixed_byte (slice_index s i) (slice_index s j) (slice_index s k) (slice_index s l))
    (inv_mixed_byte (slice_index s j) (slice_index s k) (slice_index s l) (slice_index s i))
    (inv_mixed_byte (slice_index s k) (slice_index s l) (slice_index s i) (slice_index s j))
    (inv_mixed_byte (slice_index s l) (slice_index s i) (slice_index s j) (slice_index s k)) ≡ slice_index s i =
    λ i j k l. mixed_byte-inv_mixed_byte (slice_index s i) (slice_index s j) (slice_index s k) (slice_index s l) (block_byte s i b) (block_byte s j b) (block_byte s k b) (block_byte s l b) in
    (λ t. e 0 1 2 3 t ∷ e 1 2 3 0 t ∷ e 2 3 0 1 t ∷ e 3 0 1 2 t ∷ e 4 5 6 7 t ∷ e 5 6 7 4 t ∷ e 6 7 4 5 t ∷ e 7 4 5 6 t
    ∷ e 8 9 10 11 t ∷ e 9 10 11 8 t ∷ e 10 11 8 9 t ∷ e 11 8 9 10 t ∷ e 12 13 14 15 t ∷ e 13 14 15 12 t ∷ e 14 15 12 13 t ∷ e 15 12 13 14 t ∷ [])
    ∙ each_byte_whole s b.long

-- ---- rounds

pub IsBlock-bytes_at : (ws : List ℕ) (i : ℕ) → IsBlock (bytes_at ws i)
IsBlock-bytes_at ws i = IsBlock-each_byte (λ j. byte_of (slice_index ws (i + j / 4)) (j % 4)) (λ j h. omega arith)

abbrev pub rounded : List ℕ → List ℕ → List ℕ
rounded s k = add_round_key (mix_columns (shift_rows (sub_bytes s))) k

pub IsBlock-rounded : (s k : List ℕ) → IsBlock s → IsBlock k → IsBlock (rounded s k)
IsBlock-rounded s k b c =
    IsBlock-add_round_key (mix_columns (shift_rows (sub_bytes s))) k
    (IsBlock-mix_columns (shift_rows (sub_bytes s)) (IsBlock-shift_rows (sub_bytes s) (IsBlock-sub_bytes s b))) c

pub IsBlock-unrounded : (s k : List ℕ) → IsBlock s → IsBlock k → IsBlock (unrounded s k)
IsBlock-unrounded s k b c =
    let m = IsBlock-inv_mix_columns (add_round_key s k) (IsBlock-add_round_key s k b c) in
    IsBlock-inv_sub_bytes (inv_shift_rows (inv_mix_columns (add_round_key s k))) (IsBlock-inv_shift_rows (inv_mix_columns (add_round_key s k)) m)

pub unrounded-rounded : (s k : List ℕ) → IsBlock s → unrounded (rounded s k) k ≡ s
unrounded-rounded s k b =
    let u = IsBlock-sub_bytes s b in
    let v = IsBlock-shift_rows (sub_bytes s) u in
    let w = IsBlock-mix_columns (shift_rows (sub_bytes s)) v in
    ap (λ (x : List ℕ). inv_sub_bytes (inv_shift_rows (inv_mix_columns x))) (add-add (mix_columns (shift_rows (sub_bytes s))) k w)
    ∙ ap (λ (x : List ℕ). inv_sub_bytes (inv_shift_rows x)) (inv_mix-mix (shift_rows (sub_bytes s)) v)
    ∙ ap inv_sub_bytes (inv_shift-shift (sub_bytes s) u) ∙ inv_sub-sub s b

pub rounded-unrounded : (s k : List ℕ) → IsBlock s → IsBlock k → rounded (unrounded s k) k ≡ s
rounded-unrounded s k b c =
    let t : List ℕ = add_round_key s k in
    let u = IsBlock-add_round_key s k b c in
    let v = IsBlock-inv_mix_columns t u in
    let w = IsBlock-inv_shift_rows (inv_mix_columns t) v in
    ap (λ (x : List ℕ). add_round_key (mix_columns (shift_rows x)) k) (sub-inv_sub (inv_shift_rows (inv_mix_columns t)) w)
    ∙ ap (λ (x : List ℕ). add_round_key (mix_columns x) k) (shift-inv_shift (inv_mix_columns t) v)
    ∙ ap (λ (x : List ℕ). add_round_key x k) (mix-inv_mix t u) ∙ add-add s k b

pub unrounds-rounds : (ws b : List ℕ) (r : ℕ) → IsBlock b → (unrounds ws (rounds ws b r) r ≡ b) × IsBlock (rounds ws b r)
unfolding rounds unrounds
unrounds-rounds ws b zero k = (add-add b (bytes_at ws 0) k, IsBlock-add_round_key b (bytes_at ws 0) k (IsBlock-bytes_at ws 0))
unrounds-rounds ws b (suc r) k =
    let before = unrounds-rounds ws b r k in
    let key : List ℕ = bytes_at ws (4 * (r + 1)) in (
      ap (λ (s : List ℕ). unrounds ws s r) (unrounded-rounded (rounds ws b r) key before.1) ∙ before.0,
      IsBlock-rounded (rounds ws b r) key before.1 (IsBlock-bytes_at ws (4 * (r + 1))),
    )

pub rounds-unrounds : (ws s : List ℕ) (r : ℕ) → IsBlock s → (rounds ws (unrounds ws s r) r ≡ s) × IsBlock (unrounds ws s r)
unfolding rounds unrounds
rounds-unrounds ws s zero k = (add-add s (bytes_at ws 0) k, IsBlock-add_round_key s (bytes_at ws 0) k (IsBlock-bytes_at ws 0))
rounds-unrounds ws s (suc r) k =
    let key : List ℕ = bytes_at ws (4 * (r + 1)) in
    let is_block = IsBlock-bytes_at ws (4 * (r + 1)) in
    let after = rounds-unrounds ws (unrounded s key) r (IsBlock-unrounded s key k is_block) in
    (ap (λ (t : List ℕ). rounded t key) after.0 ∙ rounded-unrounded s key k is_block, after.1)

pub IsBlock-decrypted_with : (nr : ℕ) (ws b : List ℕ) → IsBlock b → IsBlock (decrypted_with nr ws b)
IsBlock-decrypted_with nr ws b k =
    let t : List ℕ = add_round_key b (bytes_at ws (4 * nr)) in
    let u = IsBlock-add_round_key b (bytes_at ws (4 * nr)) k (IsBlock-bytes_at ws (4 * nr)) in
    (rounds-unrounds ws (inv_sub_bytes (inv_shift_rows t)) (nr - 1) (IsBlock-inv_sub_bytes (inv_shift_rows t) (IsBlock-inv_shift_rows t u))).1

pub IsBlock-encrypted_with : (nr : ℕ) (ws b : List ℕ) → IsBlock b → IsBlock (encrypted_with nr ws b)
IsBlock-encrypted_with nr ws b k =
    let s : List ℕ = rounds ws b (nr - 1) in
    let u = IsBlock-sub_bytes s (unrounds-rounds ws b (nr - 1) k).1 in
    IsBlock-add_round_key (shift_rows (sub_bytes s)) (bytes_at ws (4 * nr)) (IsBlock-shift_rows (sub_bytes s) u) (IsBlock-bytes_at ws (4 * nr))

-- the inverse cipher undoes the cipher
pub decrypted_with-encrypted_with : (nr : ℕ) (ws b : List ℕ) → IsBlock b → decrypted_with nr ws (encrypted_with nr ws b) ≡ b
decrypted_with-encrypted_with nr ws b k =
    let r = unrounds-rounds ws b (nr - 1) k in
    let s : List ℕ = rounds ws b (nr - 1) in
    let u = IsBlock-sub_bytes s r.1 in
    let v = IsBlock-shift_rows (sub_bytes s) u in
    ap (λ (x : List ℕ). unrounds ws (inv_sub_bytes (inv_shift_rows x)) (nr - 1)) (add-add (shift_rows (sub_bytes s)) (bytes_at ws (4 * nr)) v)
    ∙ ap (λ (x : List ℕ). unrounds ws (inv_sub_bytes x) (nr - 1)) (inv_shift-shift (sub_bytes s) u)
    ∙ ap (λ (x : List ℕ). unrounds ws x (nr - 1)) (inv_sub-sub s r.1) ∙ r.0

-- and the cipher undoes the inverse cipher
pub encrypted_with-decrypted_with : (nr : ℕ) (ws b : List ℕ) → IsBlock b → encrypted_with nr ws (decrypted_with nr ws b) ≡ b
encrypted_with-decrypted_with nr ws b k =
    let key : List ℕ = bytes_at ws (4 * nr) in
    let t : List ℕ = add_round_key b key in
    let u = IsBlock-add_round_key b key k (IsBlock-bytes_at ws (4 * nr)) in
    let v = IsBlock-inv_shift_rows t u in
    let s : List ℕ = inv_sub_bytes (inv_shift_rows t) in
    let r = rounds-unrounds ws s (nr - 1) (IsBlock-inv_sub_bytes (inv_shift_rows t) v) in
    ap (λ (x : List ℕ). add_round_key (shift_rows (sub_bytes x)) key) r.0
    ∙ ap (λ (x : List ℕ). add_round_key (shift_rows x) key) (sub-inv_sub (inv_shift_rows t) v)
    ∙ ap (λ (x : List ℕ). add_round_key x key) (shift-inv_shift t u)
    ∙ add-add b key k

-- ---- for a key of any length

pub IsBlock-encrypted : (k b : List ℕ) → IsBlock b → IsBlock (encrypted k b)
unfolding encrypted
IsBlock-encrypted k = IsBlock-encrypted_with (round_count (word_count k)) (key_schedule (word_count k) k)

-- the inverse cipher of a block is a block
pub IsBlock-decrypted : (k b : List ℕ) → IsBlock b → IsBlock (decrypted k b)
unfolding decrypted
IsBlock-decrypted k = IsBlock-decrypted_with (round_count (word_count k)) (key_schedule (word_count k) k)

-- the inverse cipher undoes the cipher
pub decrypted-encrypted : (k b : List ℕ) → IsBlock b → decrypted k (encrypted k b) ≡ b
unfolding encrypted decrypted
decrypted-encrypted k = decrypted_with-encrypted_with (round_count (word_count k)) (key_schedule (word_count k) k)

-- the cipher undoes the inverse cipher
pub encrypted-decrypted : (k b : List ℕ) → IsBlock b → encrypted k (decrypted k b) ≡ b
unfolding encrypted decrypted
encrypted-decrypted k = encrypted_with-decrypted_with (round_count (word_count k)) (key_schedule (word_count k) k)

-- ---- for a key of 16 bytes

-- the cipher under a key of 16 octets has 10 rounds
pub encrypted-16 : (k b : List ℕ) → length k ≡ 16 → encrypted k b ≡ encrypted_with 10 (key_schedule 4 k) b
unfolding encrypted
encrypted-16 k b e = ap (λ (n : ℕ). encrypted_with (round_count (n / 4)) (key_schedule (n / 4) k) b) e

-- the inverse cipher under a key of 16 octets has 10 rounds
pub decrypted-16 : (k b : List ℕ) → length k ≡ 16 → decrypted k b ≡ decrypted_with 10 (key_schedule 4 k) b
unfolding decrypted
decrypted-16 k b e = ap (λ (n : ℕ). decrypted_with (round_count (n / 4)) (key_schedule (n / 4) k) b) e

-- a round key of a key of 16 octets is four words of the schedule
pub round_key-16 : (k : List ℕ) (r : ℕ) → length k ≡ 16 → round_key k r ≡ bytes_at (key_schedule 4 k) (4 * r)
unfolding round_key
round_key-16 k r e = ap (λ (n : ℕ). bytes_at (key_schedule (n / 4) k) (4 * r)) e
