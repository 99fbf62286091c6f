-- The inverse cipher on words, with the round keys under InvMixColumns.
use Rattle.std.proofs.Common.{◌≡◌, ℕ, suc, ◌+◌, ◌-◌, ◌*◌, ◌<◌, ◌≤◌, bit_xor, List, [], ◌∷◌, refl, sym, ap, ◌∙◌, arith}
use Rattle.std.specs.Prelude.{slice_index}
use Rattle.cipher_model.specs.Field.{product, sub_byte, inv_sub_byte}
use Rattle.cipher_model.specs.Aes.{word, byte_of, bytes_at, inv_mixed_byte, inv_mix_columns, inv_shift_rows, inv_sub_bytes, add_round_key, sub_word, unrounds}
use Rattle.aes_block.specs.Words.{inv_mixed_word, unmixed_word, AreUnmixed}
use Rattle.cipher_model.proofs.FieldLaws.{product_of_bits-xor, xor_exchange}
use Rattle.cipher_model.proofs.SubByteLaws.{inv_sub_byte-lt, inv_sub_byte-sub_byte, sub_byte-lt}
use Rattle.cipher_model.proofs.MixLaws.{sum4, inv_mixed_byte-lt}
use Rattle.aes_block.proofs.WordBytes.{subbed_bytes, byte_of-lt, byte_of-xor, byte_of-word0, byte_of-word1, byte_of-word2, byte_of-word3}
use Rattle.aes_block.proofs.Columns.{inv_mixed_word-parts}

abbrev pub unsubbed : ℕ → ℕ → ℕ
unsubbed w r = inv_sub_byte (byte_of w r)

unsubbed-lt : (w r : ℕ) → unsubbed w r < 256
unsubbed-lt w r = inv_sub_byte-lt (byte_of w r) (byte_of-lt w r)

pub unmixed_column-parts : (a b c d w x y z : ℕ)
    → w ≡ inv_mixed_word (unsubbed a 0) 0 0 0 → x ≡ inv_mixed_word 0 (unsubbed b 1) 0 0 → y ≡ inv_mixed_word 0 0 (unsubbed c 2) 0 → z ≡ inv_mixed_word 0 0 0 (unsubbed d 3)
    → bit_xor (bit_xor (bit_xor w x) y) z ≡ inv_mixed_word (unsubbed a 0) (unsubbed b 1) (unsubbed c 2) (unsubbed d 3)
unmixed_column-parts a b c d w x y z ew ex ey ez =
    (λ i. bit_xor (bit_xor (bit_xor (ew i) (ex i)) (ey i)) (ez i))
    ∙ inv_mixed_word-parts (unsubbed a 0) (unsubbed b 1) (unsubbed c 2) (unsubbed d 3) (unsubbed-lt a 0) (unsubbed-lt b 1) (unsubbed-lt c 2) (unsubbed-lt d 3)

-- InvMixColumns goes through the sum, at one byte
inv_mixed_byte-xor : (a b c d p q r s : ℕ) → a < 256 → b < 256 → c < 256 → d < 256 → p < 256 → q < 256 → r < 256 → s < 256
    → bit_xor (inv_mixed_byte a b c d) (inv_mixed_byte p q r s) ≡ inv_mixed_byte (bit_xor a p) (bit_xor b q) (bit_xor c r) (bit_xor d s)
inv_mixed_byte-xor a b c d p q r s ha hb hc hd hp hq hr hs =
    xor_exchange (bit_xor (product a 14) (product b 11)) (bit_xor (product c 13) (product d 9)) (bit_xor (product p 14) (product q 11)) (bit_xor (product r 13) (product s 9))
    ∙ (λ i. bit_xor (xor_exchange (product a 14) (product b 11) (product p 14) (product q 11) i) (xor_exchange (product c 13) (product d 9) (product r 13) (product s 9) i))
    ∙ sym (λ i. sum4 (product_of_bits-xor 8 a p 14 ha hp i) (product_of_bits-xor 8 b q 11 hb hq i) (product_of_bits-xor 8 c r 13 hc hr i) (product_of_bits-xor 8 d s 9 hd hs i))

-- the bytes of an unmixed column under an unmixed word of the key, before those of further columns
column_bytes : (w u k p q r s : ℕ) (xs ys : List ℕ) → p < 256 → q < 256 → r < 256 → s < 256 → w ≡ inv_mixed_word p q r s → u ≡ unmixed_word k → xs ≡ ys
    → byte_of (bit_xor w u) 0 ∷ byte_of (bit_xor w u) 1 ∷ byte_of (bit_xor w u) 2 ∷ byte_of (bit_xor w u) 3 ∷ xs
    ≡ inv_mixed_byte (bit_xor p (byte_of k 0)) (bit_xor q (byte_of k 1)) (bit_xor r (byte_of k 2)) (bit_xor s (byte_of k 3))
    ∷ inv_mixed_byte (bit_xor q (byte_of k 1)) (bit_xor r (byte_of k 2)) (bit_xor s (byte_of k 3)) (bit_xor p (byte_of k 0))
    ∷ inv_mixed_byte (bit_xor r (byte_of k 2)) (bit_xor s (byte_of k 3)) (bit_xor p (byte_of k 0)) (bit_xor q (byte_of k 1))
    ∷ inv_mixed_byte (bit_xor s (byte_of k 3)) (bit_xor p (byte_of k 0)) (bit_xor q (byte_of k 1)) (bit_xor r (byte_of k 2)) ∷ ys
column_bytes w u k p q r s xs ys hp hq hr hs e g f =
    let k0 : ℕ = byte_of k 0 in
    let k1 : ℕ = byte_of k 1 in
    let k2 : ℕ = byte_of k 2 in
    let k3 : ℕ = byte_of k 3 in
    let h0 = byte_of-lt k 0 in
    let h1 = byte_of-lt k 1 in
    let h2 = byte_of-lt k 2 in
    let h3 = byte_of-lt k 3 in
    let a : ℕ = inv_mixed_byte p q r s in
    let b : ℕ = inv_mixed_byte q r s p in
    let c : ℕ = inv_mixed_byte r s p q in
    let d : ℕ = inv_mixed_byte s p q r in
    let m0 = inv_mixed_byte-lt p q r s hp hq hr hs in
    let m1 = inv_mixed_byte-lt q r s p hq hr hs hp in
    let m2 = inv_mixed_byte-lt r s p q hr hs hp hq in
    let m3 = inv_mixed_byte-lt s p q r hs hp hq hr in
    let n0 = inv_mixed_byte-lt k0 k1 k2 k3 h0 h1 h2 h3 in
    let n1 = inv_mixed_byte-lt k1 k2 k3 k0 h1 h2 h3 h0 in
    let n2 = inv_mixed_byte-lt k2 k3 k0 k1 h2 h3 h0 h1 in
    let n3 = inv_mixed_byte-lt k3 k0 k1 k2 h3 h0 h1 h2 in
    let a' : ℕ = inv_mixed_byte k0 k1 k2 k3 in
    let b' : ℕ = inv_mixed_byte k1 k2 k3 k0 in
    let c' : ℕ = inv_mixed_byte k2 k3 k0 k1 in
    let d' : ℕ = inv_mixed_byte k3 k0 k1 k2 in
    let e0 : byte_of (bit_xor w u) 0 ≡ inv_mixed_byte (bit_xor p k0) (bit_xor q k1) (bit_xor r k2) (bit_xor s k3) =
    byte_of-xor w u 0 ∙ (λ i. bit_xor (byte_of (e i) 0) (byte_of (g i) 0))
    ∙ (λ i. bit_xor (byte_of-word0 a b c d m0 m1 m2 m3 i) (byte_of-word0 a' b' c' d' n0 n1 n2 n3 i))
    ∙ inv_mixed_byte-xor p q r s k0 k1 k2 k3 hp hq hr hs h0 h1 h2 h3 in
    let e1 : byte_of (bit_xor w u) 1 ≡ inv_mixed_byte (bit_xor q k1) (bit_xor r k2) (bit_xor s k3) (bit_xor p k0) =
    byte_of-xor w u 1 ∙ (λ i. bit_xor (byte_of (e i) 1) (byte_of (g i) 1))
    ∙ (λ i. bit_xor (byte_of-word1 a b c d m0 m1 m2 m3 i) (byte_of-word1 a' b' c' d' n0 n1 n2 n3 i))
    ∙ inv_mixed_byte-xor q r s p k1 k2 k3 k0 hq hr hs hp h1 h2 h3 h0 in
    let e2 : byte_of (bit_xor w u) 2 ≡ inv_mixed_byte (bit_xor r k2) (bit_xor s k3) (bit_xor p k0) (bit_xor q k1) =
    byte_of-xor w u 2 ∙ (λ i. bit_xor (byte_of (e i) 2) (byte_of (g i) 2))
    ∙ (λ i. bit_xor (byte_of-word2 a b c d m0 m1 m2 m3 i) (byte_of-word2 a' b' c' d' n0 n1 n2 n3 i))
    ∙ inv_mixed_byte-xor r s p q k2 k3 k0 k1 hr hs hp hq h2 h3 h0 h1 in
    let e3 : byte_of (bit_xor w u) 3 ≡ inv_mixed_byte (bit_xor s k3) (bit_xor p k0) (bit_xor q k1) (bit_xor r k2) =
    byte_of-xor w u 3 ∙ (λ i. bit_xor (byte_of (e i) 3) (byte_of (g i) 3))
    ∙ (λ i. bit_xor (byte_of-word3 a b c d m0 m1 m2 m3 i) (byte_of-word3 a' b' c' d' n0 n1 n2 n3 i))
    ∙ inv_mixed_byte-xor s p q r k3 k0 k1 k2 hs hp hq hr h3 h0 h1 h2 in
    λ i. e0 i ∷ e1 i ∷ e2 i ∷ e3 i ∷ f i

abbrev pub unmixed_of : List ℕ → ℕ → ℕ → ℕ → ℕ → ℕ
unmixed_of s i j m n = inv_mixed_word (unsubbed (slice_index s i) 0) (unsubbed (slice_index s j) 1) (unsubbed (slice_index s m) 2) (unsubbed (slice_index s n) 3)

-- a round of the inverse cipher on words is that on bytes
pub unround_bytes : (s u k : List ℕ) (w0 w1 w2 w3 : ℕ)
    → w0 ≡ unmixed_of s 0 3 2 1 → w1 ≡ unmixed_of s 1 0 3 2 → w2 ≡ unmixed_of s 2 1 0 3 → w3 ≡ unmixed_of s 3 2 1 0
    → slice_index u 0 ≡ unmixed_word (slice_index k 0) → slice_index u 1 ≡ unmixed_word (slice_index k 1)
    → slice_index u 2 ≡ unmixed_word (slice_index k 2) → slice_index u 3 ≡ unmixed_word (slice_index k 3)
    → bytes_at (bit_xor w0 (slice_index u 0) ∷ bit_xor w1 (slice_index u 1) ∷ bit_xor w2 (slice_index u 2) ∷ bit_xor w3 (slice_index u 3) ∷ []) 0
    ≡ inv_mix_columns (add_round_key (inv_sub_bytes (inv_shift_rows (bytes_at s 0))) (bytes_at k 0))
unround_bytes s u k w0 w1 w2 w3 e0 e1 e2 e3 g0 g1 g2 g3 =
    let b : (i r : ℕ) → ℕ = λ i r. unsubbed (slice_index s i) r in
    let lt : (i r : ℕ) → b i r < 256 = λ i r. unsubbed-lt (slice_index s i) r in
    column_bytes w0 (slice_index u 0) (slice_index k 0) (b 0 0) (b 3 1) (b 2 2) (b 1 3) _ _ (lt 0 0) (lt 3 1) (lt 2 2) (lt 1 3) e0 g0
    (column_bytes w1 (slice_index u 1) (slice_index k 1) (b 1 0) (b 0 1) (b 3 2) (b 2 3) _ _ (lt 1 0) (lt 0 1) (lt 3 2) (lt 2 3) e1 g1
    (column_bytes w2 (slice_index u 2) (slice_index k 2) (b 2 0) (b 1 1) (b 0 2) (b 3 3) _ _ (lt 2 0) (lt 1 1) (lt 0 2) (lt 3 3) e2 g2
    (column_bytes w3 (slice_index u 3) (slice_index k 3) (b 3 0) (b 2 1) (b 1 2) (b 0 3) [] [] (lt 3 0) (lt 2 1) (lt 1 2) (lt 0 3) e3 g3 refl)))

-- at word i of the schedule
pub unround_bytes_at : (s us ws : List ℕ) (i : ℕ) (w0 w1 w2 w3 u0 u1 u2 u3 : ℕ) → i + 4 ≤ 44 → AreUnmixed us ws
    → w0 ≡ unmixed_of s 0 3 2 1 → w1 ≡ unmixed_of s 1 0 3 2 → w2 ≡ unmixed_of s 2 1 0 3 → w3 ≡ unmixed_of s 3 2 1 0
    → u0 ≡ slice_index us i → u1 ≡ slice_index us (i + 1) → u2 ≡ slice_index us (i + 2) → u3 ≡ slice_index us (i + 3)
    → bytes_at (bit_xor w0 u0 ∷ bit_xor w1 u1 ∷ bit_xor w2 u2 ∷ bit_xor w3 u3 ∷ []) 0
    ≡ inv_mix_columns (add_round_key (inv_sub_bytes (inv_shift_rows (bytes_at s 0))) (bytes_at ws i))
unround_bytes_at s us ws i w0 w1 w2 w3 u0 u1 u2 u3 room un e0 e1 e2 e3 f0 f1 f2 f3 =
    let k : List ℕ = slice_index ws i ∷ slice_index ws (i + 1) ∷ slice_index ws (i + 2) ∷ slice_index ws (i + 3) ∷ [] in
    let z : i + 0 ≡ i = omega arith in
    let same : bytes_at k 0 ≡ bytes_at ws i = λ t.
    byte_of (slice_index ws (sym z t)) 0 ∷ byte_of (slice_index ws (sym z t)) 1 ∷ byte_of (slice_index ws (sym z t)) 2 ∷ byte_of (slice_index ws (sym z t)) 3
    ∷ byte_of (slice_index ws (i + 1)) 0 ∷ byte_of (slice_index ws (i + 1)) 1 ∷ byte_of (slice_index ws (i + 1)) 2 ∷ byte_of (slice_index ws (i + 1)) 3
    ∷ byte_of (slice_index ws (i + 2)) 0 ∷ byte_of (slice_index ws (i + 2)) 1 ∷ byte_of (slice_index ws (i + 2)) 2 ∷ byte_of (slice_index ws (i + 2)) 3
    ∷ byte_of (slice_index ws (i + 3)) 0 ∷ byte_of (slice_index ws (i + 3)) 1 ∷ byte_of (slice_index ws (i + 3)) 2 ∷ byte_of (slice_index ws (i + 3)) 3 ∷ [] in
    unround_bytes s (u0 ∷ u1 ∷ u2 ∷ u3 ∷ []) k w0 w1 w2 w3 e0 e1 e2 e3
    (f0 ∙ un i (omega arith)) (f1 ∙ un (i + 1) (omega arith)) (f2 ∙ un (i + 2) (omega arith)) (f3 ∙ un (i + 3) (omega arith))
    ∙ ap (λ (x : List ℕ). inv_mix_columns (add_round_key (inv_sub_bytes (inv_shift_rows (bytes_at s 0))) x)) same

-- ---- the rounds

-- the last round of the inverse cipher
pub unrounds_none : (ws s t : List ℕ) (r : ℕ) → r ≡ 10 → t ≡ add_round_key (inv_sub_bytes (inv_shift_rows s)) (bytes_at ws 0)
    → t ≡ unrounds ws (inv_sub_bytes (inv_shift_rows s)) (10 - r)
unfolding unrounds
unrounds_none ws s t r ten e =
    let q : 0 ≡ 10 - r = omega arith in
    e ∙ ap (λ (n : ℕ). unrounds ws (inv_sub_bytes (inv_shift_rows s)) n) q

unrounds_suc : (ws s : List ℕ) (n : ℕ)
    → unrounds ws s (suc n) ≡ unrounds ws (inv_sub_bytes (inv_shift_rows (inv_mix_columns (add_round_key s (bytes_at ws (4 * (n + 1))))))) n
unfolding unrounds
unrounds_suc ws s n = refl

-- one more round of the inverse cipher, before the last
pub unrounds_more : (ws s t x : List ℕ) (r : ℕ) → r < 10
    → unrounds ws (inv_sub_bytes (inv_shift_rows s)) (10 - r) ≡ x
    → t ≡ inv_mix_columns (add_round_key (inv_sub_bytes (inv_shift_rows s)) (bytes_at ws (4 * (10 - r))))
    → unrounds ws (inv_sub_bytes (inv_shift_rows t)) (10 - (r + 1)) ≡ x
unrounds_more ws s t x r lt e f =
    let n : ℕ = 10 - (r + 1) in
    let p : 10 - r ≡ suc n = omega arith in
    let q : 10 - r ≡ n + 1 = omega arith in
    let u : List ℕ = inv_sub_bytes (inv_shift_rows s) in
    ap (λ (y : List ℕ). unrounds ws (inv_sub_bytes (inv_shift_rows y)) n)
    (f ∙ ap (λ (m : ℕ). inv_mix_columns (add_round_key u (bytes_at ws (4 * m)))) q)
    ∙ sym (unrounds_suc ws u n) ∙ ap (λ (m : ℕ). unrounds ws u m) (sym p) ∙ e

-- the word that the tables make of a word that went through SubBytes
pub unmixed_word-sub_word : (w s x : ℕ) → s ≡ sub_word w → x ≡ inv_mixed_word (unsubbed s 0) (unsubbed s 1) (unsubbed s 2) (unsubbed s 3) → x ≡ unmixed_word w
unmixed_word-sub_word w s x e f =
    let b : ℕ → ℕ = λ r. sub_byte (byte_of w r) in
    let lt : (r : ℕ) → b r < 256 = λ r. sub_byte-lt (byte_of w r) (byte_of-lt w r) in
    let undo : (r : ℕ) → inv_sub_byte (b r) ≡ byte_of w r = λ r. inv_sub_byte-sub_byte (byte_of w r) (byte_of-lt w r) in
    let s0 : unsubbed s 0 ≡ byte_of w 0 = ap (λ (v : ℕ). unsubbed v 0) e ∙ ap inv_sub_byte (byte_of-word0 (b 0) (b 1) (b 2) (b 3) (lt 0) (lt 1) (lt 2) (lt 3)) ∙ undo 0 in
    let s1 : unsubbed s 1 ≡ byte_of w 1 = ap (λ (v : ℕ). unsubbed v 1) e ∙ ap inv_sub_byte (byte_of-word1 (b 0) (b 1) (b 2) (b 3) (lt 0) (lt 1) (lt 2) (lt 3)) ∙ undo 1 in
    let s2 : unsubbed s 2 ≡ byte_of w 2 = ap (λ (v : ℕ). unsubbed v 2) e ∙ ap inv_sub_byte (byte_of-word2 (b 0) (b 1) (b 2) (b 3) (lt 0) (lt 1) (lt 2) (lt 3)) ∙ undo 2 in
    let s3 : unsubbed s 3 ≡ byte_of w 3 = ap (λ (v : ℕ). unsubbed v 3) e ∙ ap inv_sub_byte (byte_of-word3 (b 0) (b 1) (b 2) (b 3) (lt 0) (lt 1) (lt 2) (lt 3)) ∙ undo 3 in
    f ∙ (λ i. inv_mixed_word (s0 i) (s1 i) (s2 i) (s3 i))

abbrev pub unsubbed_of : List ℕ → ℕ → ℕ → ℕ → ℕ → ℕ
unsubbed_of s i j m n = word (unsubbed (slice_index s i) 0) (unsubbed (slice_index s j) 1) (unsubbed (slice_index s m) 2) (unsubbed (slice_index s n) 3)

pub last_unround_bytes : (s k : List ℕ) (w0 w1 w2 w3 : ℕ)
    → w0 ≡ unsubbed_of s 0 3 2 1 → w1 ≡ unsubbed_of s 1 0 3 2 → w2 ≡ unsubbed_of s 2 1 0 3 → w3 ≡ unsubbed_of s 3 2 1 0
    → bytes_at (bit_xor w0 (slice_index k 0) ∷ bit_xor w1 (slice_index k 1) ∷ bit_xor w2 (slice_index k 2) ∷ bit_xor w3 (slice_index k 3) ∷ []) 0
    ≡ add_round_key (inv_sub_bytes (inv_shift_rows (bytes_at s 0))) (bytes_at k 0)
last_unround_bytes s k w0 w1 w2 w3 e0 e1 e2 e3 =
    let b : (i r : ℕ) → ℕ = λ i r. unsubbed (slice_index s i) r in
    let lt : (i r : ℕ) → b i r < 256 = λ i r. unsubbed-lt (slice_index s i) r in
    subbed_bytes w0 (slice_index k 0) (b 0 0) (b 3 1) (b 2 2) (b 1 3) _ _ (lt 0 0) (lt 3 1) (lt 2 2) (lt 1 3) e0
    (subbed_bytes w1 (slice_index k 1) (b 1 0) (b 0 1) (b 3 2) (b 2 3) _ _ (lt 1 0) (lt 0 1) (lt 3 2) (lt 2 3) e1
    (subbed_bytes w2 (slice_index k 2) (b 2 0) (b 1 1) (b 0 2) (b 3 3) _ _ (lt 2 0) (lt 1 1) (lt 0 2) (lt 3 3) e2
    (subbed_bytes w3 (slice_index k 3) (b 3 0) (b 2 1) (b 1 2) (b 0 3) [] [] (lt 3 0) (lt 2 1) (lt 1 2) (lt 0 3) e3 refl)))
