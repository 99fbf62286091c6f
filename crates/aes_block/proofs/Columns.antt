-- A column under a circulant map is the sum of the columns of its bytes alone.
use Rattle.std.proofs.Common.{◌≡◌, ℕ, ◌<◌, bit_xor, refl, sym, ap, ◌∙◌, arith}
use Rattle.std.proofs.lemmas.Nat.{xor_comm, xor_lt}
use lib.Bits.{xor_assoc, xor_zero_r}
use Rattle.cipher_model.specs.Field.{product_of_bits, product}
use Rattle.cipher_model.specs.Aes.{word}
use Rattle.aes_block.specs.Words.{mixed_word, inv_mixed_word}
use Rattle.cipher_model.proofs.MixLaws.{sum4, sum4_turn, turned, turned-lt}
use Rattle.aes_block.proofs.WordBytes.{word-xor}

sum4_flat : (a b c d : ℕ) → bit_xor (bit_xor (bit_xor a b) c) d ≡ sum4 a b c d
sum4_flat a b c d = xor_assoc (bit_xor a b) c d

module _ (j0 j1 j2 j3 : ℕ) (zero0 : product 0 j0 ≡ 0) (zero1 : product 0 j1 ≡ 0) (zero2 : product 0 j2 ≡ 0) (zero3 : product 0 j3 ≡ 0) where
  abbrev m : ℕ → ℕ → ℕ → ℕ → ℕ
  m a b c d = turned j0 j1 j2 j3 a b c d

  abbrev column : ℕ → ℕ → ℕ → ℕ → ℕ
  column a b c d = word (m a b c d) (m b c d a) (m c d a b) (m d a b c)

  only0 : (x : ℕ) → m x 0 0 0 ≡ product x j0
  only0 x = (λ i. sum4 (product x j0) (zero1 i) (zero2 i) (zero3 i)) ∙ xor_zero_r (bit_xor (product x j0) 0) ∙ xor_zero_r (product x j0)

  only1 : (x : ℕ) → m 0 x 0 0 ≡ product x j1
  only1 x = (λ i. sum4 (zero0 i) (product x j1) (zero2 i) (zero3 i)) ∙ xor_zero_r (bit_xor 0 (product x j1))

  only2 : (x : ℕ) → m 0 0 x 0 ≡ product x j2
  only2 x = (λ i. sum4 (zero0 i) (zero1 i) (product x j2) (zero3 i)) ∙ xor_zero_r (product x j2)

  only3 : (x : ℕ) → m 0 0 0 x ≡ product x j3
  only3 x = (λ i. sum4 (zero0 i) (zero1 i) (zero2 i) (product x j3))

  pub column_parts : (p q r s : ℕ) → p < 256 → q < 256 → r < 256 → s < 256
      → bit_xor (bit_xor (bit_xor (column p 0 0 0) (column 0 q 0 0)) (column 0 0 r 0)) (column 0 0 0 s) ≡ column p q r s
  column_parts p q r s hp hq hr hs =
      let z : 0 < 256 = omega arith in
      let lt : (a b c d : ℕ) → a < 256 → b < 256 → c < 256 → d < 256 → m a b c d < 256 = turned-lt j0 j1 j2 j3 in
      let two : bit_xor (column p 0 0 0) (column 0 q 0 0)
      ≡ word (bit_xor (m p 0 0 0) (m 0 q 0 0)) (bit_xor (m 0 0 0 p) (m q 0 0 0)) (bit_xor (m 0 0 p 0) (m 0 0 0 q)) (bit_xor (m 0 p 0 0) (m 0 0 q 0)) =
      word-xor (m p 0 0 0) (m 0 0 0 p) (m 0 0 p 0) (m 0 p 0 0) (m 0 q 0 0) (m q 0 0 0) (m 0 0 0 q) (m 0 0 q 0)
      (lt 0 0 0 p z z z hp) (lt 0 0 p 0 z z hp z) (lt 0 p 0 0 z hp z z) (lt q 0 0 0 hq z z z) (lt 0 0 0 q z z z hq) (lt 0 0 q 0 z z hq z) in
      let x1 : ℕ = bit_xor (m 0 0 0 p) (m q 0 0 0) in
      let x2 : ℕ = bit_xor (m 0 0 p 0) (m 0 0 0 q) in
      let x3 : ℕ = bit_xor (m 0 p 0 0) (m 0 0 q 0) in
      let h1 : x1 < 256 = xor_lt 8 (m 0 0 0 p) (m q 0 0 0) (lt 0 0 0 p z z z hp) (lt q 0 0 0 hq z z z) in
      let h2 : x2 < 256 = xor_lt 8 (m 0 0 p 0) (m 0 0 0 q) (lt 0 0 p 0 z z hp z) (lt 0 0 0 q z z z hq) in
      let h3 : x3 < 256 = xor_lt 8 (m 0 p 0 0) (m 0 0 q 0) (lt 0 p 0 0 z hp z z) (lt 0 0 q 0 z z hq z) in
      let x0 : ℕ = bit_xor (m p 0 0 0) (m 0 q 0 0) in
      let three : bit_xor (word x0 x1 x2 x3) (column 0 0 r 0)
      ≡ word (bit_xor x0 (m 0 0 r 0)) (bit_xor x1 (m 0 r 0 0)) (bit_xor x2 (m r 0 0 0)) (bit_xor x3 (m 0 0 0 r)) =
      word-xor x0 x1 x2 x3 (m 0 0 r 0) (m 0 r 0 0) (m r 0 0 0) (m 0 0 0 r) h1 h2 h3
      (lt 0 r 0 0 z hr z z) (lt r 0 0 0 hr z z z) (lt 0 0 0 r z z z hr) in
      let four : bit_xor (word (bit_xor x0 (m 0 0 r 0)) (bit_xor x1 (m 0 r 0 0)) (bit_xor x2 (m r 0 0 0)) (bit_xor x3 (m 0 0 0 r))) (column 0 0 0 s)
      ≡ word (bit_xor (bit_xor x0 (m 0 0 r 0)) (m 0 0 0 s)) (bit_xor (bit_xor x1 (m 0 r 0 0)) (m 0 0 s 0)) (bit_xor (bit_xor x2 (m r 0 0 0)) (m 0 s 0 0)) (bit_xor (bit_xor x3 (m 0 0 0 r)) (m s 0 0 0)) =
      word-xor (bit_xor x0 (m 0 0 r 0)) (bit_xor x1 (m 0 r 0 0)) (bit_xor x2 (m r 0 0 0)) (bit_xor x3 (m 0 0 0 r)) (m 0 0 0 s) (m 0 0 s 0) (m 0 s 0 0) (m s 0 0 0)
      (xor_lt 8 x1 (m 0 r 0 0) h1 (lt 0 r 0 0 z hr z z)) (xor_lt 8 x2 (m r 0 0 0) h2 (lt r 0 0 0 hr z z z)) (xor_lt 8 x3 (m 0 0 0 r) h3 (lt 0 0 0 r z z z hr))
      (lt 0 0 s 0 z z hs z) (lt 0 s 0 0 z hs z z) (lt s 0 0 0 hs z z z) in
      let b0 : bit_xor (bit_xor (bit_xor (m p 0 0 0) (m 0 q 0 0)) (m 0 0 r 0)) (m 0 0 0 s) ≡ m p q r s =
      (λ i. bit_xor (bit_xor (bit_xor (only0 p i) (only1 q i)) (only2 r i)) (only3 s i))
      ∙ sum4_flat (product p j0) (product q j1) (product r j2) (product s j3) in
      let b1 : bit_xor (bit_xor (bit_xor (m 0 0 0 p) (m q 0 0 0)) (m 0 r 0 0)) (m 0 0 s 0) ≡ m q r s p =
      (λ i. bit_xor (bit_xor (bit_xor (only3 p i) (only0 q i)) (only1 r i)) (only2 s i))
      ∙ sum4_flat (product p j3) (product q j0) (product r j1) (product s j2)
      ∙ sym (sum4_turn (product q j0) (product r j1) (product s j2) (product p j3)) in
      let b2 : bit_xor (bit_xor (bit_xor (m 0 0 p 0) (m 0 0 0 q)) (m r 0 0 0)) (m 0 s 0 0) ≡ m r s p q =
      (λ i. bit_xor (bit_xor (bit_xor (only2 p i) (only3 q i)) (only0 r i)) (only1 s i))
      ∙ sum4_flat (product p j2) (product q j3) (product r j0) (product s j1)
      ∙ xor_comm (bit_xor (product p j2) (product q j3)) (bit_xor (product r j0) (product s j1)) in
      let b3 : bit_xor (bit_xor (bit_xor (m 0 p 0 0) (m 0 0 q 0)) (m 0 0 0 r)) (m s 0 0 0) ≡ m s p q r =
      (λ i. bit_xor (bit_xor (bit_xor (only1 p i) (only2 q i)) (only3 r i)) (only0 s i))
      ∙ sum4_flat (product p j1) (product q j2) (product r j3) (product s j0)
      ∙ sum4_turn (product p j1) (product q j2) (product r j3) (product s j0) in
      ap (λ (w : ℕ). bit_xor (bit_xor w (column 0 0 r 0)) (column 0 0 0 s)) two
      ∙ ap (λ (w : ℕ). bit_xor w (column 0 0 0 s)) three
      ∙ four ∙ (λ i. word (b0 i) (b1 i) (b2 i) (b3 i))

zero1 : product 0 1 ≡ 0
unfolding product_of_bits
zero1 = refl

zero2 : product 0 2 ≡ 0
unfolding product_of_bits
zero2 = refl

zero3 : product 0 3 ≡ 0
unfolding product_of_bits
zero3 = refl

zero9 : product 0 9 ≡ 0
unfolding product_of_bits
zero9 = refl

zero11 : product 0 11 ≡ 0
unfolding product_of_bits
zero11 = refl

zero13 : product 0 13 ≡ 0
unfolding product_of_bits
zero13 = refl

zero14 : product 0 14 ≡ 0
unfolding product_of_bits
zero14 = refl

-- the columns of four bytes alone under InvMixColumns add up to the column of them all
pub inv_mixed_word-parts : (p q r s : ℕ) → p < 256 → q < 256 → r < 256 → s < 256
    → bit_xor (bit_xor (bit_xor (inv_mixed_word p 0 0 0) (inv_mixed_word 0 q 0 0)) (inv_mixed_word 0 0 r 0)) (inv_mixed_word 0 0 0 s) ≡ inv_mixed_word p q r s
inv_mixed_word-parts p q r s hp hq hr hs = column_parts 14 11 13 9 zero14 zero11 zero13 zero9 p q r s hp hq hr hs

-- and so under MixColumns
pub mixed_word-parts : (p q r s : ℕ) → p < 256 → q < 256 → r < 256 → s < 256
    → bit_xor (bit_xor (bit_xor (mixed_word p 0 0 0) (mixed_word 0 q 0 0)) (mixed_word 0 0 r 0)) (mixed_word 0 0 0 s) ≡ mixed_word p q r s
mixed_word-parts p q r s hp hq hr hs = column_parts 2 3 1 1 zero2 zero3 zero1 zero1 p q r s hp hq hr hs
