-- Two circulant maps of columns, one after the other; and that MixColumns and its inverse undo each other.
use Rattle.std.proofs.Common.{◌≡◌, ℕ, ◌<◌, bit_xor, map, refl, sym, ap, ◌∙◌, replicate}
use Rattle.std.specs.List.{range_with_len}
use Rattle.std.proofs.lemmas.Nat.{xor_comm, xor_lt}
use lib.Bits.{xor_zero_r}
use Rattle.cipher_model.specs.Field.{product_of_bits, product}
use Rattle.cipher_model.specs.Aes.{mixed_byte, inv_mixed_byte}
use Rattle.cipher_model.proofs.FieldLaws.{xor_exchange, product_of_bits-lt, product_of_bits-xor}
use Rattle.cipher_model.proofs.Tables.{itself_at, zero_at}

-- four terms
abbrev pub sum4 : ℕ → ℕ → ℕ → ℕ → ℕ
sum4 a b c d = bit_xor (bit_xor a b) (bit_xor c d)

-- the terms turned by one place
pub sum4_turn : (a b c d : ℕ) → sum4 a b c d ≡ sum4 d a b c
sum4_turn a b c d =
    xor_exchange a b c d ∙ xor_comm (bit_xor a c) (bit_xor b d)
    ∙ ap (λ (x : ℕ). bit_xor x (bit_xor a c)) (xor_comm b d) ∙ xor_exchange d b a c

-- sixteen terms, by rows and by columns
sum4_transposed : (a0 b0 c0 d0 a1 b1 c1 d1 a2 b2 c2 d2 a3 b3 c3 d3 : ℕ)
    → sum4 (sum4 a0 b0 c0 d0) (sum4 a1 b1 c1 d1) (sum4 a2 b2 c2 d2) (sum4 a3 b3 c3 d3)
    ≡ sum4 (sum4 a0 a1 a2 a3) (sum4 b0 b1 b2 b3) (sum4 c0 c1 c2 c3) (sum4 d0 d1 d2 d3)
sum4_transposed a0 b0 c0 d0 a1 b1 c1 d1 a2 b2 c2 d2 a3 b3 c3 d3 =
    (λ i. bit_xor (sum4_sum4 a0 b0 c0 d0 a1 b1 c1 d1 i) (sum4_sum4 a2 b2 c2 d2 a3 b3 c3 d3 i))
    ∙ sum4_sum4 (bit_xor a0 a1) (bit_xor b0 b1) (bit_xor c0 c1) (bit_xor d0 d1) (bit_xor a2 a3) (bit_xor b2 b3) (bit_xor c2 c3) (bit_xor d2 d3)
  where
    sum4_sum4 : (a b c d p q r s : ℕ) → bit_xor (sum4 a b c d) (sum4 p q r s) ≡ sum4 (bit_xor a p) (bit_xor b q) (bit_xor c r) (bit_xor d s)
    sum4_sum4 a b c d p q r s =
        xor_exchange (bit_xor a b) (bit_xor c d) (bit_xor p q) (bit_xor r s)
        ∙ (λ i. bit_xor (xor_exchange a b p q i) (xor_exchange c d r s i))

product-sum4 : (a b c d k : ℕ) → a < 256 → b < 256 → c < 256 → d < 256
    → product (sum4 a b c d) k ≡ sum4 (product a k) (product b k) (product c k) (product d k)
product-sum4 a b c d k ha hb hc hd =
    product_of_bits-xor 8 (bit_xor a b) (bit_xor c d) k (xor_lt 8 a b ha hb) (xor_lt 8 c d hc hd)
    ∙ (λ i. bit_xor (product_of_bits-xor 8 a b k ha hb i) (product_of_bits-xor 8 c d k hc hd i))

module _ (j0 j1 j2 j3 : ℕ) where
  -- one byte of a column under the circulant map with the row j0 j1 j2 j3
  abbrev pub turned : ℕ → ℕ → ℕ → ℕ → ℕ
  turned a b c d = sum4 (product a j0) (product b j1) (product c j2) (product d j3)

  -- such an octet is one
  pub turned-lt : (a b c d : ℕ) → a < 256 → b < 256 → c < 256 → d < 256 → turned a b c d < 256
  turned-lt a b c d ha hb hc hd =
      let lt : (x j : ℕ) → x < 256 → product x j < 256 = λ x j h. product_of_bits-lt 8 x j h in
      xor_lt 8 (bit_xor (product a j0) (product b j1)) (bit_xor (product c j2) (product d j3))
      (xor_lt 8 (product a j0) (product b j1) (lt a j0 ha) (lt b j1 hb))
      (xor_lt 8 (product c j2) (product d j3) (lt c j2 hc) (lt d j3 hd))

  module _ (k0 k1 k2 k3 : ℕ) where
    -- what byte x, times each of four factors, adds to a byte under a second map
    abbrev pub added : ℕ → ℕ → ℕ → ℕ → ℕ → ℕ
    added p q r s x = sum4 (product (product x p) k0) (product (product x q) k1) (product (product x r) k2) (product (product x s) k3)

    pub turned_twice : (a b c d : ℕ) → a < 256 → b < 256 → c < 256 → d < 256
        → sum4 (product (turned a b c d) k0) (product (turned b c d a) k1) (product (turned c d a b) k2) (product (turned d a b c) k3)
        ≡ sum4 (added j0 j3 j2 j1 a) (added j1 j0 j3 j2 b) (added j2 j1 j0 j3 c) (added j3 j2 j1 j0 d)
    turned_twice a b c d ha hb hc hd =
        let lt : (x j : ℕ) → x < 256 → product x j < 256 = λ x j h. product_of_bits-lt 8 x j h in
        let p : (x j k : ℕ) → ℕ = λ x j k. product (product x j) k in
        let r0 : product (turned a b c d) k0 ≡ sum4 (p a j0 k0) (p b j1 k0) (p c j2 k0) (p d j3 k0) =
        product-sum4 _ _ _ _ k0 (lt a j0 ha) (lt b j1 hb) (lt c j2 hc) (lt d j3 hd) in
        let r1 : product (turned b c d a) k1 ≡ sum4 (p a j3 k1) (p b j0 k1) (p c j1 k1) (p d j2 k1) =
        product-sum4 _ _ _ _ k1 (lt b j0 hb) (lt c j1 hc) (lt d j2 hd) (lt a j3 ha) ∙ sum4_turn (p b j0 k1) (p c j1 k1) (p d j2 k1) (p a j3 k1) in
        let r2 : product (turned c d a b) k2 ≡ sum4 (p a j2 k2) (p b j3 k2) (p c j0 k2) (p d j1 k2) =
        product-sum4 _ _ _ _ k2 (lt c j0 hc) (lt d j1 hd) (lt a j2 ha) (lt b j3 hb)
        ∙ xor_comm (bit_xor (p c j0 k2) (p d j1 k2)) (bit_xor (p a j2 k2) (p b j3 k2)) in
        let r3 : product (turned d a b c) k3 ≡ sum4 (p a j1 k3) (p b j2 k3) (p c j3 k3) (p d j0 k3) =
        product-sum4 _ _ _ _ k3 (lt d j0 hd) (lt a j1 ha) (lt b j2 hb) (lt c j3 hc) ∙ sym (sum4_turn (p a j1 k3) (p b j2 k3) (p c j3 k3) (p d j0 k3)) in
        (λ i. sum4 (r0 i) (r1 i) (r2 i) (r3 i))
        ∙ sum4_transposed (p a j0 k0) (p b j1 k0) (p c j2 k0) (p d j3 k0) (p a j3 k1) (p b j0 k1) (p c j1 k1) (p d j2 k1)
        (p a j2 k2) (p b j3 k2) (p c j0 k2) (p d j1 k2) (p a j1 k3) (p b j2 k3) (p c j3 k3) (p d j0 k3)

-- MixColumns gives octets
pub mixed_byte-lt : (a b c d : ℕ) → a < 256 → b < 256 → c < 256 → d < 256 → mixed_byte a b c d < 256
mixed_byte-lt = turned-lt 2 3 1 1

-- InvMixColumns gives octets
pub inv_mixed_byte-lt : (a b c d : ℕ) → a < 256 → b < 256 → c < 256 → d < 256 → inv_mixed_byte a b c d < 256
inv_mixed_byte-lt = turned-lt 14 11 13 9

-- ---- each byte of a column alone, under MixColumns and then InvMixColumns, or the other way round

undone0 : map (added 2 3 1 1 14 11 13 9 2 1 1 3) (range_with_len 0 256) ≡ range_with_len 0 256
unfolding product_of_bits
undone0 = refl

undone1 : map (added 2 3 1 1 14 11 13 9 3 2 1 1) (range_with_len 0 256) ≡ replicate 256 0
unfolding product_of_bits
undone1 = refl

undone2 : map (added 2 3 1 1 14 11 13 9 1 3 2 1) (range_with_len 0 256) ≡ replicate 256 0
unfolding product_of_bits
undone2 = refl

undone3 : map (added 2 3 1 1 14 11 13 9 1 1 3 2) (range_with_len 0 256) ≡ replicate 256 0
unfolding product_of_bits
undone3 = refl

done0 : map (added 14 11 13 9 2 3 1 1 14 9 13 11) (range_with_len 0 256) ≡ range_with_len 0 256
unfolding product_of_bits
done0 = refl

done1 : map (added 14 11 13 9 2 3 1 1 11 14 9 13) (range_with_len 0 256) ≡ replicate 256 0
unfolding product_of_bits
done1 = refl

done2 : map (added 14 11 13 9 2 3 1 1 13 11 14 9) (range_with_len 0 256) ≡ replicate 256 0
unfolding product_of_bits
done2 = refl

done3 : map (added 14 11 13 9 2 3 1 1 9 13 11 14) (range_with_len 0 256) ≡ replicate 256 0
unfolding product_of_bits
done3 = refl

-- InvMixColumns undoes MixColumns, at one byte
pub inv_mixed_byte-mixed_byte : (a b c d : ℕ) → a < 256 → b < 256 → c < 256 → d < 256
    → inv_mixed_byte (mixed_byte a b c d) (mixed_byte b c d a) (mixed_byte c d a b) (mixed_byte d a b c) ≡ a
inv_mixed_byte-mixed_byte a b c d ha hb hc hd =
    turned_twice 2 3 1 1 14 11 13 9 a b c d ha hb hc hd
    ∙ (λ i. sum4 (itself_at (added 2 3 1 1 14 11 13 9 2 1 1 3) undone0 a ha i) (zero_at (added 2 3 1 1 14 11 13 9 3 2 1 1) undone1 b hb i)
    (zero_at (added 2 3 1 1 14 11 13 9 1 3 2 1) undone2 c hc i) (zero_at (added 2 3 1 1 14 11 13 9 1 1 3 2) undone3 d hd i))
    ∙ xor_zero_r (bit_xor a 0) ∙ xor_zero_r a

-- MixColumns undoes InvMixColumns, at one byte
pub mixed_byte-inv_mixed_byte : (a b c d : ℕ) → a < 256 → b < 256 → c < 256 → d < 256
    → mixed_byte (inv_mixed_byte a b c d) (inv_mixed_byte b c d a) (inv_mixed_byte c d a b) (inv_mixed_byte d a b c) ≡ a
mixed_byte-inv_mixed_byte a b c d ha hb hc hd =
    turned_twice 14 11 13 9 2 3 1 1 a b c d ha hb hc hd
    ∙ (λ i. sum4 (itself_at (added 14 11 13 9 2 3 1 1 14 9 13 11) done0 a ha i) (zero_at (added 14 11 13 9 2 3 1 1 11 14 9 13) done1 b hb i)
    (zero_at (added 14 11 13 9 2 3 1 1 13 11 14 9) done2 c hc i) (zero_at (added 14 11 13 9 2 3 1 1 9 13 11 14) done3 d hd i))
    ∙ xor_zero_r (bit_xor a 0) ∙ xor_zero_r a
