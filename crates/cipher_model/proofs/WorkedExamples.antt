-- The worked examples, and the inverse in the field, by computation.
use Rattle.std.proofs.Common.{◌≡◌, ℕ, zero, suc, ◌<◌, ◌∷◌, map, replicate, refl, sym, ◌∙◌, arith}
use Rattle.std.specs.List.{range_with_len}
use Rattle.std.proofs.lemmas.List.{get_or-replicate}
use Rattle.cipher_model.specs.Field.{product_of_bits, product, power_of_bits, inverse, sub_byte, inv_sub_byte}
use Rattle.cipher_model.specs.Aes.{encrypted, decrypted, rounds, unrounds, schedule}
use Rattle.cipher_model.proofs.Tables.{table_at}
use Rattle.cipher_model.specs.Laws.{HasInverses}
use Rattle.cipher_model.specs.Examples.{CipherExample, Aes128Example, Aes256Example, EcbExample, CbcExample}

-- a fact about each number below four
four : (P : ℕ → Type 0) → P 0 → P 1 → P 2 → P 3 → (i : ℕ) → i < 4 → P i
four P p0 p1 p2 p3 zero h = p0
four P p0 p1 p2 p3 (suc zero) h = p1
four P p0 p1 p2 p3 (suc (suc zero)) h = p2
four P p0 p1 p2 p3 (suc (suc (suc zero))) h = p3
four P p0 p1 p2 p3 (suc (suc (suc (suc i)))) h = absurd (omega arith)

pub cipher_example : CipherExample
unfolding product_of_bits power_of_bits sub_byte rounds schedule encrypted
cipher_example = refl

pub aes_128_example : Aes128Example
unfolding product_of_bits power_of_bits sub_byte inv_sub_byte rounds unrounds schedule encrypted decrypted
aes_128_example = record { forward = refl; back = refl }

pub aes_256_example : Aes256Example
unfolding product_of_bits power_of_bits sub_byte inv_sub_byte rounds unrounds schedule encrypted decrypted
aes_256_example = record { forward = refl; back = refl }

pub ecb_example : EcbExample
unfolding product_of_bits power_of_bits sub_byte rounds schedule encrypted
ecb_example = record {
  same_length = record { whole = refl; long = refl };
  blocks = four _ refl refl refl refl;
}

pub cbc_example : CbcExample
unfolding product_of_bits power_of_bits sub_byte rounds schedule encrypted
cbc_example = record {
  same_length = record { whole = refl; long = refl };
  blocks = four _ refl refl refl refl;
}

inverse_is : map (λ (a : ℕ). product a (inverse a)) (range_with_len 0 256) ≡ 0 ∷ replicate 255 1
unfolding product_of_bits power_of_bits
inverse_is = refl

pub field_inverse : HasInverses
field_inverse zero pos lt = absurd (omega arith)
field_inverse (suc n) pos lt =
    sym (table_at (λ (a : ℕ). product a (inverse a)) (0 ∷ replicate 255 1) 256 inverse_is (suc n) lt)
    ∙ get_or-replicate 255 n 1 0 (omega arith)
