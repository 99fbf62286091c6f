-- The tables of the rounds against the formulas: each has the column that a round makes of one byte that was substituted.
use Rattle.std.proofs.Common.{◌≡◌, ℕ, [], ◌<◌, get_or, refl, map}
use Rattle.std.specs.List.{range_with_len}
use Rattle.cipher_model.specs.Field.{product_of_bits, power_of_bits, sub_byte, inv_sub_byte}
use Rattle.aes_block.specs.Words.{mixed_word, inv_mixed_word}
use Rattle.aes_block.specs.declared.tables.TheConstants.{TE, TD}
use Rattle.cipher_model.proofs.Tables.{table_at}

te0_is : map (λ (x : ℕ). let s : ℕ = sub_byte x in mixed_word s 0 0 0) (range_with_len 0 256) ≡ get_or TE 0 []
unfolding product_of_bits power_of_bits sub_byte
te0_is = refl

pub te0_at : (x : ℕ) → x < 256 → get_or (get_or TE 0 []) x 0 ≡ mixed_word (sub_byte x) 0 0 0
te0_at x h = table_at (λ (x : ℕ). mixed_word (sub_byte x) 0 0 0) (get_or TE 0 []) 256 te0_is x h

te1_is : map (λ (x : ℕ). let s : ℕ = sub_byte x in mixed_word 0 s 0 0) (range_with_len 0 256) ≡ get_or TE 1 []
unfolding product_of_bits power_of_bits sub_byte
te1_is = refl

pub te1_at : (x : ℕ) → x < 256 → get_or (get_or TE 1 []) x 0 ≡ mixed_word 0 (sub_byte x) 0 0
te1_at x h = table_at (λ (x : ℕ). mixed_word 0 (sub_byte x) 0 0) (get_or TE 1 []) 256 te1_is x h

te2_is : map (λ (x : ℕ). let s : ℕ = sub_byte x in mixed_word 0 0 s 0) (range_with_len 0 256) ≡ get_or TE 2 []
unfolding product_of_bits power_of_bits sub_byte
te2_is = refl

pub te2_at : (x : ℕ) → x < 256 → get_or (get_or TE 2 []) x 0 ≡ mixed_word 0 0 (sub_byte x) 0
te2_at x h = table_at (λ (x : ℕ). mixed_word 0 0 (sub_byte x) 0) (get_or TE 2 []) 256 te2_is x h

te3_is : map (λ (x : ℕ). let s : ℕ = sub_byte x in mixed_word 0 0 0 s) (range_with_len 0 256) ≡ get_or TE 3 []
unfolding product_of_bits power_of_bits sub_byte
te3_is = refl

pub te3_at : (x : ℕ) → x < 256 → get_or (get_or TE 3 []) x 0 ≡ mixed_word 0 0 0 (sub_byte x)
te3_at x h = table_at (λ (x : ℕ). mixed_word 0 0 0 (sub_byte x)) (get_or TE 3 []) 256 te3_is x h

td0_is : map (λ (x : ℕ). let s : ℕ = inv_sub_byte x in inv_mixed_word s 0 0 0) (range_with_len 0 256) ≡ get_or TD 0 []
unfolding product_of_bits power_of_bits inv_sub_byte
td0_is = refl

pub td0_at : (x : ℕ) → x < 256 → get_or (get_or TD 0 []) x 0 ≡ inv_mixed_word (inv_sub_byte x) 0 0 0
td0_at x h = table_at (λ (x : ℕ). inv_mixed_word (inv_sub_byte x) 0 0 0) (get_or TD 0 []) 256 td0_is x h

td1_is : map (λ (x : ℕ). let s : ℕ = inv_sub_byte x in inv_mixed_word 0 s 0 0) (range_with_len 0 256) ≡ get_or TD 1 []
unfolding product_of_bits power_of_bits inv_sub_byte
td1_is = refl

pub td1_at : (x : ℕ) → x < 256 → get_or (get_or TD 1 []) x 0 ≡ inv_mixed_word 0 (inv_sub_byte x) 0 0
td1_at x h = table_at (λ (x : ℕ). inv_mixed_word 0 (inv_sub_byte x) 0 0) (get_or TD 1 []) 256 td1_is x h

td2_is : map (λ (x : ℕ). let s : ℕ = inv_sub_byte x in inv_mixed_word 0 0 s 0) (range_with_len 0 256) ≡ get_or TD 2 []
unfolding product_of_bits power_of_bits inv_sub_byte
td2_is = refl

pub td2_at : (x : ℕ) → x < 256 → get_or (get_or TD 2 []) x 0 ≡ inv_mixed_word 0 0 (inv_sub_byte x) 0
td2_at x h = table_at (λ (x : ℕ). inv_mixed_word 0 0 (inv_sub_byte x) 0) (get_or TD 2 []) 256 td2_is x h

td3_is : map (λ (x : ℕ). let s : ℕ = inv_sub_byte x in inv_mixed_word 0 0 0 s) (range_with_len 0 256) ≡ get_or TD 3 []
unfolding product_of_bits power_of_bits inv_sub_byte
td3_is = refl

pub td3_at : (x : ℕ) → x < 256 → get_or (get_or TD 3 []) x 0 ≡ inv_mixed_word 0 0 0 (inv_sub_byte x)
td3_at x h = table_at (λ (x : ℕ). inv_mixed_word 0 0 0 (inv_sub_byte x)) (get_or TD 3 []) 256 td3_is x h
