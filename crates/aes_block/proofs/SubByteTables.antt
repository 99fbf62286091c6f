-- The tables of SubBytes and InvSubBytes against the formulas.
use Rattle.std.proofs.Common.{◌≡◌, ℕ, [], ◌<◌, get_or, refl, map}
use Rattle.std.specs.List.{range_with_len}
use Rattle.cipher_model.specs.Field.{product_of_bits, power_of_bits, sub_byte, inv_sub_byte}
use Rattle.cipher_model.specs.Aes.{word}
use Rattle.aes_block.specs.declared.tables.TheConstants.{SUB, INV_SBOX}
use Rattle.cipher_model.proofs.Tables.{table_at}

sub0_is : map (λ (x : ℕ). let s : ℕ = sub_byte x in word s 0 0 0) (range_with_len 0 256) ≡ get_or SUB 0 []
unfolding product_of_bits power_of_bits sub_byte
sub0_is = refl

pub sub0_at : (x : ℕ) → x < 256 → get_or (get_or SUB 0 []) x 0 ≡ word (sub_byte x) 0 0 0
sub0_at x h = table_at (λ (x : ℕ). word (sub_byte x) 0 0 0) (get_or SUB 0 []) 256 sub0_is x h

sub1_is : map (λ (x : ℕ). let s : ℕ = sub_byte x in word 0 s 0 0) (range_with_len 0 256) ≡ get_or SUB 1 []
unfolding product_of_bits power_of_bits sub_byte
sub1_is = refl

pub sub1_at : (x : ℕ) → x < 256 → get_or (get_or SUB 1 []) x 0 ≡ word 0 (sub_byte x) 0 0
sub1_at x h = table_at (λ (x : ℕ). word 0 (sub_byte x) 0 0) (get_or SUB 1 []) 256 sub1_is x h

sub2_is : map (λ (x : ℕ). let s : ℕ = sub_byte x in word 0 0 s 0) (range_with_len 0 256) ≡ get_or SUB 2 []
unfolding product_of_bits power_of_bits sub_byte
sub2_is = refl

pub sub2_at : (x : ℕ) → x < 256 → get_or (get_or SUB 2 []) x 0 ≡ word 0 0 (sub_byte x) 0
sub2_at x h = table_at (λ (x : ℕ). word 0 0 (sub_byte x) 0) (get_or SUB 2 []) 256 sub2_is x h

sub3_is : map (λ (x : ℕ). let s : ℕ = sub_byte x in word 0 0 0 s) (range_with_len 0 256) ≡ get_or SUB 3 []
unfolding product_of_bits power_of_bits sub_byte
sub3_is = refl

pub sub3_at : (x : ℕ) → x < 256 → get_or (get_or SUB 3 []) x 0 ≡ word 0 0 0 (sub_byte x)
sub3_at x h = table_at (λ (x : ℕ). word 0 0 0 (sub_byte x)) (get_or SUB 3 []) 256 sub3_is x h

inv_sbox_is : map inv_sub_byte (range_with_len 0 256) ≡ INV_SBOX
unfolding product_of_bits power_of_bits inv_sub_byte
inv_sbox_is = refl

pub inv_sbox_at : (x : ℕ) → x < 256 → get_or INV_SBOX x 0 ≡ inv_sub_byte x
inv_sbox_at x h = table_at inv_sub_byte INV_SBOX 256 inv_sbox_is x h
