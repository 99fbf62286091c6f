-- SubBytes at one byte and its inverse, computed at each byte.
use Rattle.std.proofs.Common.{◌≡◌, ℕ, ◌<◌, true, ltb, map, refl}
use Rattle.std.specs.List.{range_with_len, list_all}
use Rattle.cipher_model.specs.Field.{product_of_bits, power_of_bits, sub_byte, inv_sub_byte}
use Rattle.cipher_model.proofs.Tables.{byte_at, itself_at}

sub_byte_bytes : list_all (λ (y : ℕ). ltb y 256) (map sub_byte (range_with_len 0 256)) ≡ true
unfolding product_of_bits power_of_bits sub_byte
sub_byte_bytes = refl

-- SubBytes gives octets
pub sub_byte-lt : (x : ℕ) → x < 256 → sub_byte x < 256
sub_byte-lt = byte_at sub_byte sub_byte_bytes

inv_sub_byte_bytes : list_all (λ (y : ℕ). ltb y 256) (map inv_sub_byte (range_with_len 0 256)) ≡ true
unfolding product_of_bits power_of_bits inv_sub_byte
inv_sub_byte_bytes = refl

-- InvSubBytes gives octets
pub inv_sub_byte-lt : (x : ℕ) → x < 256 → inv_sub_byte x < 256
inv_sub_byte-lt = byte_at inv_sub_byte inv_sub_byte_bytes

undone : map (λ (x : ℕ). inv_sub_byte (sub_byte x)) (range_with_len 0 256) ≡ range_with_len 0 256
unfolding product_of_bits power_of_bits sub_byte inv_sub_byte
undone = refl

-- InvSubBytes undoes SubBytes
pub inv_sub_byte-sub_byte : (x : ℕ) → x < 256 → inv_sub_byte (sub_byte x) ≡ x
inv_sub_byte-sub_byte = itself_at (λ (x : ℕ). inv_sub_byte (sub_byte x)) undone

redone : map (λ (x : ℕ). sub_byte (inv_sub_byte x)) (range_with_len 0 256) ≡ range_with_len 0 256
unfolding product_of_bits power_of_bits sub_byte inv_sub_byte
redone = refl

pub sub_byte-inv_sub_byte : (x : ℕ) → x < 256 → sub_byte (inv_sub_byte x) ≡ x
sub_byte-inv_sub_byte = itself_at (λ (x : ℕ). sub_byte (inv_sub_byte x)) redone
