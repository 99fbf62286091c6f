-- The field of 256 elements (FIPS 197, 4) and the substitution of one byte (FIPS 197, 5.1.1 and 5.3.2). A byte is a number below 256.
use Rattle.std.specs.Prelude.{ℕ, zero, suc, ◌*◌, ◌/◌, ◌%◌, ◌==◌, if◌then◌else◌, bit_xor}
use Rattle.std.specs.Int.{w8, rotate_left}

-- b times x, modulo x^8 + x^4 + x^3 + x + 1 (4.2.1)
abbrev pub times_x : ℕ → ℕ
times_x b = bit_xor (2 * b % 256) (27 * (b / 128))

-- a times the polynomial whose coefficients are the low n bits of b
unfoldable pub product_of_bits : ℕ → ℕ → ℕ → ℕ
product_of_bits zero a b = 0
product_of_bits (suc n) a b = bit_xor (b % 2 * a) (product_of_bits n (times_x a) (b / 2))

-- the product of two bytes (4.2)
abbrev pub product : ℕ → ℕ → ℕ
product a b = product_of_bits 8 a b

-- a to the power of the number that the low n bits of e make
unfoldable pub power_of_bits : ℕ → ℕ → ℕ → ℕ
power_of_bits zero a e = 1
power_of_bits (suc n) a e = product (if e % 2 == 1 then a else 1) (power_of_bits n (product a a) (e / 2))

-- a to the power e, which is below 256
abbrev pub power : ℕ → ℕ → ℕ
power a e = power_of_bits 8 a e

-- the multiplicative inverse of a, and 0 at 0: each of the 255 other elements has the power 255 equal to 1
abbrev pub inverse : ℕ → ℕ
inverse a = power a 254

-- bit i of the result is the sum of the bits i, i + 4, i + 5, i + 6 and i + 7 of b, modulo 8, and of the constant 0x63
abbrev pub affine_map : ℕ → ℕ
affine_map b =
    bit_xor
    (bit_xor (bit_xor (bit_xor b (rotate_left w8 b 4)) (bit_xor (rotate_left w8 b 3) (rotate_left w8 b 2))) (rotate_left w8 b 1))
    0x63

-- bit i of the result is the sum of the bits i + 2, i + 5 and i + 7 of b, modulo 8, and of the constant 0x05
abbrev pub inv_affine_map : ℕ → ℕ
inv_affine_map b = bit_xor (bit_xor (bit_xor (rotate_left w8 b 6) (rotate_left w8 b 3)) (rotate_left w8 b 1)) 0x05

-- SubBytes at one byte: the inverse, and then the affine map (5.1.1)
unfoldable pub sub_byte : ℕ → ℕ
sub_byte a = affine_map (inverse a)

-- InvSubBytes at one byte: the inverse of the affine map, and then the inverse (5.3.2)
unfoldable pub inv_sub_byte : ℕ → ℕ
inv_sub_byte b = inverse (inv_affine_map b)
