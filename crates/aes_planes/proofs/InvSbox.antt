-- The circuit of InvSubBytes against its formula, on all bytes.
use Rattle.std.proofs.Common.{◌≡◌, ℕ, ◌<◌, List, [], ◌∷◌, get_or, map, refl}
use Rattle.std.specs.List.{range_with_len}
use Rattle.cipher_model.specs.Field.{product_of_bits, power_of_bits, inv_sub_byte}
use Rattle.aes_planes.specs.Planes.{from_bits}
use Rattle.aes_planes.proofs.Circuit.{Gate, xor, and, flip, run, Trace, pushed}
use Rattle.aes_planes.proofs.Bits.{bits_of, circuit_at}

-- the gates after the eight bits of a byte, of which the lowest came first
abbrev pub inv_sbox_gates : List Gate
inv_sbox_gates =
    flip 7 ∷ flip 7 ∷ flip 4 ∷ flip 4 ∷ xor 7 8 ∷ xor 5 8 ∷ xor 10 5 ∷ xor 3 10
    ∷ xor 1 11 ∷ xor 1 9 ∷ xor 0 1 ∷ xor 1 15 ∷ xor 0 7 ∷ xor 8 10 ∷ xor 5 12 ∷ xor 0 7
    ∷ xor 0 2 ∷ xor 0 14 ∷ xor 1 16 ∷ xor 1 13 ∷ xor 1 5 ∷ xor 21 26 ∷ xor 0 4 ∷ xor 0 6
    ∷ xor 0 14 ∷ xor 2 20 ∷ xor 1 5 ∷ and 7 2 ∷ and 22 18 ∷ xor 0 1 ∷ and 12 6 ∷ xor 0 3
    ∷ and 17 11 ∷ and 25 24 ∷ xor 0 1 ∷ and 19 18 ∷ xor 0 3 ∷ and 32 14 ∷ and 26 11 ∷ xor 0 1
    ∷ and 27 29 ∷ xor 0 3 ∷ xor 12 2 ∷ xor 11 1 ∷ xor 9 4 ∷ xor 8 3 ∷ xor 3 20 ∷ xor 3 40
    ∷ xor 3 29 ∷ xor 3 35 ∷ xor 3 2 ∷ and 4 2 ∷ xor 2 0 ∷ and 2 0 ∷ xor 0 6 ∷ xor 6 5
    ∷ xor 8 4 ∷ and 0 1 ∷ xor 0 8 ∷ xor 10 0 ∷ xor 7 1 ∷ and 11 0 ∷ xor 0 2 ∷ xor 10 1
    ∷ and 9 0 ∷ xor 14 0 ∷ xor 0 3 ∷ xor 12 8 ∷ xor 13 2 ∷ xor 10 6 ∷ xor 2 3 ∷ and 1 46
    ∷ and 9 62 ∷ and 14 49 ∷ and 5 53 ∷ and 9 66 ∷ and 21 59 ∷ and 9 54 ∷ and 7 51 ∷ and 12 68
    ∷ and 10 60 ∷ and 18 75 ∷ and 23 64 ∷ and 14 68 ∷ and 18 76 ∷ and 30 69 ∷ and 18 81 ∷ and 16 75
    ∷ and 21 75 ∷ xor 2 11 ∷ xor 0 6 ∷ xor 0 6 ∷ xor 0 4 ∷ xor 17 13 ∷ xor 12 20 ∷ xor 1 22
    ∷ xor 24 19 ∷ xor 2 1 ∷ xor 5 18 ∷ xor 23 20 ∷ xor 2 25 ∷ xor 0 15 ∷ xor 19 13 ∷ xor 0 11
    ∷ xor 11 29 ∷ xor 18 24 ∷ xor 3 0 ∷ xor 7 2 ∷ xor 19 27 ∷ xor 7 26 ∷ xor 11 36 ∷ xor 1 23
    ∷ xor 13 35 ∷ xor 2 41 ∷ xor 10 19 ∷ xor 24 3 ∷ xor 20 19 ∷ xor 4 42 ∷ xor 18 21 ∷ xor 2 26
    ∷ xor 5 1 ∷ xor 19 12 ∷ xor 32 0 ∷ xor 0 38 ∷ []

abbrev pub byte_out : List ℕ → ℕ
byte_out vs = from_bits (get_or vs 17 0) (get_or vs 16 0) (get_or vs 4 0) (get_or vs 3 0) (get_or vs 10 0) (get_or vs 8 0) (get_or vs 0 0) (get_or vs 6 0)

inv_sbox_is : map (λ (x : ℕ). byte_out (run inv_sbox_gates (bits_of x))) (range_with_len 0 256) ≡ map inv_sub_byte (range_with_len 0 256)
unfolding product_of_bits power_of_bits inv_sub_byte run
inv_sbox_is = refl

-- the values of the gates after eight bits make InvSubBytes of their byte
pub inv_sbox_at : (a b c d e f g h : ℕ) (ts : List ℕ) → a < 2 → b < 2 → c < 2 → d < 2 → e < 2 → f < 2 → g < 2 → h < 2
    → Trace inv_sbox_gates (h ∷ g ∷ f ∷ e ∷ d ∷ c ∷ b ∷ a ∷ []) ts
    → byte_out (pushed inv_sbox_gates (h ∷ g ∷ f ∷ e ∷ d ∷ c ∷ b ∷ a ∷ []) ts) ≡ inv_sub_byte (from_bits a b c d e f g h)
inv_sbox_at = circuit_at inv_sbox_gates byte_out inv_sub_byte inv_sbox_is
