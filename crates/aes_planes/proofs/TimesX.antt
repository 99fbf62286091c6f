-- The circuit of the product by x against its formula, on all bytes.
use Rattle.std.proofs.Common.{◌≡◌, ℕ, ◌<◌, List, [], ◌∷◌, get_or, map, refl}
use Rattle.std.specs.List.{range_with_len}
use Rattle.cipher_model.specs.Field.{times_x}
use Rattle.aes_planes.specs.Planes.{from_bits}
use Rattle.aes_planes.proofs.Circuit.{Gate, xor, run, Trace, pushed}
use Rattle.aes_planes.proofs.Bits.{bits_of, circuit_at}

abbrev pub times_x_gates : List Gate
times_x_gates = xor 7 0 ∷ xor 6 1 ∷ xor 6 2 ∷ []

abbrev pub byte_out : List ℕ → ℕ
byte_out vs = from_bits (get_or vs 3 0) (get_or vs 2 0) (get_or vs 9 0) (get_or vs 1 0) (get_or vs 0 0) (get_or vs 6 0) (get_or vs 5 0) (get_or vs 4 0)

times_x_is : map (λ (x : ℕ). byte_out (run times_x_gates (bits_of x))) (range_with_len 0 256) ≡ map times_x (range_with_len 0 256)
unfolding run
times_x_is = refl

pub times_x_at : (a b c d e f g h : ℕ) (ts : List ℕ) → a < 2 → b < 2 → c < 2 → d < 2 → e < 2 → f < 2 → g < 2 → h < 2
    → Trace times_x_gates (h ∷ g ∷ f ∷ e ∷ d ∷ c ∷ b ∷ a ∷ []) ts
    → byte_out (pushed times_x_gates (h ∷ g ∷ f ∷ e ∷ d ∷ c ∷ b ∷ a ∷ []) ts) ≡ times_x (from_bits a b c d e f g h)
times_x_at = circuit_at times_x_gates byte_out times_x times_x_is
