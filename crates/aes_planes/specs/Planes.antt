-- Bit planes: lane l of plane b has, as its bit m, bit b of the byte of block m that stands in lane l. The bytes stand row by row, so that
-- a row is a word of 32 bits.
use Rattle.std.specs.Prelude.{◌≡◌, ◌<◌, ℕ, ◌+◌, ◌*◌, ◌-◌, ◌/◌, ◌%◌, ◌==◌, if◌then◌else◌, List, [], ◌∷◌, slice_index, slice_index_or}
use Rattle.std.specs.Int.{bit_at}
use Rattle.cipher_model.specs.Aes.{each_byte, round_key}
use Rattle.aes_planes.specs.declared.planes.Planes.{Planes}

-- the lane of byte i, and the byte of lane i: byte r + 4 * c of a state stands in row r and column c (FIPS 197, 3.4)
abbrev pub lane : ℕ → ℕ
lane i = i / 4 + 4 * (i % 4)

-- the bytes of a block row by row, or of such rows column by column
abbrev pub by_rows : List ℕ → List ℕ
by_rows b = each_byte (λ i. slice_index b (lane i))

-- the vector whose lane of each byte i is that of byte f i
abbrev pub moved_lanes : (ℕ → ℕ) → List ℕ → List ℕ
moved_lanes f p = each_byte (λ l. slice_index p (lane (f (lane l))))

-- bit m of lane i
abbrev pub bit_of : List ℕ → ℕ → ℕ → ℕ
bit_of p i m = bit_at (slice_index p i) m

-- the byte with these bits, lowest first
abbrev pub from_bits : ℕ → ℕ → ℕ → ℕ → ℕ → ℕ → ℕ → ℕ → ℕ
from_bits a b c d e f g h = a + 2 * (b + 2 * (c + 2 * (d + 2 * (e + 2 * (f + 2 * (g + 2 * h))))))

-- bit m of lane i of each plane, as a byte
abbrev pub byte_in : Planes → ℕ → ℕ → ℕ
byte_in q i m = from_bits (bit_of q.p0 i m) (bit_of q.p1 i m) (bit_of q.p2 i m) (bit_of q.p3 i m) (bit_of q.p4 i m) (bit_of q.p5 i m) (bit_of q.p6 i m) (bit_of q.p7 i m)

-- block m
abbrev pub block_in : Planes → ℕ → List ℕ
block_in q m = each_byte (λ i. byte_in q (lane i) m)

-- bit m of lane i of the first of two vectors whose bits, n places apart, were exchanged, and of the second
abbrev pub first_exchanged : ℕ → List ℕ → List ℕ → ℕ → ℕ → ℕ
first_exchanged n a b i m = if m / n % 2 == 0 then bit_of a i m else bit_of b i (m - n)

abbrev pub second_exchanged : ℕ → List ℕ → List ℕ → ℕ → ℕ → ℕ
second_exchanged n a b i m = if m / n % 2 == 0 then bit_of a i (m + n) else bit_of b i m

-- vector m of the eight
abbrev pub plane : Planes → ℕ → List ℕ
plane q m = slice_index_or (q.p0 ∷ q.p1 ∷ q.p2 ∷ q.p3 ∷ q.p4 ∷ q.p5 ∷ q.p6 ∷ q.p7 ∷ []) m []

-- the first block in the planes of the first round key
abbrev pub first_block : List Planes → List ℕ
first_block [] = []
first_block (q ∷ rounds) = block_in q 0

-- each block of the planes of round r is the round key r of the key k
abbrev pub AreRoundKeys : List ℕ → List Planes → Type 0
AreRoundKeys k rounds = (r : ℕ) → r < 11 → (d : Planes) → (m : ℕ) → m < 8 → block_in (slice_index_or rounds r d) m ≡ round_key k r
