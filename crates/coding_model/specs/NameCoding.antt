-- The coding of octets as letters: two lists of bits, 8 for an octet and 6 for a letter, the highest bit first. Behind the last octet
-- stand zero bits, up to the next multiple of 24.
use Rattle.std.specs.Prelude.{ℕ, zero, suc, ◌+◌, ◌-◌, ◌*◌, ◌/◌, ◌%◌, ◌^◌, ◌<◌, ◌==◌, List, [], ◌∷◌, ◌++◌, length, map, replicate, fold, slice_index, slice_range, Option, Some, None, Result, Ok, Err, if◌then◌else◌}
use Rattle.std.specs.List.{range_with_len, position, position_or_len, AllByRecursion}
use Rattle.names_model.specs.declared.fault.CodingFault.{CodingFault}
use Rattle.names_model.specs.declared.fault.CodingFault.TheVariants.{Length, Letter}
use Rattle.coding_model.specs.declared.constants.TheConstants.{LETTERS}

-- the bits of a number, so many of them, the highest first
abbrev pub bits : ℕ → ℕ → List ℕ
bits zero n = []
bits (suc k) n = n / 2 ^ k % 2 ∷ bits k n

-- the number that has these bits
abbrev pub number : List ℕ → ℕ
number = fold (λ n bit. 2 * n + bit) 0

-- the bits of numbers, so many of each, and back
abbrev pub all_bits : ℕ → List ℕ → List ℕ
all_bits width [] = []
all_bits width (n ∷ ns) = bits width n ++ all_bits width ns

abbrev pub numbers : ℕ → List ℕ → List ℕ
numbers width bs = map (λ i. number (slice_range bs (width * i) (width * i + width))) (range_with_len 0 (length bs / width))

-- how many more make a multiple of m
abbrev pub missing : ℕ → ℕ → ℕ
missing m n = (m - n % m) % m

abbrev pub filled : ℕ → List ℕ → List ℕ
filled m bs = bs ++ replicate (missing m (length bs)) 0

-- ---- letters

unfoldable pub letter : ℕ → ℕ
letter n = slice_index LETTERS n

-- what a letter stands for; of an octet that is no letter, 64
unfoldable pub letter_value : ℕ → ℕ
letter_value octet = position_or_len (λ l. l == octet) LETTERS

-- each is a letter
abbrev pub AreLetters : List ℕ → Type 0
AreLetters letters = AllByRecursion (λ c. letter_value c < 64) letters

-- the letters of octets
unfoldable pub coded : List ℕ → List ℕ
coded octets = map letter (numbers 6 (filled 24 (all_bits 8 octets)))

-- the octets of letters
unfoldable pub octets_of : List ℕ → List ℕ
octets_of letters = numbers 8 (all_bits 6 (map letter_value letters))

abbrev pub octets_unless : List ℕ → Option ℕ → Result (List ℕ) CodingFault
octets_unless letters (Some i) = Err (Letter i (slice_index letters i))
octets_unless letters None = Ok (octets_of letters)

-- what octets letters code, or why they code none
abbrev pub decoded : List ℕ → Result (List ℕ) CodingFault
decoded letters =
    if length letters % 4 == 0
    then octets_unless letters (position (λ c. letter_value c == 64) letters)
    else Err (Length (length letters))
