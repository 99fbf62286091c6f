-- The length of a packet's body: one octet (RFC 2440, 4.2.2.1) or two (4.2.2.2).
use Rattle.std.specs.Prelude.{ℕ, ◌+◌, ◌-◌, ◌*◌, ◌/◌, ◌%◌, List, [], ◌∷◌, Result, Ok, Err, nat_lt, if◌then◌else◌}
use Rattle.packet_model.specs.declared.length.LengthFault.{LengthFault}
use Rattle.packet_model.specs.declared.length.LengthFault.TheVariants.{Cut, First}

-- the octets of a length of at most MAX_LENGTH
abbrev pub length_octets : ℕ → List ℕ
length_octets n = if nat_lt n 192 then n ∷ [] else (192 + (n - 192) / 256) ∷ (n - 192) % 256 ∷ []

-- the length whose first of two octets is this, and how many octets it has
abbrev pub two_octets : ℕ → List ℕ → Result (ℕ × ℕ) LengthFault
two_octets first [] = Err Cut
two_octets first (second ∷ rest) = Ok ((first - 192) * 256 + second + 192, 2)

-- the length at the front of some octets, and how many octets it has
abbrev pub length_at : List ℕ → Result (ℕ × ℕ) LengthFault
length_at [] = Err Cut
length_at (first ∷ rest) = if nat_lt first 192 then Ok (first, 1) else if nat_lt first 224 then two_octets first rest else Err (First first)
