-- How jobs and reports spell their lines and fields.
use Rattle.std.specs.Prelude.{ℕ, List, [], ◌∷◌, ◌++◌, Bool, ◌&&◌, ◌||◌, not, nat_le, ◌==◌, if◌then◌else◌}
use Rattle.std.specs.List.{flat_map, join_with_byte}
use Rattle.std.specs.Fmt.{decimal}
use Rattle.hex.specs.Hex.{encode_lower}

-- fields with one space between them, and a line end
abbrev pub line : List (List ℕ) → List ℕ
line fields = join_with_byte 32 fields ++ 10 ∷ []

-- in decimal, without a leading zero
abbrev pub number : ℕ → List ℕ
number n = decimal n

-- two lower-case hexadecimal digits for each octet
abbrev pub hex : List ℕ → List ℕ
hex octets = encode_lower octets

-- The octets from `!` to `~` stand for themselves in a name, but for `%` and the slash. Every other octet is spelled `%` and its two digits.
abbrev pub is_plain : ℕ → Bool
is_plain c = nat_le 33 c && nat_le c 126 && not (c == 37) && not (c == 47)

-- an octet that stands for itself in a path: a slash, or one that does so in a name
abbrev pub is_plain_in_path : ℕ → Bool
is_plain_in_path c = is_plain c || c == 47

abbrev pub name_octet : ℕ → List ℕ
name_octet c = if is_plain c then c ∷ [] else 37 ∷ hex (c ∷ [])

abbrev pub name : List ℕ → List ℕ
name octets = flat_map name_octet octets

abbrev pub slash_name : List ℕ → List ℕ
slash_name octets = 47 ∷ name octets

-- a slash for the root, or a slash and a name for each part
abbrev pub path : List (List ℕ) → List ℕ
path [] = 47 ∷ []
path (first ∷ names) = flat_map slash_name (first ∷ names)
