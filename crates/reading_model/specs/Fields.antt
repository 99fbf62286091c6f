-- How a field of a line is read.
use Rattle.std.specs.Prelude.{ℕ, ◌≡◌, ◌<◌, ◌+◌, ◌-◌, ◌*◌, ◌^◌, List, [], ◌∷◌, length, slice_index, Option, Some, None, option_and_then, MatchOption, Bool, IsTrue, false, not, nat_lt, nat_le, ◌==◌, ◌&&◌, ◌||◌, if◌then◌else◌}
use Rattle.std.specs.List.{list_all, slice_split}
use Rattle.std.specs.Char.{is_ascii_digit}
use Rattle.std.specs.Option.{option_map}
use Rattle.std.specs.Result.{result_ok}
use Rattle.hex.specs.Hex.{decode_of, decode_sized}
use Rattle.lower_model.specs.Name.{is_name}
use Rattle.text_model.specs.Line.{is_plain}

-- What a reader answers: the value that the text spells, or that it spells none.
abbrev pub Reads : {A : Type 0} → (A → List ℕ) → (A → Type 0) → List ℕ → Option A → Type 0
Reads spell Fits text (Some value) = (text ≡ spell value) × Fits value
Reads {A} spell Fits text None = (value : A) → Fits value → text ≡ spell value → ⊥

infixl 10 ◌>>=◌
abbrev pub ◌>>=◌ : {A B : Type 0} → Option A → (A → Option B) → Option B
o >>= f = option_and_then f o

-- ---- numbers

abbrev pub IsU64 : ℕ → Type 0
IsU64 n = n < 2 ^ 64

-- the value of digits behind digits of this value
abbrev pub value_behind : ℕ → List ℕ → ℕ
value_behind n [] = n
value_behind n (c ∷ cs) = value_behind (n * 10 + (c - 48)) cs

-- digits, the first of them no zero that others follow
abbrev pub is_number : List ℕ → Bool
is_number [] = false
is_number (c ∷ cs) = list_all is_ascii_digit (c ∷ cs) && (not (c == 48) || length cs == 0)

-- a number of any size
unfoldable pub any_number_in : List ℕ → Option ℕ
any_number_in text = if is_number text then Some (value_behind 0 text) else None

-- a number below 2^64
unfoldable pub number_in : List ℕ → Option ℕ
number_in text = if is_number text && nat_lt (value_behind 0 text) (2 ^ 64) then Some (value_behind 0 text) else None

-- ---- octets in hexadecimal

abbrev pub is_hex_digit : ℕ → Bool
is_hex_digit c = (nat_le 48 c && nat_le c 57) || (nat_le 97 c && nat_le c 102)

abbrev pub is_no_capital : ℕ → Bool
is_no_capital c = not (nat_le 65 c && nat_le c 90)

unfoldable pub hex_in : List ℕ → Option (List ℕ)
hex_in text = if list_all is_hex_digit text then result_ok (decode_of text) else None

-- this many octets
unfoldable pub sized_hex_in : ℕ → List ℕ → Option (List ℕ)
sized_hex_in count text = if list_all is_hex_digit text then result_ok (decode_sized text count) else None

-- ---- names

abbrev pub IsName : List ℕ → Type 0
IsName name = IsTrue (is_name name)

-- the octet that two digits spell, which is none that stands for itself
abbrev pub escaped_in : List ℕ → Option ℕ
escaped_in digits = sized_hex_in 1 digits >>= λ octet. if is_plain (slice_index octet 0) then None else Some (slice_index octet 0)

-- an octet, and what is read behind it
abbrev pub put : ℕ → Option (List ℕ) → Option (List ℕ)
put octet octets = option_map (λ list. octet ∷ list) octets

-- the octets that a whole text spells
unfoldable pub octets_in : List ℕ → Option (List ℕ)
octets_in [] = Some []
octets_in (c ∷ []) = if is_plain c then Some (c ∷ []) else None
octets_in (c ∷ d ∷ []) = if is_plain c then put c (octets_in (d ∷ [])) else None
octets_in (c ∷ high ∷ low ∷ rest) =
    if is_plain c then put c (octets_in (high ∷ low ∷ rest)) else if c == 37 then (escaped_in (high ∷ low ∷ []) >>= λ octet. put octet (octets_in rest)) else None

-- The octet that is spelled first, and what stands behind it; none where no octet is spelled first.
abbrev pub IsFirstOctet : List ℕ → Option (ℕ × List ℕ) → Type 0
IsFirstOctet text first = MatchOption first (octets_in text ≡ None) (λ x. octets_in text ≡ put x.0 (octets_in x.1))

abbrev pub name_in : List ℕ → Option (List ℕ)
name_in text = octets_in text >>= λ octets. if is_name octets then Some octets else None

-- ---- paths

-- the value of each text, where each spells one
unfoldable pub each_in : {A : Type 0} → (List ℕ → Option A) → List (List ℕ) → Option (List A)
each_in read [] = Some []
each_in read (text ∷ texts) = do
  value ← read text
  values ← each_in read texts
  Some (value ∷ values)

-- a slash alone, or names with a slash before each
unfoldable pub path_in : List ℕ → Option (List (List ℕ))
path_in [] = None
path_in (c ∷ text) =
    if not (c == 47) then None
    else if length text == 0 then Some []
    else each_in name_in (slice_split (λ c. c == 47) text)
