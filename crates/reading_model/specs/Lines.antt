-- A text is cut at an octet, and so into lines.
use Rattle.std.specs.Prelude.{ℕ, ◌+◌, List, take, drop, Option, ◌==◌}
use Rattle.std.specs.List.{position}
use Rattle.std.specs.Option.{option_map}

-- what stands before the first such octet, and what stands behind it
unfoldable pub cut_in : ℕ → List ℕ → Option (List ℕ × List ℕ)
cut_in octet text = option_map (λ index. (take index text, drop (index + 1) text)) (position (λ c. c == octet) text)

-- the first line, without its line end, and what stands behind it
abbrev pub line_in : List ℕ → Option (List ℕ × List ℕ)
line_in text = cut_in 10 text
