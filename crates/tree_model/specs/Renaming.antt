-- The two paths of a rename, and their octets.
use Rattle.std.specs.Prelude.{ℕ, ◌+◌, ◌<◌, Bool, List, length, take, drop, ◌==◌}
use Rattle.std.specs.List.{position_or_len}
use Rattle.tree_model.specs.Path.{parts_behind, KeepsNames}

-- The path that an entry has, and the path that it gets.
pub record Paths : Type 0 where
  pub old : List (List ℕ)
  pub new : List (List ℕ)

abbrev pub is_zero : ℕ → Bool
is_zero c = c == 0

-- the octets before the first 0, and those behind it
abbrev pub before_zero : List ℕ → List ℕ
before_zero octets = take (position_or_len is_zero octets) octets

abbrev pub behind_zero : List ℕ → List ℕ
behind_zero octets = drop (position_or_len is_zero octets + 1) octets

-- the paths of octets in which a 0 stands between the two
abbrev pub paths_in : List ℕ → Paths
paths_in octets = record { old = parts_behind (before_zero octets); new = parts_behind (behind_zero octets) }

-- A 0 stands between the names of two paths.
pub record KeepsPaths (octets : List ℕ) : Type 0 where
  pub zero : position_or_len is_zero octets < length octets
  pub old : KeepsNames (before_zero octets)
  pub new : KeepsNames (behind_zero octets)
