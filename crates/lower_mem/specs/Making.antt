-- The maker of parts in memory.
use Rattle.std.specs.Prelude.{ℕ, List, slice_get, unwrap_or}
use Rattle.lower_mem.specs.Plan.{Plan}

-- Which of its calls fail, which calls fail on the names and the bodies that the next split makes, and the tallies.
pub record MakerInMemory : Type 0 where
  pub plan : Plan
  pub names : List ℕ
  pub changes : List (ℕ × ℕ)
  pub reads : List (ℕ × ℕ)
  pub tallies : List ℕ

-- the tally of a part, 0 of one that is none
abbrev pub tally_at : List ℕ → ℕ → ℕ
tally_at tallies part = unwrap_or (slice_get tallies part) 0

abbrev pub tally_in : MakerInMemory → ℕ → ℕ
tally_in maker = tally_at maker.tallies
