-- Histories of any state: the tree's, a file's.
use Rattle.std.specs.Prelude.{ℕ, ◌≡◌, List, [], ◌∷◌}

-- from old, these turns one behind another lead to new
abbrev pub IsLegal : {S E : Type 0} → (S → E → S → Type 0) → S → List E → S → Type 0
IsLegal IsTurn old [] new = new ≡ old
IsLegal {S} IsTurn old (e ∷ log) new = (mid : S) × IsTurn old e mid × IsLegal IsTurn mid log new

-- A count of faults before a turn, and after it.
pub record Counts : Type 0 where
  pub before : ℕ
  pub after : ℕ

-- The first turn's count begins at first, each later one's where that of the turn before ended, and the last one's ends at last.
abbrev pub CountsFrom : {E : Type 0} → (E → Counts) → ℕ → List E → ℕ → Type 0
CountsFrom counts first [] last = last ≡ first
CountsFrom counts first (e ∷ log) last = ((counts e).before ≡ first) × CountsFrom counts (counts e).after log last
