-- Lower names that may have a tilde in front.
use Rattle.std.specs.Prelude.{ℕ, List, [], ◌∷◌, ◌==◌, if◌then◌else◌}

-- the octets behind a tilde in front, or all of them where there is none
abbrev pub without_tilde : List ℕ → List ℕ
without_tilde [] = []
without_tilde (c ∷ cs) = if c == 126 then cs else c ∷ cs
