-- What a run writes whose input is no job.
use Rattle.std.specs.Prelude.{ℕ, List, [], ◌∷◌, codes}
use Rattle.text_model.specs.Line.{line, number}

-- the place of the first octet of the first line that isn't good where it stands
abbrev pub bad_job_text : ℕ → List ℕ
bad_job_text place = line (codes "badjob" ∷ number place ∷ [])

abbrev pub too_long_text : List ℕ
too_long_text = line (codes "toolong" ∷ [])
