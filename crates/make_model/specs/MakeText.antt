-- The text that sums up a `make`.
use Rattle.std.specs.Prelude.{ℕ, List, [], ◌∷◌, ◌++◌, length, codes}
use Rattle.sha2.specs.Sha256.{sha256}
use Rattle.text_model.specs.Line.{line, number, hex}

-- its number, the length of the image that came out of job A, and the length and the SHA-256 (FIPS 180-4, 6.2) of the report of job B
abbrev pub make_text : ℕ → ℕ → List ℕ → List ℕ
make_text n image_length report =
    line (codes "ecryptfs-make" ∷ codes "1" ∷ [])
    ++ line (codes "number" ∷ number n ∷ [])
    ++ line (codes "image" ∷ number image_length ∷ [])
    ++ line (codes "report" ∷ number (length report) ∷ [])
    ++ line (codes "sha256" ∷ hex (sha256 report) ∷ [])
    ++ line (codes "end" ∷ [])
