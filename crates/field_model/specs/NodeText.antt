-- How what a node is and holds is spelled.
use Rattle.std.specs.Prelude.{ℕ, List, [], ◌∷◌, codes}
use Rattle.lower_model.specs.declared.kind.Kind.{Kind}
use Rattle.lower_model.specs.declared.kind.Kind.TheVariants.{Dir, File}
use Rattle.text_model.specs.Line.{hex}

abbrev pub kind_letter : Kind → List ℕ
kind_letter Dir = codes "d"
kind_letter File = codes "f"

-- the octets of a file, or `-` for none
abbrev pub data_field : List ℕ → List ℕ
data_field [] = codes "-"
data_field (first ∷ rest) = hex (first ∷ rest)
