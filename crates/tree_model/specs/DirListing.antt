-- The entries of a directory, as a list tells them.
use Rattle.std.specs.Prelude.{ℕ, List, [], ◌∷◌}
use Rattle.lower_model.specs.declared.kind.Kind.{Kind}

-- An entry as a list tells it.
pub record Shown : Type 0 where
  pub kind : Kind
  pub name : List ℕ

-- the entries of these kinds and names
abbrev pub listed : List Kind → List (List ℕ) → List Shown
listed [] names = []
listed (kind ∷ kinds) [] = []
listed (kind ∷ kinds) (name ∷ names) = record { kind = kind; name = name } ∷ listed kinds names
