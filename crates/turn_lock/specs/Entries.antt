-- The entries of a chain.
use Rattle.std.specs.Prelude.{List, [], ◌∷◌, ◌++◌}
use Rattle.turn_lock.specs.declared.chain.Node.{Node, End, More'}

-- from the first to the last
abbrev pub entries_of : {E : Type 0} → Node E → List E
entries_of End = []
entries_of (More' entry link below) = entries_of below ++ entry ∷ []
