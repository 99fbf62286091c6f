-- The histories of a run: the turns of the tree, and the turns of all files.
use Rattle.std.specs.Prelude.{ℕ, ◌==◌, List, [], ◌++◌, filter}
use Rattle.session_model.specs.declared.entry.TreeEntry.{TreeEntry}
use Rattle.session_model.specs.declared.entry.FileEntry.{FileEntry}

pub record Histories : Type 0 where
  pub tree : List TreeEntry
  pub file : List FileEntry

abbrev pub nothing : Histories
nothing = record { tree = []; file = [] }

-- one history behind another, in each list
abbrev pub joined : Histories → Histories → Histories
joined first rest = record { tree = first.tree ++ rest.tree; file = first.file ++ rest.file }

-- the entries of one session
abbrev pub entries_of : ℕ → Histories → Histories
entries_of session all = record { tree = filter (λ e. e.session == session) all.tree; file = filter (λ e. e.session == session) all.file }
