-- What one move of a session adds to the logs.
use Rattle.std.specs.Prelude.{ℕ, ◌≡◌, ◌<◌, Bool, true, false, List, [], ◌++◌}
use Rattle.lower_tree.specs.Held.{stores}
use Rattle.tree_model.specs.declared.call.TreeCall.{TreeCall}
use Rattle.session_model.specs.declared.file.FileCall.{FileCall}
use Rattle.session_model.specs.declared.entry.TreeEntry.{TreeEntry}
use Rattle.session_model.specs.declared.entry.FileEntry.{FileEntry}
use Rattle.session_model.specs.declared.session.Doing.TheVariants.{Ends}
use Rattle.session_model.specs.Histories.{Histories}
use Rattle.session_model.specs.Session.{Member, Told, asked, after}
use Rattle.session_model.specs.Runs.{AnsweredTree, AnsweredFile, Moves}
use Rattle.file_model.specs.FileLog.{entries_in}

-- The log of each shard has grown by its part of these entries.
abbrev pub GrowFiles : (ℕ → List FileEntry) → (ℕ → List FileEntry) → List FileEntry → Type 0
GrowFiles logs logs' made = (shard : ℕ) → shard < stores → logs' shard ≡ logs shard ++ entries_in shard made

-- The logs have grown by exactly these histories.
pub record Grows (tree tree' : List TreeEntry) (logs logs' : ℕ → List FileEntry) (made : Histories) : Type 0 where
  pub adds_tree : tree' ≡ tree ++ made.tree
  pub adds_files : GrowFiles logs logs' made.file

-- One move, with the entries that it adds.
pub record Moved (tree tree' : List TreeEntry) (logs logs' : ℕ → List FileEntry) (was is : Member) : Type 0 where
  pub made : Histories
  pub t : Told
  pub moves : Moves was.session made t
  pub grows : Grows tree tree' logs logs' made
  pub goes : is ≡ after was t

-- The session has ended, and nothing happens.
pub record Stays (tree tree' : List TreeEntry) (logs logs' : ℕ → List FileEntry) (was is : Member) : Type 0 where
  pub ended : (asked was.session).doing ≡ Ends
  pub same_tree : tree' ≡ tree
  pub same_files : logs' ≡ logs
  pub same : is ≡ was

abbrev pub ItemDone : Bool → List TreeEntry → List TreeEntry → (ℕ → List FileEntry) → (ℕ → List FileEntry) → Member → Member → Type 0
ItemDone true tree tree' logs logs' was is = Moved tree tree' logs logs' was is
ItemDone false tree tree' logs logs' was is = Stays tree tree' logs logs' was is

-- A session that waits has its answer: by the one entry of its call, or for want of memory by none.
pub record ToldTree (call : TreeCall) (tree tree' : List TreeEntry) (was is : Member) : Type 0 where
  pub made : List TreeEntry
  pub t : Told
  pub answered : AnsweredTree was.session call made [] t
  pub adds : tree' ≡ tree ++ made
  pub goes : is ≡ after was t

pub record ToldFile (node : ℕ) (call : FileCall) (logs logs' : ℕ → List FileEntry) (was is : Member) : Type 0 where
  pub made : List FileEntry
  pub t : Told
  pub answered : AnsweredFile was.session node call [] made t
  pub adds : GrowFiles logs logs' made
  pub goes : is ≡ after was t
