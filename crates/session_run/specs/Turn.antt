-- What a call adds to a log.
use Rattle.std.specs.Prelude.{ℕ, ◌≡◌, ◌≢◌, ◌%◌, List, [], ◌∷◌, ◌++◌}
use Rattle.lower_tree.specs.Held.{stores}
use Rattle.tree_model.specs.declared.call.TreeCall.{TreeCall}
use Rattle.tree_model.specs.declared.call.TreeReply.{TreeReply}
use Rattle.session_model.specs.declared.file.FileCall.{FileCall}
use Rattle.session_model.specs.declared.file.FileReply.{FileReply}
use Rattle.session_model.specs.declared.entry.TreeEntry.{TreeEntry}
use Rattle.session_model.specs.declared.entry.FileEntry.{FileEntry}

-- The log has grown by exactly one entry, which tells this call and its reply.
pub record AddsTurn (session op : ℕ) (call : TreeCall) (reply : TreeReply) (old new : List TreeEntry) : Type 0 where
  pub before : ℕ
  pub after : ℕ
  pub adds : new ≡ old ++ record { session = session; op = op; call = call; reply = reply; before = before; after = after } ∷ []

-- The log of the node's shard has grown by exactly one entry, which tells this call on its file and the reply; every other shard's log stays.
pub record AddsFileTurn (session op node : ℕ) (call : FileCall) (reply : FileReply) (old new : ℕ → List FileEntry) : Type 0 where
  pub before : ℕ
  pub after : ℕ
  pub adds : new (node % stores) ≡ old (node % stores) ++ record { session = session; op = op; node = node; call = call; reply = reply; before = before; after = after } ∷ []
  pub others : (shard : ℕ) → shard ≢ node % stores → new shard ≡ old shard
