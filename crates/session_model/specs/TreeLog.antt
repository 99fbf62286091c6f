-- Which lists of turns a plain tree could have had.
use Rattle.std.specs.Prelude.{ℕ, ◌≡◌, ◌≤◌, List}
use Rattle.answer_model.specs.Count.{Rose}
use Rattle.tree_model.specs.declared.call.TreeCall.{TreeCall}
use Rattle.tree_model.specs.declared.call.TreeReply.{TreeReply}
use Rattle.tree_model.specs.declared.call.TreeReply.TheVariants as replies
use Rattle.tree_model.specs.PlainTree.{PlainTree, IsNoRefusal, step}
use Rattle.session_model.specs.declared.entry.TreeEntry.{TreeEntry}
use Rattle.session_model.specs.Legal.{Counts, IsLegal, CountsFrom}

-- The call may answer this, and the tree goes on from old to new: by the step, or unchanged for want of memory or for a fault that the count shows.
abbrev pub Turns : TreeReply → TreeCall → ℕ → ℕ → PlainTree → PlainTree → Type 0
Turns replies.Memory call before after old new = new ≡ old
Turns replies.LowerFault call before after old new = Rose before after × IsNoRefusal (step old call).reply × (new ≡ old)
Turns reply call before after old new = step old call ≡ record { reply = reply; tree = new }

pub record IsTurn (old : PlainTree) (e : TreeEntry) (new : PlainTree) : Type 0 where
  pub later : e.before ≤ e.after
  pub turns : Turns e.reply e.call e.before e.after old new

abbrev pub counts_of : TreeEntry → Counts
counts_of e = record { before = e.before; after = e.after }

-- The log of a plain tree, which leads from old to new, while the count of faults goes from first to last.
pub record IsTreeLog (old : PlainTree) (first : ℕ) (log : List TreeEntry) (new : PlainTree) (last : ℕ) : Type 0 where
  pub legal : IsLegal IsTurn old log new
  pub counts : CountsFrom counts_of first log last
