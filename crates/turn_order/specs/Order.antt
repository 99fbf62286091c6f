-- What sessions that run in the order of a schedule add to the logs.
use Rattle.std.specs.Prelude.{ℕ, List}
use Rattle.session_model.specs.declared.entry.TreeEntry.{TreeEntry}
use Rattle.session_model.specs.declared.entry.FileEntry.{FileEntry}
use Rattle.session_model.specs.Histories.{Histories}
use Rattle.session_model.specs.Session.{Member}
use Rattle.session_model.specs.Walks.{InOrder}
use Rattle.session_run.specs.Made.{Grows}

-- The sessions ran by the schedule, and then to their ends in rising order, with exactly the entries by which the logs have grown.
pub record RanInOrder (schedule : List ℕ) (tree tree' : List TreeEntry) (logs logs' : ℕ → List FileEntry) (was is : List Member) : Type 0 where
  pub made : Histories
  pub order : InOrder was schedule made is
  pub grows : Grows tree tree' logs logs' made
