-- What items one behind another, and the ends of sessions, add to the logs.
use Rattle.std.specs.Prelude.{ℕ, zero, suc, ◌≡◌, List}
use Rattle.session_model.specs.declared.entry.TreeEntry.{TreeEntry}
use Rattle.session_model.specs.declared.entry.FileEntry.{FileEntry}
use Rattle.session_model.specs.declared.session.Doing.TheVariants.{Ends}
use Rattle.session_model.specs.Histories.{Histories, nothing, joined}
use Rattle.session_model.specs.Session.{Member, Told, asked, after}
use Rattle.session_model.specs.Runs.{Moves}
use Rattle.session_model.specs.Walks.{Walks, RisesFrom, HaveEnded}
use Rattle.session_run.specs.Made.{Grows}

-- These items, with exactly the entries by which the logs have grown.
pub record Walked (items : List ℕ) (tree tree' : List TreeEntry) (logs logs' : ℕ → List FileEntry) (was is : List Member) : Type 0 where
  pub made : Histories
  pub walks : Walks was items made is
  pub grows : Grows tree tree' logs logs' made

-- so many moves of one session, one behind another
abbrev pub Strides : ℕ → Member → Histories → Member → Type 0
Strides zero was made is = (made ≡ nothing) × (is ≡ was)
Strides (suc n) was made is = (first rest : Histories) × (t : Told) × Moves was.session first t × Strides n (after was t) rest is × (made ≡ joined first rest)

-- Some moves of one session, with exactly the entries by which the logs have grown.
pub record Strode (tree tree' : List TreeEntry) (logs logs' : ℕ → List FileEntry) (was is : Member) : Type 0 where
  pub count : ℕ
  pub made : Histories
  pub strides : Strides count was made is
  pub grows : Grows tree tree' logs logs' made

-- A session has run to its end.
pub record HasFinished (tree tree' : List TreeEntry) (logs logs' : ℕ → List FileEntry) (was is : Member) : Type 0 where
  pub strode : Strode tree tree' logs logs' was is
  pub ended : (asked is.session).doing ≡ Ends

-- The sessions have run to their ends, in rising order.
pub record HaveFinished (tree tree' : List TreeEntry) (logs logs' : ℕ → List FileEntry) (was is : List Member) : Type 0 where
  pub tail : List ℕ
  pub walked : Walked tail tree tree' logs logs' was is
  pub rising : RisesFrom 0 tail
  pub ended : HaveEnded is
