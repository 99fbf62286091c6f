-- The order of a schedule.
use Rattle.std.specs.Prelude.{ℕ, ◌≡◌, ◌+◌, ◌≤◌, List, [], ◌∷◌, ◌++◌, Some, slice_get, slice_set}
use Rattle.script_model.specs.declared.op.Op.{Op}
use Rattle.session_model.specs.declared.reply.Reply.{Reply}
use Rattle.session_model.specs.declared.session.Doing.TheVariants.{Ends}
use Rattle.session_model.specs.Session.{asked, Told, Member, new_member, after}
use Rattle.session_model.specs.Histories.{Histories, nothing, joined}
use Rattle.session_model.specs.Runs.{Moves}

-- One item: the next move of session k, or nothing where it has ended.
pub data Item : List Member → ℕ → Histories → List Member → Type 0 where
  Idle : (all : List Member) (k : ℕ) (made : Histories) (next : List Member) (m : Member) → slice_get all k ≡ Some m → (asked m.session).doing ≡ Ends → made ≡ nothing → next ≡ all
      → Item all k made next
  Busy : (all : List Member) (k : ℕ) (made : Histories) (next : List Member) (m : Member) (t : Told) → slice_get all k ≡ Some m → Moves m.session made t → next ≡ slice_set all k (after m t)
      → Item all k made next

-- Items one behind another; their entries, in order, are each lock's log.
pub data Walks : List Member → List ℕ → Histories → List Member → Type 0 where
  Stop : (all : List Member) (items : List ℕ) (log : Histories) (last : List Member) → items ≡ [] → log ≡ nothing → last ≡ all → Walks all items log last
  Next : (all : List Member) (items : List ℕ) (log : Histories) (last mid : List Member) (k : ℕ) (later : List ℕ) (made rest : Histories) → Item all k made mid → Walks mid later rest last
      → items ≡ k ∷ later → log ≡ joined made rest → Walks all items log last

abbrev pub RisesFrom : ℕ → List ℕ → Type 0
RisesFrom low [] = Unit {0}
RisesFrom low (k ∷ items) = (low ≤ k) × RisesFrom k items

abbrev pub HaveEnded : List Member → Type 0
HaveEnded [] = Unit {0}
HaveEnded (m ∷ all) = ((asked m.session).doing ≡ Ends) × HaveEnded all

-- The schedule is walked, and then the sessions run to their ends, in rising order.
pub record InOrder (all : List Member) (schedule : List ℕ) (log : Histories) (last : List Member) : Type 0 where
  pub tail : List ℕ
  pub walks : Walks all (schedule ++ tail) log last
  pub rising : RisesFrom 0 tail
  pub ended : HaveEnded last

-- the sessions of these scripts, numbered from here on
abbrev pub members : ℕ → List (List Op) → List Member
members k [] = []
members k (script ∷ scripts) = new_member k script ∷ members (k + 1) scripts

-- the replies of each session
abbrev pub replies_of : List Member → List (List Reply)
replies_of [] = []
replies_of (m ∷ all) = m.replies ∷ replies_of all
