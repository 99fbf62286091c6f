-- What a session keeps beside its value: lawful operations, and the room for each reply that is still to come.
use Rattle.std.specs.Prelude.{ℕ, ◌+◌, ◌-◌, ◌≤◌, List, length}
use Rattle.std.specs.List.{AllByRecursion}
use Rattle.script_model.specs.declared.limits.TheConstants.{MOST_OPERATIONS, SLOTS}
use Rattle.script_model.specs.declared.op.Op.{Op}
use Rattle.script_model.specs.Script.{IsOp}
use Rattle.session_model.specs.declared.session.Hand.{Hand}
use Rattle.session_model.specs.declared.session.Hand.TheVariants as hands
use Rattle.session_model.specs.declared.session.Doing.{Doing}
use Rattle.session_model.specs.declared.session.Doing.TheVariants.{CallsTree, CallsFile, Replies, Ends}
use Rattle.session_model.specs.Lawful.{IsHand}

-- how many replies are still to come for what is in hand
abbrev pub owed : Hand → ℕ
owed hands.Nothing = 0
owed (hands.Finds slot) = 1
owed (hands.Found slot node) = 1
owed (hands.Attaches slot node) = 1
owed hands.OnTree = 1
owed hands.OnFile = 1
owed (hands.Closes slot node) = 1

-- how many replies come for what is done next
abbrev pub cost : Doing → Hand → ℕ
cost (Replies reply) hand = 1
cost (CallsTree call) hand = owed hand
cost (CallsFile node call) hand = owed hand
cost Ends hand = owed hand

-- how many replies there can be in all: those that are there, and one for each operation and each close at the end that is left
abbrev pub all_replies : List Op → ℕ → Hand → ℕ → ℕ
all_replies left past hand replies = replies + owed hand + length left + (SLOTS - past)

pub record Keeps (left : List Op) (past : ℕ) (hand : Hand) (replies capacity : ℕ) : Type 0 where
  pub room : all_replies left past hand replies ≤ capacity
  pub few : all_replies left past hand replies ≤ MOST_OPERATIONS + SLOTS
  pub past_few : past ≤ SLOTS
  pub ops : AllByRecursion IsOp left
  pub in_hand : IsHand hand
