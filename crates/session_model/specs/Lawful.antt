-- What is lawful in a session: its calls, and the slot that it has in hand.
use Rattle.script_model.specs.Script.{IsSlot}
use Rattle.session_model.specs.FileCall.{IsFileCall}
use Rattle.session_model.specs.declared.session.Doing.{Doing}
use Rattle.session_model.specs.declared.session.Doing.TheVariants.{CallsTree, CallsFile, Replies, Ends}
use Rattle.session_model.specs.declared.session.Hand.{Hand}
use Rattle.session_model.specs.declared.session.Hand.TheVariants as hands

-- a call on a file may be made
abbrev pub IsDoing : Doing → Type 0
IsDoing (CallsFile node call) = IsFileCall call
IsDoing (CallsTree call) = Unit {0}
IsDoing (Replies reply) = Unit {0}
IsDoing Ends = Unit {0}

abbrev pub IsHand : Hand → Type 0
IsHand hands.Nothing = Unit {0}
IsHand (hands.Finds slot) = IsSlot slot
IsHand (hands.Found slot node) = IsSlot slot
IsHand (hands.Attaches slot node) = IsSlot slot
IsHand hands.OnTree = Unit {0}
IsHand hands.OnFile = Unit {0}
IsHand (hands.Closes slot node) = IsSlot slot
