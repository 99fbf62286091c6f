-- What the calls of a session give, by the machine.
use Rattle.std.specs.Prelude.{List, [], ◌∷◌, ◌++◌}
use Rattle.session_model.specs.declared.reply.Reply.{Reply}
use Rattle.session_model.specs.declared.session.Doing.{Doing}
use Rattle.session_model.specs.declared.session.Doing.TheVariants.{CallsTree, CallsFile, Replies, Ends}
use Rattle.session_model.specs.declared.session.Hand.{Hand}
use Rattle.session_model.specs.declared.session.Ask.{Ask}
use Rattle.session_model.specs.declared.session.Ask.TheVariants as asks
use Rattle.session_model.specs.FileCall.{IsFileCall}
use Rattle.session_model.specs.Session.{Member, asked, IsReady, IsWaiting}

-- what a session asks for that does this next
abbrev pub ask_of : Doing → Ask
ask_of (CallsTree call) = asks.Tree call
ask_of (CallsFile node call) = asks.File node call
ask_of (Replies reply) = asks.Done
ask_of Ends = asks.End

-- the reply of an operation that makes no call
abbrev pub own_reply : Doing → List Reply
own_reply (CallsTree call) = []
own_reply (CallsFile node call) = []
own_reply (Replies reply) = reply ∷ []
own_reply Ends = []

-- the session when it has asked
abbrev pub behind_ask : Member → Member
behind_ask m = record { session = (asked m.session).session; replies = m.replies ++ own_reply (asked m.session).doing }

-- A call that is asked for may be made.
abbrev pub IsAsk : Ask → Type 0
IsAsk (asks.Tree call) = Unit {0}
IsAsk (asks.File node call) = IsFileCall call
IsAsk asks.Done = Unit {0}
IsAsk asks.End = Unit {0}

abbrev pub OnEnd : Ask → Type 0 → Type 0
OnEnd asks.End P = P
OnEnd (asks.Tree call) P = Unit {0}
OnEnd (asks.File node call) P = Unit {0}
OnEnd asks.Done P = Unit {0}

-- whoever asked for a call waits for its answer, and nobody else
abbrev pub WaitsOn : Ask → Hand → Type 0
WaitsOn (asks.Tree call) hand = IsWaiting hand
WaitsOn (asks.File node call) hand = IsWaiting hand
WaitsOn asks.Done hand = IsReady hand
WaitsOn asks.End hand = IsReady hand
