-- A session as a machine: what it asks next, and what an answer does to it.
use Rattle.std.specs.Prelude.{◌≡◌, ℕ, ◌+◌, List, [], ◌∷◌, ◌++◌, Option, Some, None, replicate, slice_get, slice_set, drop}
use Rattle.tree_model.specs.declared.call.TreeCall.{TreeCall}
use Rattle.tree_model.specs.declared.call.TreeCall.TheVariants as on_tree
use Rattle.tree_model.specs.declared.call.TreeReply.TheVariants as tree_replies
use Rattle.session_model.specs.declared.file.FileCall.{FileCall}
use Rattle.session_model.specs.declared.file.FileCall.TheVariants as on_file
use Rattle.session_model.specs.declared.file.FileReply.TheVariants as file_replies
use Rattle.script_model.specs.declared.limits.TheConstants.{SLOTS}
use Rattle.script_model.specs.declared.op.Op.{Op}
use Rattle.script_model.specs.declared.op.Op.TheVariants as ops
use Rattle.session_model.specs.declared.reply.Reply.{Reply}
use Rattle.session_model.specs.declared.reply.Reply.TheVariants as replies
use Rattle.session_model.specs.declared.session.Slot.{Slot}
use Rattle.session_model.specs.declared.session.Slot.TheVariants.{Closed, Open, Kept}
use Rattle.session_model.specs.declared.session.Hand.{Hand}
use Rattle.session_model.specs.declared.session.Hand.TheVariants as hands
use Rattle.session_model.specs.declared.session.Doing.{Doing}
use Rattle.session_model.specs.declared.session.Doing.TheVariants.{CallsTree, CallsFile, Replies, Ends}
use Rattle.session_model.specs.declared.session.Begun.{Begun}
use Rattle.session_model.specs.declared.session.Heard.{Heard}
use Rattle.session_model.specs.declared.session.Heard.TheVariants as heards
use Rattle.session_model.specs.declared.session.Answer.{Answer}
use Rattle.session_model.specs.declared.session.Answer.TheVariants as answers

-- A session: its number, the number of the operation that is being done or comes next, the operations that are left behind that one,
-- its 16 slots, how many slots the closes at the end have come past, and what it has in hand.
pub record Session : Type 0 where
  pub id : ℕ
  pub op : ℕ
  pub left : List Op
  pub slots : List Slot
  pub past : ℕ
  pub hand : Hand

-- a session before its first operation
abbrev pub fresh : ℕ → List Op → Session
fresh id script = record { id = id; op = 0; left = script; slots = replicate SLOTS Closed; past = 0; hand = hands.Nothing }

abbrev pub node_of : Slot → Option ℕ
node_of Closed = None
node_of (Open node) = Some node
node_of (Kept node) = Some node

abbrev pub node_in : Option Slot → Option ℕ
node_in None = None
node_in (Some slot) = node_of slot

-- the node that a slot is open for
abbrev pub node_at : List Slot → ℕ → Option ℕ
node_at slots slot = node_in (slice_get slots slot)

-- ---- what a session does next

abbrev pub replied : Reply → Begun
replied reply = record { doing = Replies reply; hand = hands.Nothing }

abbrev pub asks_tree : TreeCall → Hand → Begun
asks_tree call hand = record { doing = CallsTree call; hand = hand }

abbrev pub asks_open : Option ℕ → ℕ → TreeCall → Begun
asks_open (Some node) slot call = replied replies.Slot
asks_open None slot call = asks_tree call (hands.Finds slot)

abbrev pub asks_file : Option ℕ → FileCall → Begun
asks_file None call = replied replies.Handle
asks_file (Some node) call = record { doing = CallsFile node call; hand = hands.OnFile }

abbrev pub asks_close : Option ℕ → ℕ → Begun
asks_close None slot = replied replies.Handle
asks_close (Some node) slot = record { doing = CallsFile node (on_file.Detach slot); hand = hands.Closes slot node }

-- an operation as it begins, with these slots
abbrev pub begun : List Slot → Op → Begun
begun slots (ops.Mkdir path) = asks_tree (on_tree.Mkdir path) hands.OnTree
begun slots (ops.Rmdir path) = asks_tree (on_tree.Rmdir path) hands.OnTree
begun slots (ops.Unlink path) = asks_tree (on_tree.Unlink path) hands.OnTree
begun slots (ops.Rename paths) = asks_tree (on_tree.Rename paths) hands.OnTree
begun slots (ops.List path) = asks_tree (on_tree.List path) hands.OnTree
begun slots (ops.Stat path) = asks_tree (on_tree.Stat path) hands.OnTree
begun slots (ops.Open slot path) = asks_open (node_at slots slot) slot (on_tree.Resolve path)
begun slots (ops.Create slot path) = asks_open (node_at slots slot) slot (on_tree.Create path)
begun slots (ops.Read slot at len) = asks_file (node_at slots slot) (on_file.Read slot at len)
begun slots (ops.Write slot at octets) = asks_file (node_at slots slot) (on_file.Write slot at octets)
begun slots (ops.Truncate slot size) = asks_file (node_at slots slot) (on_file.Truncate slot size)
begun slots (ops.Size slot) = asks_file (node_at slots slot) (on_file.Size slot)
begun slots (ops.Sync slot) = asks_file (node_at slots slot) (on_file.Sync slot)
begun slots (ops.Close slot) = asks_close (node_at slots slot) slot

abbrev pub or_later : Option ℕ → ℕ → Option ℕ → Option ℕ
or_later None number later = later
or_later (Some node) number later = Some number

-- the first open slot of these, which are numbered from here on
abbrev pub first_open : ℕ → List Slot → Option ℕ
first_open number [] = None
first_open number (slot ∷ slots) = or_later (node_of slot) number (first_open (number + 1) slots)

-- What a session does next, and what of its script is left behind that.
pub record Upcoming : Type 0 where
  pub begun : Begun
  pub left : List Op
  pub past : ℕ

-- behind the script a close for each slot that is open then, in rising order
abbrev pub closes : List Slot → ℕ → Option ℕ → Upcoming
closes slots past None = record { begun = record { doing = Ends; hand = hands.Nothing }; left = []; past = past }
closes slots past (Some slot) = record { begun = asks_close (node_at slots slot) slot; left = []; past = slot + 1 }

abbrev pub begins : List Op → List Slot → ℕ → Upcoming
begins (op ∷ left) slots past = record { begun = begun slots op; left = left; past = past }
begins [] slots past = closes slots past (first_open past (drop past slots))

abbrev pub upcoming : List Op → List Slot → ℕ → Hand → Upcoming
upcoming left slots past hands.Nothing = begins left slots past
upcoming left slots past (hands.Found slot node) = record { begun = record { doing = CallsFile node (on_file.Attach slot); hand = hands.Attaches slot node }; left = left; past = past }
upcoming left slots past hand = record { begun = record { doing = Ends; hand = hand }; left = left; past = past }

-- what is asked, and the session behind that: it waits for the answer, or has its reply
pub record Asked : Type 0 where
  pub doing : Doing
  pub session : Session

abbrev pub holding : Session → Hand → Session
holding s hand = record s { hand = hand }

-- the operation is over
abbrev pub over : Session → Session
over s = record s { op = s.op + 1; hand = hands.Nothing }

abbrev pub behind : Doing → Session → Hand → Session
behind (Replies reply) s hand = over s
behind (CallsTree call) s hand = holding s hand
behind (CallsFile node call) s hand = holding s hand
behind Ends s hand = holding s hand

abbrev pub taken_up : Session → Upcoming → Asked
taken_up s u = record { doing = u.begun.doing; session = behind u.begun.doing (record s { left = u.left; past = u.past }) u.begun.hand }

abbrev pub asked : Session → Asked
asked s = taken_up s (upcoming s.left s.slots s.past s.hand)

-- it waits for no answer
abbrev pub IsReady : Hand → Type 0
IsReady hands.Nothing = Unit {0}
IsReady (hands.Found slot node) = Unit {0}
IsReady hand = ⊥

-- it waits for an answer
abbrev pub IsWaiting : Hand → Type 0
IsWaiting hands.Nothing = ⊥
IsWaiting (hands.Found slot node) = ⊥
IsWaiting hand = Unit {0}

-- whoever made a call waits, and nobody else
abbrev pub Waits : Doing → Hand → Type 0
Waits (CallsTree call) hand = IsWaiting hand
Waits (CallsFile node call) hand = IsWaiting hand
Waits (Replies reply) hand = IsReady hand
Waits Ends hand = IsReady hand

-- ---- what an answer does

abbrev pub reply_of : Answer → Reply
reply_of (answers.Tree reply) = replies.Tree reply
reply_of (answers.File reply) = replies.File reply
reply_of answers.Memory = replies.Memory

abbrev pub heard_found : ℕ → Answer → Heard
heard_found slot (answers.Tree (tree_replies.Node node)) = heards.GoesOn (hands.Found slot node)
heard_found slot answer = heards.Ends (reply_of answer)

abbrev pub heard_attached : ℕ → ℕ → Answer → Heard
heard_attached slot node (answers.File file_replies.Done) = heards.EndsWith slot (Open node) (replies.Opened node)
heard_attached slot node answer = heards.Ends (reply_of answer)

-- a close that is refused leaves the slot open
abbrev pub heard_closed : ℕ → ℕ → Answer → Heard
heard_closed slot node (answers.File file_replies.Done) = heards.EndsWith slot Closed (replies.File file_replies.Done)
heard_closed slot node answer = heards.EndsWith slot (Kept node) (reply_of answer)

-- what an answer comes to, with this in hand
abbrev pub heard : Hand → Answer → Heard
heard (hands.Finds slot) answer = heard_found slot answer
heard (hands.Attaches slot node) answer = heard_attached slot node answer
heard (hands.Closes slot node) answer = heard_closed slot node answer
heard hand answer = heards.Ends (reply_of answer)

-- the reply of the operation, if it is over, and the session behind it
pub record Told : Type 0 where
  pub reply : Option Reply
  pub session : Session

abbrev pub settled : Session → Heard → Told
settled s (heards.GoesOn hand) = record { reply = None; session = holding s hand }
settled s (heards.Ends reply) = record { reply = Some reply; session = over s }
settled s (heards.EndsWith slot what reply) = record { reply = Some reply; session = over (record s { slots = slice_set s.slots slot what }) }

abbrev pub told : Session → Answer → Told
told s answer = settled s (heard s.hand answer)

-- ---- a session with the replies that it has

pub record Member : Type 0 where
  pub session : Session
  pub replies : List Reply

-- a session with no reply yet
abbrev pub new_member : ℕ → List Op → Member
new_member id script = record { session = fresh id script; replies = [] }

-- It was asked nothing yet.
abbrev pub IsFresh : Member → Type 0
IsFresh m = m ≡ new_member m.session.id m.session.left

abbrev pub reply_list : Option Reply → List Reply
reply_list (Some reply) = reply ∷ []
reply_list None = []

-- the session with what it was told
abbrev pub after : Member → Told → Member
after m t = record { session = t.session; replies = m.replies ++ reply_list t.reply }
