-- The entries and the replies of a whole script: what a session does, one call after another, up to its end.
use Rattle.std.specs.Prelude.{ℕ, ◌≡◌, Bool, true, false, List, [], ◌∷◌, Option, Some, None, slice_get}
use Rattle.tree_model.specs.declared.call.TreeCall.{TreeCall}
use Rattle.session_model.specs.declared.file.FileCall.{FileCall}
use Rattle.session_model.specs.declared.reply.Reply.{Reply}
use Rattle.session_model.specs.declared.entry.TreeEntry.{TreeEntry}
use Rattle.session_model.specs.declared.entry.FileEntry.{FileEntry}
use Rattle.session_model.specs.declared.session.Slot.{Slot}
use Rattle.session_model.specs.declared.session.Slot.TheVariants.{Closed, Open, Kept}
use Rattle.session_model.specs.declared.session.Hand.{Hand}
use Rattle.session_model.specs.declared.session.Hand.TheVariants as hands
use Rattle.session_model.specs.declared.session.Answer.TheVariants as answers
use Rattle.session_model.specs.declared.session.Doing.{Doing}
use Rattle.session_model.specs.declared.session.Doing.TheVariants.{CallsTree, CallsFile, Replies, Ends}
use Rattle.session_model.specs.Session.{Session, asked, Told, told}
use Rattle.session_model.specs.Histories.{Histories, nothing, joined}

-- This is the entry of a call that the session waits for.
pub record IsTreeEntry (s : Session) (call : TreeCall) (e : TreeEntry) : Type 0 where
  pub session : e.session ≡ s.id
  pub op : e.op ≡ s.op
  pub call_is : e.call ≡ call

pub record IsFileEntry (s : Session) (node : ℕ) (call : FileCall) (e : FileEntry) : Type 0 where
  pub session : e.session ≡ s.id
  pub op : e.op ≡ s.op
  pub node_is : e.node ≡ node
  pub call_is : e.call ≡ call

abbrev pub is_open : Option Slot → Bool
is_open (Some (Open node)) = true
is_open (Some (Kept node)) = false
is_open (Some Closed) = false
is_open None = false

-- the first close of a slot since it was opened, which has its room from the opening
abbrev pub is_first_close : List Slot → Hand → Bool
is_first_close slots (hands.Closes slot node) = is_open (slice_get slots slot)
is_first_close slots hand = false

-- Memory may run out before each call but a first close.
abbrev pub MayLack : Session → Type 0
MayLack s = is_first_close s.slots s.hand ≡ false

-- What is asked has these entries, none or one, and this is what the session is told.
abbrev pub AnsweredTree : Session → TreeCall → List TreeEntry → List FileEntry → Told → Type 0
AnsweredTree s call [] [] t = t ≡ told s answers.Memory
AnsweredTree s call (e ∷ []) [] t = IsTreeEntry s call e × (t ≡ told s (answers.Tree e.reply))
AnsweredTree s call tree file t = ⊥

abbrev pub AnsweredFile : Session → ℕ → FileCall → List TreeEntry → List FileEntry → Told → Type 0
AnsweredFile s node call [] [] t = MayLack s × (t ≡ told s answers.Memory)
AnsweredFile s node call [] (e ∷ []) t = IsFileEntry s node call e × (t ≡ told s (answers.File e.reply))
AnsweredFile s node call tree file t = ⊥

abbrev pub AnsweredNone : Session → Reply → List TreeEntry → List FileEntry → Told → Type 0
AnsweredNone s reply [] [] t = t ≡ record { reply = Some reply; session = s }
AnsweredNone s reply tree file t = ⊥

abbrev pub MovesBy : Session → Doing → List TreeEntry → List FileEntry → Told → Type 0
MovesBy s (CallsTree call) tree file t = AnsweredTree s call tree file t
MovesBy s (CallsFile node call) tree file t = AnsweredFile s node call tree file t
MovesBy s (Replies reply) tree file t = AnsweredNone s reply tree file t
MovesBy s Ends tree file t = ⊥

-- one move of a session: what it asks, with the entries that this makes, and what it is told
abbrev pub Moves : Session → Histories → Told → Type 0
Moves s made t = MovesBy (asked s).session (asked s).doing made.tree made.file t

abbrev pub with_reply : Option Reply → List Reply → List Reply
with_reply (Some reply) replies = reply ∷ replies
with_reply None replies = replies

-- A session has these entries of its own and gets these replies, up to its end.
pub data Runs : Session → Histories → List Reply → Type 0 where
  Over : (s : Session) (own : Histories) (replies : List Reply) → (asked s).doing ≡ Ends → own ≡ nothing → replies ≡ [] → Runs s own replies
  Move : (s : Session) (own : Histories) (replies : List Reply) (made rest : Histories) (t : Told) (later : List Reply) → Moves s made t → Runs t.session rest later
      → own ≡ joined made rest → replies ≡ with_reply t.reply later → Runs s own replies
