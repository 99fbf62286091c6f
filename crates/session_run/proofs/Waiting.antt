-- What a session has in hand behind what it asks for.
use Rattle.std.proofs.Common.{◌≡◌, ℕ, List, [], ◌∷◌, Option, Some, None, refl, drop}
use Rattle.tree_model.specs.declared.call.TreeCall.{TreeCall}
use Rattle.script_model.specs.declared.op.Op.{Op}
use Rattle.script_model.specs.declared.op.Op.TheVariants as ops
use Rattle.session_model.specs.declared.file.FileCall.{FileCall}
use Rattle.session_model.specs.declared.session.Slot.{Slot}
use Rattle.session_model.specs.declared.session.Hand.{Hand}
use Rattle.session_model.specs.declared.session.Hand.TheVariants as hands
use Rattle.session_model.specs.declared.session.Doing.{Doing}
use Rattle.session_model.specs.declared.session.Doing.TheVariants.{CallsTree, CallsFile, Replies, Ends}
use Rattle.session_model.specs.Session.{Session, asked, begun, behind, upcoming, closes, first_open, node_at, asks_open, asks_file, asks_close}
use Rattle.session_run.specs.Waits.{WaitsForTree, WaitsForFile}

abbrev pub WaitsFor : Doing → Hand → Type 0
WaitsFor (CallsTree call) hand = WaitsForTree hand
WaitsFor (CallsFile node call) hand = WaitsForFile node call hand
WaitsFor (Replies reply) hand = Unit {0}
WaitsFor Ends hand = Unit {0}

open_waits : (o : Option ℕ) (slot : ℕ) (call : TreeCall) → WaitsFor (asks_open o slot call).doing (asks_open o slot call).hand
open_waits None slot call = tt
open_waits (Some node) slot call = tt

file_waits : (o : Option ℕ) (call : FileCall) → ((node : ℕ) → WaitsForFile node call hands.OnFile) → WaitsFor (asks_file o call).doing (asks_file o call).hand
file_waits None call h = tt
file_waits (Some node) call h = h node

close_waits : (o : Option ℕ) (slot : ℕ) → WaitsFor (asks_close o slot).doing (asks_close o slot).hand
close_waits None slot = tt
close_waits (Some node) slot = refl

begun_waits : (slots : List Slot) (op : Op) → WaitsFor (begun slots op).doing (begun slots op).hand
begun_waits slots (ops.Mkdir path) = tt
begun_waits slots (ops.Rmdir path) = tt
begun_waits slots (ops.Unlink path) = tt
begun_waits slots (ops.Rename paths) = tt
begun_waits slots (ops.List path) = tt
begun_waits slots (ops.Stat path) = tt
begun_waits slots (ops.Open slot path) = open_waits (node_at slots slot) slot _
begun_waits slots (ops.Create slot path) = open_waits (node_at slots slot) slot _
begun_waits slots (ops.Read slot at len) = file_waits (node_at slots slot) _ (λ node. refl)
begun_waits slots (ops.Write slot at octets) = file_waits (node_at slots slot) _ (λ node. refl)
begun_waits slots (ops.Truncate slot size) = file_waits (node_at slots slot) _ (λ node. refl)
begun_waits slots (ops.Size slot) = file_waits (node_at slots slot) _ (λ node. refl)
begun_waits slots (ops.Sync slot) = file_waits (node_at slots slot) _ (λ node. refl)
begun_waits slots (ops.Close slot) = close_waits (node_at slots slot) slot

closes_wait : (slots : List Slot) (past : ℕ) (o : Option ℕ) → WaitsFor (closes slots past o).begun.doing (closes slots past o).begun.hand
closes_wait slots past None = tt
closes_wait slots past (Some slot) = close_waits (node_at slots slot) slot

upcoming_waits : (left : List Op) (slots : List Slot) (past : ℕ) (hand : Hand) → WaitsFor (upcoming left slots past hand).begun.doing (upcoming left slots past hand).begun.hand
upcoming_waits [] slots past hands.Nothing = closes_wait slots past (first_open past (drop past slots))
upcoming_waits (op ∷ left) slots past hands.Nothing = begun_waits slots op
upcoming_waits left slots past (hands.Found slot node) = refl
upcoming_waits left slots past (hands.Finds slot) = tt
upcoming_waits left slots past (hands.Attaches slot node) = tt
upcoming_waits left slots past hands.OnTree = tt
upcoming_waits left slots past hands.OnFile = tt
upcoming_waits left slots past (hands.Closes slot node) = tt

behind_waits : (d : Doing) (s : Session) (hand : Hand) → WaitsFor d hand → WaitsFor d (behind d s hand).hand
behind_waits (CallsTree call) s hand h = h
behind_waits (CallsFile node call) s hand h = h
behind_waits (Replies reply) s hand h = tt
behind_waits Ends s hand h = tt

pub asked_waits : (s : Session) → WaitsFor (asked s).doing (asked s).session.hand
asked_waits s = let u = upcoming s.left s.slots s.past s.hand in behind_waits u.begun.doing (record s { left = u.left; past = u.past }) u.begun.hand (upcoming_waits s.left s.slots s.past s.hand)

behind_slots : (d : Doing) (s : Session) (hand : Hand) → (behind d s hand).slots ≡ s.slots
behind_slots (CallsTree call) s hand = refl
behind_slots (CallsFile node call) s hand = refl
behind_slots (Replies reply) s hand = refl
behind_slots Ends s hand = refl

-- what is asked changes no slot
pub asked_slots : (s : Session) → (asked s).session.slots ≡ s.slots
asked_slots s = let u = upcoming s.left s.slots s.past s.hand in behind_slots u.begun.doing (record s { left = u.left; past = u.past }) u.begun.hand
