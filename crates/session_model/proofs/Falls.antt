-- Each move leaves fewer.
use Rattle.std.proofs.Common.{◌≡◌, ℕ, suc, ◌+◌, ◌-◌, ◌*◌, ◌<◌, ◌≤◌, length, List, [], ◌∷◌, Option, Some, None, ◌⊎◌, inl, inr, refl, sym, subst, arith, drop, length-drop}
use Rattle.std.proofs.Math.ListN.{length-set}
use Rattle.tree_model.specs.declared.call.TreeCall.{TreeCall}
use Rattle.tree_model.specs.declared.call.TreeReply.TheVariants as tree_replies
use Rattle.session_model.specs.declared.file.FileCall.{FileCall}
use Rattle.session_model.specs.declared.file.FileReply.TheVariants as file_replies
use Rattle.session_model.specs.declared.entry.TreeEntry.{TreeEntry}
use Rattle.session_model.specs.declared.entry.FileEntry.{FileEntry}
use Rattle.script_model.specs.declared.op.Op.{Op}
use Rattle.script_model.specs.declared.op.Op.TheVariants as ops
use Rattle.session_model.specs.declared.session.Slot.{Slot}
use Rattle.session_model.specs.declared.session.Slot.TheVariants.{Closed, Open, Kept}
use Rattle.session_model.specs.declared.session.Hand.{Hand}
use Rattle.session_model.specs.declared.session.Hand.TheVariants as hands
use Rattle.session_model.specs.declared.session.Doing.{Doing}
use Rattle.session_model.specs.declared.session.Doing.TheVariants.{CallsTree, CallsFile, Replies, Ends}
use Rattle.session_model.specs.declared.session.Answer.{Answer}
use Rattle.session_model.specs.declared.session.Answer.TheVariants as answers
use Rattle.session_model.specs.Session.{Session, Upcoming, Told, asked, told, settled, heard, heard_found, heard_attached, heard_closed, begun, node_at, node_of, or_later, first_open, asks_open, asks_file, asks_close, closes, upcoming, behind}
use Rattle.session_model.specs.Histories.{Histories}
use Rattle.session_model.specs.Runs.{Moves, MovesBy}

-- the moves that may follow for the operation in hand
abbrev pub weight : Hand → ℕ
weight hands.Nothing = 0
weight (hands.Finds slot) = 1
weight (hands.Found slot node) = 1
weight (hands.Attaches slot node) = 0
weight hands.OnTree = 0
weight hands.OnFile = 0
weight (hands.Closes slot node) = 0

-- how many moves a session has left, at most
abbrev pub work : Session → ℕ
work s = 2 * (length s.left + (length s.slots - s.past)) + weight s.hand

open_light : (o : Option ℕ) (slot : ℕ) (call : TreeCall) → weight (asks_open o slot call).hand ≤ 1
open_light None slot call = omega arith
open_light (Some node) slot call = omega arith

file_light : (o : Option ℕ) (call : FileCall) → weight (asks_file o call).hand ≤ 1
file_light None call = omega arith
file_light (Some node) call = omega arith

close_light : (o : Option ℕ) (slot : ℕ) → weight (asks_close o slot).hand ≤ 1
close_light None slot = omega arith
close_light (Some node) slot = omega arith

begun_light : (slots : List Slot) (op : Op) → weight (begun slots op).hand ≤ 1
begun_light slots (ops.Mkdir path) = omega arith
begun_light slots (ops.Rmdir path) = omega arith
begun_light slots (ops.Unlink path) = omega arith
begun_light slots (ops.Rename paths) = omega arith
begun_light slots (ops.List path) = omega arith
begun_light slots (ops.Stat path) = omega arith
begun_light slots (ops.Open slot path) = open_light (node_at slots slot) slot _
begun_light slots (ops.Create slot path) = open_light (node_at slots slot) slot _
begun_light slots (ops.Read slot at len) = file_light (node_at slots slot) _
begun_light slots (ops.Write slot at octets) = file_light (node_at slots slot) _
begun_light slots (ops.Truncate slot size) = file_light (node_at slots slot) _
begun_light slots (ops.Size slot) = file_light (node_at slots slot) _
begun_light slots (ops.Sync slot) = file_light (node_at slots slot) _
begun_light slots (ops.Close slot) = close_light (node_at slots slot) slot

pub record Within (low high k : ℕ) : Type 0 where
  pub from : low ≤ k
  pub below : k < high

first_within : (number : ℕ) (slots : List Slot) (k : ℕ) → first_open number slots ≡ Some k → Within number (number + length slots) k
first_within number [] k e = cc
first_within number (slot ∷ slots) k e = by (node_of slot) (first_within (number + 1) slots k) e where
  by : (o : Option ℕ) → (first_open (number + 1) slots ≡ Some k → Within (number + 1) (number + 1 + length slots) k) → or_later o number (first_open (number + 1) slots) ≡ Some k → Within number (number + suc (length slots)) k
  by None later e = let w = later e in record { from = omega arith; below = omega arith }
  by (Some node) later e = let same : number ≡ k = cc in record { from = omega arith; below = omega arith }

-- ---- a move asks ..

left_of : Upcoming → List Slot → ℕ
left_of u slots = 2 * (length u.left + (length slots - u.past)) + weight u.begun.hand

closes_fall : (slots : List Slot) (past : ℕ) (o : Option ℕ) → first_open past (drop past slots) ≡ o
    → ((closes slots past o).begun.doing ≡ Ends) ⊎ (2 * (length (closes slots past o).left + (length slots - (closes slots past o).past)) + weight (closes slots past o).begun.hand < 2 * (0 + (length slots - past)) + 0)
closes_fall slots past None e = inl refl
closes_fall slots past (Some k) e =
    let w = first_within past (drop past slots) k e in
    let n : length (drop past slots) ≡ length slots - past = length-drop past slots in
    let light = close_light (node_at slots k) k in
    inr (omega arith)

upcoming_falls : (left : List Op) (slots : List Slot) (past : ℕ) (hand : Hand)
    → ((upcoming left slots past hand).begun.doing ≡ Ends) ⊎ (2 * (length (upcoming left slots past hand).left + (length slots - (upcoming left slots past hand).past)) + weight (upcoming left slots past hand).begun.hand < 2 * (length left + (length slots - past)) + weight hand)
upcoming_falls [] slots past hands.Nothing = closes_fall slots past (first_open past (drop past slots)) refl
upcoming_falls (op ∷ left) slots past hands.Nothing = let light = begun_light slots op in inr (omega arith)
upcoming_falls left slots past (hands.Found slot node) = inr (omega arith)
upcoming_falls left slots past (hands.Finds slot) = inl refl
upcoming_falls left slots past (hands.Attaches slot node) = inl refl
upcoming_falls left slots past hands.OnTree = inl refl
upcoming_falls left slots past hands.OnFile = inl refl
upcoming_falls left slots past (hands.Closes slot node) = inl refl

behind_falls : (d : Doing) (s : Session) (hand : Hand) → work (behind d s hand) ≤ 2 * (length s.left + (length s.slots - s.past)) + weight hand
behind_falls (CallsTree call) s hand = omega arith
behind_falls (CallsFile node call) s hand = omega arith
behind_falls (Replies reply) s hand = omega arith
behind_falls Ends s hand = omega arith

asked_falls : (s : Session) → ((asked s).doing ≡ Ends) ⊎ (work (asked s).session < work s)
asked_falls s = elim (upcoming_falls s.left s.slots s.past s.hand) as (λ _. ((asked s).doing ≡ Ends) ⊎ (work (asked s).session < work s)) [
  | inl e ↦ inl e
  | inr less ↦
      let u : Upcoming = upcoming s.left s.slots s.past s.hand in
      let most = behind_falls u.begun.doing (record s { left = u.left; past = u.past }) u.begun.hand in
      inr (omega arith)
]

-- ---- .. and is told

weight_found : (slot : ℕ) (s : Session) (a : Answer) → work (settled s (heard_found slot a)).session ≤ 2 * (length s.left + (length s.slots - s.past)) + 1
weight_found slot s (answers.Tree (tree_replies.Node node)) = omega arith
weight_found slot s (answers.Tree tree_replies.Done) = omega arith
weight_found slot s (answers.Tree (tree_replies.Names names)) = omega arith
weight_found slot s (answers.Tree (tree_replies.Info kind node)) = omega arith
weight_found slot s (answers.Tree (tree_replies.Refused refusal)) = omega arith
weight_found slot s (answers.Tree tree_replies.LowerFault) = omega arith
weight_found slot s (answers.Tree tree_replies.Memory) = omega arith
weight_found slot s (answers.File reply) = omega arith
weight_found slot s answers.Memory = omega arith

heard_attached_falls : (s : Session) (slot node : ℕ) (a : Answer) → work (settled s (heard_attached slot node a)).session ≤ 2 * (length s.left + (length s.slots - s.past))
heard_attached_falls s slot node (answers.Tree reply) = omega arith
heard_attached_falls s slot node answers.Memory = omega arith
heard_attached_falls s slot node (answers.File file_replies.Done) = let same = length-set s.slots slot (Open node) in omega arith
heard_attached_falls s slot node (answers.File (file_replies.Octets octets)) = omega arith
heard_attached_falls s slot node (answers.File (file_replies.Length size)) = omega arith
heard_attached_falls s slot node (answers.File (file_replies.Refused cause)) = omega arith
heard_attached_falls s slot node (answers.File file_replies.NotOpen) = omega arith
heard_attached_falls s slot node (answers.File file_replies.TooBig) = omega arith
heard_attached_falls s slot node (answers.File file_replies.LowerFault) = omega arith
heard_attached_falls s slot node (answers.File file_replies.Memory) = omega arith

heard_closed_falls : (s : Session) (slot node : ℕ) (a : Answer) → work (settled s (heard_closed slot node a)).session ≤ 2 * (length s.left + (length s.slots - s.past))
heard_closed_falls s slot node (answers.Tree reply) = let same = length-set s.slots slot (Kept node) in omega arith
heard_closed_falls s slot node answers.Memory = let same = length-set s.slots slot (Kept node) in omega arith
heard_closed_falls s slot node (answers.File file_replies.Done) = let same = length-set s.slots slot Closed in omega arith
heard_closed_falls s slot node (answers.File (file_replies.Octets octets)) = let same = length-set s.slots slot (Kept node) in omega arith
heard_closed_falls s slot node (answers.File (file_replies.Length size)) = let same = length-set s.slots slot (Kept node) in omega arith
heard_closed_falls s slot node (answers.File (file_replies.Refused cause)) = let same = length-set s.slots slot (Kept node) in omega arith
heard_closed_falls s slot node (answers.File file_replies.NotOpen) = let same = length-set s.slots slot (Kept node) in omega arith
heard_closed_falls s slot node (answers.File file_replies.TooBig) = let same = length-set s.slots slot (Kept node) in omega arith
heard_closed_falls s slot node (answers.File file_replies.LowerFault) = let same = length-set s.slots slot (Kept node) in omega arith
heard_closed_falls s slot node (answers.File file_replies.Memory) = let same = length-set s.slots slot (Kept node) in omega arith

settled_falls : (s : Session) (hand : Hand) (a : Answer) → work (settled s (heard hand a)).session ≤ 2 * (length s.left + (length s.slots - s.past)) + weight hand
settled_falls s hands.Nothing a = omega arith
settled_falls s (hands.Finds slot) a = weight_found slot s a
settled_falls s (hands.Found slot node) a = omega arith
settled_falls s (hands.Attaches slot node) a = let h = heard_attached_falls s slot node a in omega arith
settled_falls s hands.OnTree a = omega arith
settled_falls s hands.OnFile a = omega arith
settled_falls s (hands.Closes slot node) a = let h = heard_closed_falls s slot node a in omega arith

told_falls : (s : Session) (a : Answer) → work (told s a).session ≤ work s
told_falls s a = settled_falls s s.hand a

by_told : (s : Session) (a : Answer) (t : Told) → t ≡ told s a → work t.session ≤ work s
by_told s a t e = subst (λ (u : Told). work u.session ≤ work s) (sym e) (told_falls s a)

moves_fall : (s : Session) (doing : Doing) (tree : List TreeEntry) (file : List FileEntry) (t : Told) → MovesBy s doing tree file t → work t.session ≤ work s
moves_fall s (CallsTree call) [] [] t m = by_told s answers.Memory t m
moves_fall s (CallsTree call) [] (f ∷ file) t m = absurd m
moves_fall s (CallsTree call) (e ∷ []) [] t m = by_told s (answers.Tree e.reply) t m.1
moves_fall s (CallsTree call) (e ∷ []) (f ∷ file) t m = absurd m
moves_fall s (CallsTree call) (e ∷ d ∷ tree) file t m = absurd m
moves_fall s (CallsFile node call) [] [] t m = by_told s answers.Memory t m.1
moves_fall s (CallsFile node call) [] (f ∷ []) t m = by_told s (answers.File f.reply) t m.1
moves_fall s (CallsFile node call) [] (f ∷ d ∷ file) t m = absurd m
moves_fall s (CallsFile node call) (e ∷ tree) file t m = absurd m
moves_fall s (Replies reply) [] [] t m = subst (λ (u : Told). work u.session ≤ work s) (sym m) (omega arith)
moves_fall s (Replies reply) [] (f ∷ file) t m = absurd m
moves_fall s (Replies reply) (e ∷ tree) file t m = absurd m
moves_fall s Ends tree file t m = absurd m

no_move : (s : Session) (doing : Doing) (tree : List TreeEntry) (file : List FileEntry) (t : Told) → doing ≡ Ends → MovesBy s doing tree file t → ⊥
no_move s doing tree file t e m = subst (λ (d : Doing). MovesBy s d tree file t) e m

-- each move of a session leaves it less work
pub move_falls : (s : Session) (made : Histories) (t : Told) → Moves s made t → work t.session < work s
move_falls s made t m =
    let most = moves_fall (asked s).session (asked s).doing made.tree made.file t m in
    elim (asked_falls s) as (λ _. work t.session < work s) [
      | inl e ↦ absurd (no_move (asked s).session (asked s).doing made.tree made.file t e m)
      | inr less ↦ omega arith
    ]
