-- What a session opens is what the tree told it, and that is a file that was there at first, or one with a new number.
use Rattle.std.proofs.Common.{◌≡◌, ◌≢◌, ℕ, ◌+◌, ◌<◌, ◌≤◌, ◌⊎◌, inl, inr, Bool, true, false, List, [], ◌∷◌, ◌++◌, length, Option, Some, None, refl, sym, ap, subst, ◌∙◌, arith}
use Rattle.std.specs.Prelude.{slice_get, filter, ◌==◌}
use Rattle.std.specs.List.{AllByRecursion}
use Rattle.std.proofs.lemmas.Bool.{cases_lt}
use Rattle.std.proofs.lemmas.Bool.Decides.{eqb_tells}
use Rattle.tree_model.specs.declared.call.TreeCall.{TreeCall}
use Rattle.tree_model.specs.declared.call.TreeReply.{TreeReply}
use Rattle.tree_model.specs.declared.call.TreeReply.TheVariants as tree_replies
use Rattle.tree_model.specs.declared.place.Place.{Place}
use Rattle.tree_model.specs.declared.place.Place.TheVariants.{File}
use Rattle.tree_model.specs.PlainTree.{PlainTree, Stepped, step}
use Rattle.tree_model.proofs.FileNumbers.{GrowsFrom, grows_not, grows_on, grows_step, node_of_step}
use Rattle.session_model.specs.declared.file.FileCall.{FileCall}
use Rattle.session_model.specs.declared.file.FileCall.TheVariants as on_file
use Rattle.session_model.specs.declared.file.FileReply.TheVariants as file_replies
use Rattle.session_model.specs.declared.entry.TreeEntry.{TreeEntry}
use Rattle.session_model.specs.declared.entry.FileEntry.{FileEntry}
use Rattle.session_model.specs.declared.reply.Reply.{Reply}
use Rattle.script_model.specs.declared.op.Op.{Op}
use Rattle.script_model.specs.declared.op.Op.TheVariants as ops
use Rattle.session_model.specs.declared.session.Slot.{Slot}
use Rattle.session_model.specs.declared.session.Hand.{Hand}
use Rattle.session_model.specs.declared.session.Hand.TheVariants as hands
use Rattle.session_model.specs.declared.session.Doing.{Doing}
use Rattle.session_model.specs.declared.session.Doing.TheVariants.{CallsTree, CallsFile, Replies, Ends}
use Rattle.session_model.specs.declared.session.Begun.{Begun}
use Rattle.session_model.specs.declared.session.Heard.{Heard}
use Rattle.session_model.specs.declared.session.Heard.TheVariants as heards
use Rattle.session_model.specs.declared.session.Answer.{Answer}
use Rattle.session_model.specs.declared.session.Answer.TheVariants as answers
use Rattle.session_model.specs.Session.{Session, Upcoming, Asked, Told, fresh, asked, taken_up, told, settled, heard, heard_found, heard_attached, heard_closed, begun, node_at, asks_open, asks_file, asks_close, closes, upcoming, behind}
use Rattle.session_model.specs.Histories.{Histories, entries_of}
use Rattle.session_model.specs.Legal.{IsLegal}
use Rattle.session_model.specs.TreeLog.{IsTurn, Turns, IsTreeLog}
use Rattle.session_model.specs.Runs.{IsFileEntry, MovesBy, Runs}
use Rattle.session_model.specs.Runs.Runs.{Over, Move}
use Rattle.session_model.specs.ScriptCalls.{AreSessions, AreScriptCalls}

-- ---- what a session opens

-- what holds of each node that the tree tells holds of the node of an entry
pub record TellsOnly (P : ℕ → Type 0) (e : TreeEntry) : Type 0 where
  pub node : (n : ℕ) → e.reply ≡ tree_replies.Node n → P n

-- what holds of each node that is opened holds of the node of an entry
pub record OpensOnly (P : ℕ → Type 0) (e : FileEntry) : Type 0 where
  pub node : (slot : ℕ) → e.call ≡ on_file.Attach slot → P e.node

all-left : {A : Type 0} → (P : A → Type 0) (xs ys : List A) → AllByRecursion P (xs ++ ys) → AllByRecursion P xs
all-left P [] ys h = tt
all-left P (x ∷ xs) ys h = (h.0, all-left P xs ys h.1)

all-right : {A : Type 0} → (P : A → Type 0) (xs ys : List A) → AllByRecursion P (xs ++ ys) → AllByRecursion P ys
all-right P [] ys h = h
all-right P (x ∷ xs) ys h = all-right P xs ys h.1

all-append : {A : Type 0} → (P : A → Type 0) (xs ys : List A) → AllByRecursion P xs → AllByRecursion P ys → AllByRecursion P (xs ++ ys)
all-append P [] ys p q = q
all-append P (x ∷ xs) ys p q = (p.0, all-append P xs ys p.1 q)

module _ (P : ℕ → Type 0) where
  -- The node in hand that is to be opened was told.
  abbrev HandTold : Hand → Type 0
  HandTold (hands.Found slot node) = P node
  HandTold (hands.Attaches slot node) = P node
  HandTold hand = Unit {0}

  -- The node that is opened was told.
  abbrev CallTold : ℕ → FileCall → Type 0
  CallTold node (on_file.Attach slot) = P node
  CallTold node call = Unit {0}

  abbrev DoingTold : Doing → Type 0
  DoingTold (CallsFile node call) = CallTold node call
  DoingTold doing = Unit {0}

  -- ---- what is asked

  record BegunTold (b : Begun) : Type 0 where
    doing : DoingTold b.doing
    hand : HandTold b.hand

  open_told : (o : Option ℕ) (slot : ℕ) (call : TreeCall) → BegunTold (asks_open o slot call)
  open_told None slot call = record { doing = tt; hand = tt }
  open_told (Some node) slot call = record { doing = tt; hand = tt }

  close_told : (o : Option ℕ) (slot : ℕ) → BegunTold (asks_close o slot)
  close_told None slot = record { doing = tt; hand = tt }
  close_told (Some node) slot = record { doing = tt; hand = tt }

  file_told : (o : Option ℕ) (call : FileCall) → ((node : ℕ) → CallTold node call) → BegunTold (asks_file o call)
  file_told None call h = record { doing = tt; hand = tt }
  file_told (Some node) call h = record { doing = h node; hand = tt }

  begun_told : (slots : List Slot) (op : Op) → BegunTold (begun slots op)
  begun_told slots (ops.Mkdir path) = record { doing = tt; hand = tt }
  begun_told slots (ops.Rmdir path) = record { doing = tt; hand = tt }
  begun_told slots (ops.Unlink path) = record { doing = tt; hand = tt }
  begun_told slots (ops.Rename paths) = record { doing = tt; hand = tt }
  begun_told slots (ops.List path) = record { doing = tt; hand = tt }
  begun_told slots (ops.Stat path) = record { doing = tt; hand = tt }
  begun_told slots (ops.Open slot path) = open_told (node_at slots slot) slot _
  begun_told slots (ops.Create slot path) = open_told (node_at slots slot) slot _
  begun_told slots (ops.Read slot at len) = file_told (node_at slots slot) (on_file.Read slot at len) (λ node. tt)
  begun_told slots (ops.Write slot at octets) = file_told (node_at slots slot) (on_file.Write slot at octets) (λ node. tt)
  begun_told slots (ops.Truncate slot size) = file_told (node_at slots slot) (on_file.Truncate slot size) (λ node. tt)
  begun_told slots (ops.Size slot) = file_told (node_at slots slot) (on_file.Size slot) (λ node. tt)
  begun_told slots (ops.Sync slot) = file_told (node_at slots slot) (on_file.Sync slot) (λ node. tt)
  begun_told slots (ops.Close slot) = close_told (node_at slots slot) slot

  closes_told : (slots : List Slot) (past : ℕ) (o : Option ℕ) → BegunTold (closes slots past o).begun
  closes_told slots past None = record { doing = tt; hand = tt }
  closes_told slots past (Some slot) = close_told (node_at slots slot) slot

  upcoming_told : (left : List Op) (slots : List Slot) (past : ℕ) (hand : Hand) → HandTold hand → BegunTold (upcoming left slots past hand).begun
  upcoming_told [] slots past hands.Nothing h = closes_told slots past _
  upcoming_told (op ∷ left) slots past hands.Nothing h = begun_told slots op
  upcoming_told left slots past (hands.Found slot node) h = record { doing = h; hand = h }
  upcoming_told left slots past (hands.Finds slot) h = record { doing = tt; hand = tt }
  upcoming_told left slots past (hands.Attaches slot node) h = record { doing = tt; hand = h }
  upcoming_told left slots past hands.OnTree h = record { doing = tt; hand = tt }
  upcoming_told left slots past hands.OnFile h = record { doing = tt; hand = tt }
  upcoming_told left slots past (hands.Closes slot node) h = record { doing = tt; hand = tt }

  behind_told : (d : Doing) (s : Session) (hand : Hand) → HandTold hand → HandTold (behind d s hand).hand
  behind_told (Replies reply) s hand h = tt
  behind_told (CallsTree call) s hand h = h
  behind_told (CallsFile node call) s hand h = h
  behind_told Ends s hand h = h

  record AskedTold (a : Asked) : Type 0 where
    doing : DoingTold a.doing
    hand : HandTold a.session.hand

  taken_told : (s : Session) (u : Upcoming) → BegunTold u.begun → AskedTold (taken_up s u)
  taken_told s u h = record { doing = h.doing; hand = behind_told u.begun.doing (record s { left = u.left; past = u.past }) u.begun.hand h.hand }

  asked_told : (s : Session) → HandTold s.hand → AskedTold (asked s)
  asked_told s h = taken_told s (upcoming s.left s.slots s.past s.hand) (upcoming_told s.left s.slots s.past s.hand h)

  -- ---- what an answer leaves in hand

  -- the node that an answer tells
  abbrev AnswerTold : Answer → Type 0
  AnswerTold (answers.Tree reply) = (n : ℕ) → reply ≡ tree_replies.Node n → P n
  AnswerTold answer = Unit {0}

  abbrev HeardTold : Heard → Type 0
  HeardTold (heards.GoesOn hand) = HandTold hand
  HeardTold heard = Unit {0}

  found_told : (slot : ℕ) (a : Answer) → AnswerTold a → HeardTold (heard_found slot a)
  found_told slot (answers.Tree (tree_replies.Node node)) h = h node refl
  found_told slot (answers.Tree reply) h = tt
  found_told slot (answers.File reply) h = tt
  found_told slot answers.Memory h = tt

  attached_told : (slot node : ℕ) (a : Answer) → HeardTold (heard_attached slot node a)
  attached_told slot node (answers.Tree reply) = tt
  attached_told slot node answers.Memory = tt
  attached_told slot node (answers.File file_replies.Done) = tt
  attached_told slot node (answers.File reply) = tt

  closed_told : (slot node : ℕ) (a : Answer) → HeardTold (heard_closed slot node a)
  closed_told slot node (answers.Tree reply) = tt
  closed_told slot node answers.Memory = tt
  closed_told slot node (answers.File file_replies.Done) = tt
  closed_told slot node (answers.File reply) = tt

  heard_told : (hand : Hand) (a : Answer) → AnswerTold a → HeardTold (heard hand a)
  heard_told (hands.Finds slot) a h = found_told slot a h
  heard_told (hands.Attaches slot node) a h = attached_told slot node a
  heard_told (hands.Closes slot node) a h = closed_told slot node a
  heard_told hand a h = tt

  settled_told : (s : Session) (x : Heard) → HeardTold x → HandTold (settled s x).session.hand
  settled_told s (heards.GoesOn hand) h = h
  settled_told s (heards.Ends reply) h = tt
  settled_told s (heards.EndsWith slot what reply) h = tt

  told_told : (s : Session) (a : Answer) (t : Told) → AnswerTold a → t ≡ told s a → HandTold t.session.hand
  told_told s a t h is = subst (λ (u : Told). HandTold u.session.hand) (sym is) (settled_told s (heard s.hand a) (heard_told s.hand a h))

  -- ---- a move, and a run

  record MoveTold (file : List FileEntry) (t : Told) : Type 0 where
    opens : AllByRecursion (OpensOnly P) file
    hand : HandTold t.session.hand

  call_told : (node slot : ℕ) (call : FileCall) → call ≡ on_file.Attach slot → CallTold node call → P node
  call_told node slot call e h = subst (CallTold node) e h

  entry_told : (s : Session) (node : ℕ) (call : FileCall) (e : FileEntry) → IsFileEntry s node call e → CallTold node call → OpensOnly P e
  entry_told s node call e is h = record { node = λ slot attach. subst P (sym is.node_is) (call_told node slot call (sym is.call_is ∙ attach) h) }

  moves_told : (s : Session) (doing : Doing) (tree : List TreeEntry) (file : List FileEntry) (t : Told) → DoingTold doing → HandTold s.hand → AllByRecursion (TellsOnly P) tree → MovesBy s doing tree file t → MoveTold file t
  moves_told s (CallsTree call) [] [] t d h all m = record { opens = tt; hand = told_told s answers.Memory t tt m }
  moves_told s (CallsTree call) [] (f ∷ file) t d h all m = absurd m
  moves_told s (CallsTree call) (e ∷ []) [] t d h all m = record { opens = tt; hand = told_told s (answers.Tree e.reply) t all.0.node m.1 }
  moves_told s (CallsTree call) (e ∷ []) (f ∷ file) t d h all m = absurd m
  moves_told s (CallsTree call) (e ∷ g ∷ tree) file t d h all m = absurd m
  moves_told s (CallsFile node call) [] [] t d h all m = record { opens = tt; hand = told_told s answers.Memory t tt m.1 }
  moves_told s (CallsFile node call) [] (f ∷ []) t d h all m = record { opens = (entry_told s node call f m.0 d, tt); hand = told_told s (answers.File f.reply) t tt m.1 }
  moves_told s (CallsFile node call) [] (f ∷ g ∷ file) t d h all m = absurd m
  moves_told s (CallsFile node call) (e ∷ tree) file t d h all m = absurd m
  moves_told s (Replies reply) [] [] t d h all m = record { opens = tt; hand = subst (λ (u : Told). HandTold u.session.hand) (sym m) h }
  moves_told s (Replies reply) [] (f ∷ file) t d h all m = absurd m
  moves_told s (Replies reply) (e ∷ tree) file t d h all m = absurd m
  moves_told s Ends tree file t d h all m = absurd m

  runs_told : (s : Session) (own : Histories) (replies : List Reply) → Runs s own replies → HandTold s.hand → AllByRecursion (TellsOnly P) own.tree → AllByRecursion (OpensOnly P) own.file
  runs_told _ _ _ (Over s own replies ends none same) h all = subst (λ (x : Histories). AllByRecursion (OpensOnly P) x.file) (sym none) tt
  runs_told _ _ _ (Move s own replies made rest t later moves runs is adds) h all =
      let both : AllByRecursion (TellsOnly P) (made.tree ++ rest.tree) = subst (λ (x : Histories). AllByRecursion (TellsOnly P) x.tree) is all in
      let a = asked_told s h in
      let m = moves_told (asked s).session (asked s).doing made.tree made.file t a.doing a.hand (all-left (TellsOnly P) made.tree rest.tree both) moves in
      let more = runs_told t.session rest later runs m.hand (all-right (TellsOnly P) made.tree rest.tree both) in
      subst (λ (x : Histories). AllByRecursion (OpensOnly P) x.file) (sym is) (all-append (OpensOnly P) made.file rest.file m.opens more)

  -- Whatever holds of each node that the tree told a session, which has nothing in hand, holds of each node that it opens.
  pub opened_as_told : (s : Session) (own : Histories) (replies : List Reply) → s.hand ≡ hands.Nothing → Runs s own replies → AllByRecursion (TellsOnly P) own.tree → AllByRecursion (OpensOnly P) own.file
  opened_as_told s own replies none runs all = runs_told s own replies runs (subst HandTold (sym none) tt) all

-- ---- what the tree tells

-- A file that was there at first, or a number that nobody had then.
abbrev pub IsOfFile : List Place → ℕ → Type 0
IsOfFile places n = (slice_get places n ≡ Some File) ⊎ (length places ≤ n)

-- A turn is a step, or it tells no node and leaves the tree.
no_step : (reply : TreeReply) (call : TreeCall) (before after : ℕ) (old new : PlainTree) → Turns reply call before after old new
    → (step old call ≡ record { reply = reply; tree = new }) ⊎ ((new ≡ old) × ((n : ℕ) → reply ≡ tree_replies.Node n → ⊥))
no_step (tree_replies.Node n) call before after old new h = inl h
no_step tree_replies.Done call before after old new h = inl h
no_step (tree_replies.Names names) call before after old new h = inl h
no_step (tree_replies.Info kind n) call before after old new h = inl h
no_step (tree_replies.Refused refusal) call before after old new h = inl h
no_step tree_replies.LowerFault call before after old new h = inr (h.2, λ n e. other n e)
  where
    other : (n : ℕ) → tree_replies.LowerFault ≡ tree_replies.Node n → ⊥
    other n e = cc
no_step tree_replies.Memory call before after old new h = inr (h, λ n e. other n e)
  where
    other : (n : ℕ) → tree_replies.Memory ≡ tree_replies.Node n → ⊥
    other n e = cc

record TurnTold (old : PlainTree) (e : TreeEntry) (new : PlainTree) : Type 0 where
  grows : GrowsFrom old.places new.places
  node : (n : ℕ) → e.reply ≡ tree_replies.Node n → IsOfFile old.places n

turn_told : (old : PlainTree) (e : TreeEntry) (new : PlainTree) → IsTurn old e new → TurnTold old e new
turn_told old e new turn = elim (no_step e.reply e.call e.before e.after old new turn.turns) [
  | inl is ↦ record {
    grows = subst (λ (s : Stepped). GrowsFrom old.places s.tree.places) is (grows_step old e.call);
    node = λ n told. elim (node_of_step old e.call n (ap (λ (s : Stepped). s.reply) is ∙ told)) [
      | inl there ↦ inl there
      | inr last ↦ inr (omega (arith, last))
    ];
  }
  | inr is ↦ record {
    grows = subst (λ (t : PlainTree). GrowsFrom old.places t.places) (sym is.0) (grows_not old.places);
    node = λ n told. absurd (is.1 n told);
  }
]

-- what is told later, seen from before
told_before : (start old : List Place) (n : ℕ) → GrowsFrom start old → IsOfFile old n → IsOfFile start n
told_before start old n grows (inr last) = inr (let longer = grows.longer in omega arith)
told_before start old n grows (inl there) = elim (cases_lt n (length start)) [
  | inl lt ↦ inl (grows.files n lt there)
  | inr ge ↦ inr ge
]

log_told : (start old : PlainTree) (log : List TreeEntry) (new : PlainTree) → GrowsFrom start.places old.places → IsLegal IsTurn old log new → AllByRecursion (TellsOnly (IsOfFile start.places)) log
log_told start old [] new grows legal = tt
log_told start old (e ∷ log) new grows legal =
    let turn = turn_told old e legal.0 legal.1 in (
      record { node = λ n told. told_before start.places old.places n grows (turn.node n told) },
      log_told start legal.0 log new (grows_on start.places old.places legal.0.places grows turn.grows) legal.2,
    )

-- Each node that a tree tells along its log is a file that was there at first, or has a new number.
pub told_by_log : (start : PlainTree) (first : ℕ) (log : List TreeEntry) (end : PlainTree) (last : ℕ) → IsTreeLog start first log end last → AllByRecursion (TellsOnly (IsOfFile start.places)) log
told_by_log start first log end last tree = log_told start start log end (grows_not start.places) tree.legal

-- ---- each entry by itself

-- an entry of a list
abbrev pub IsIn : {A : Type 0} → A → List A → Type 0
IsIn x [] = ⊥
IsIn x (y ∷ ys) = (x ≡ y) ⊎ IsIn x ys

each : {A : Type 0} → (P : A → Type 0) (xs : List A) → AllByRecursion P xs → (x : A) → IsIn x xs → P x
each P [] all x h = absurd h
each P (y ∷ xs) all x (inl e) = subst P (sym e) all.0
each P (y ∷ xs) all x (inr h) = each P xs all.1 x h

all_in : {A : Type 0} → (P : A → Type 0) (xs : List A) → ((x : A) → IsIn x xs → P x) → AllByRecursion P xs
all_in P [] h = tt
all_in P (y ∷ xs) h = (h y (inl refl), all_in P xs (λ x i. h x (inr i)))

-- A session opens no node that no entry of its own tells.
pub opened_was_told : (s : Session) (own : Histories) (replies : List Reply) → s.hand ≡ hands.Nothing → Runs s own replies
    → (f : FileEntry) → IsIn f own.file → (slot : ℕ) → f.call ≡ on_file.Attach slot → (e : TreeEntry) × IsIn e own.tree × (e.reply ≡ tree_replies.Node f.node)
opened_was_told s own replies none runs f is slot attach =
    let P : ℕ → Type 0 = λ n. (e : TreeEntry) × IsIn e own.tree × (e.reply ≡ tree_replies.Node n) in
    let all = opened_as_told P s own replies none runs (all_in (TellsOnly P) own.tree (λ e i. record { node = λ n told. (e, i, told) })) in
    (each (OpensOnly P) own.file all f is).node slot attach

-- ---- all sessions of a run

all_filter : {A : Type 0} → (P : A → Type 0) (test : A → Bool) (xs : List A) → AllByRecursion P xs → AllByRecursion P (filter test xs)
all_filter P test [] h = tt
all_filter {A} P test (x ∷ xs) h = by (test x) refl (all_filter P test xs h.1)
  where
    by : (b : Bool) → test x ≡ b → AllByRecursion P (filter test xs) → AllByRecursion P (filter test (x ∷ xs))
    by true is rest = rw is (h.0, rest)
    by false is rest = rw is rest

-- what is left of the entries of one session
filter_rest : {A : Type 0} → (P : A → Type 0) (test : A → Bool) (x : A) (xs : List A) → AllByRecursion P (filter test (x ∷ xs)) → AllByRecursion P (filter test xs)
filter_rest {A} P test x xs = by (test x) refl
  where
    by : (b : Bool) → test x ≡ b → AllByRecursion P (filter test (x ∷ xs)) → AllByRecursion P (filter test xs)
    by true is h = (rw is at h).1
    by false is h = rw is at h

-- what holds of the entries of each session holds of all
all_sessions : (P : FileEntry → Type 0) (count : ℕ) (xs : List FileEntry) → AllByRecursion (λ (e : FileEntry). e.session < count) xs → ((s : ℕ) → s < count → AllByRecursion P (filter (λ (e : FileEntry). e.session == s) xs)) → AllByRecursion P xs
all_sessions P count [] own h = tt
all_sessions P count (x ∷ xs) own h = (
  let own_entries = h x.session own.0 in
      elim (eqb_tells x.session x.session) [
        | inl e ↦ (rw e.0 at own_entries).0
        | inr e ↦ absurd (e.1 refl)
      ],
  all_sessions P count xs own.1 (λ s lt. filter_rest P (λ (e : FileEntry). e.session == s) x xs (h s lt)),
)

sessions_told : (P : ℕ → Type 0) (session : ℕ) (scripts : List (List Op)) (all : Histories) (sessions : List (List Reply)) → AreSessions session scripts all sessions → AllByRecursion (TellsOnly P) all.tree
    → (s : ℕ) → session ≤ s → s < session + length scripts → AllByRecursion (OpensOnly P) (entries_of s all).file
sessions_told P session [] all [] calls told s from below = absurd (omega arith)
sessions_told P session [] all (replies ∷ sessions) calls told s from below = absurd calls
sessions_told P session (script ∷ scripts) all [] calls told s from below = absurd calls
sessions_told P session (script ∷ scripts) all (replies ∷ sessions) calls told s from below = elim (eqb_tells s session) [
  | inl e ↦ subst (λ (j : ℕ). AllByRecursion (OpensOnly P) (entries_of j all).file) (sym e.1)
      (opened_as_told P (fresh session script) (entries_of session all) replies refl calls.0 (all_filter (TellsOnly P) (λ (x : TreeEntry). x.session == session) all.tree told))
  | inr e ↦ (let other : s ≢ session = e.1 in sessions_told P (session + 1) scripts all sessions calls.1 told s (omega arith) (omega arith))
]

-- Whatever holds of each node that the tree told holds of each node that a session opens.
pub all_opened_as_told : (P : ℕ → Type 0) (scripts : List (List Op)) (all : Histories) (sessions : List (List Reply)) → AreScriptCalls scripts all sessions → AllByRecursion (TellsOnly P) all.tree → AllByRecursion (OpensOnly P) all.file
all_opened_as_told P scripts all sessions calls told =
    all_sessions (OpensOnly P) (length scripts) all.file calls.no_other.file (λ s lt. sessions_told P 0 scripts all sessions calls.each told s (omega arith) (omega arith))
