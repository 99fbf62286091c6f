-- A bounded check of a session's entries and replies, from above and from below.
use Rattle.std.proofs.Common.{◌≡◌, ℕ, zero, suc, List, [], ◌∷◌, ◌++◌, Option, Some, None, ◌⊎◌, inl, inr, refl, sym, subst}
use Rattle.tree_model.specs.declared.call.TreeCall.{TreeCall}
use Rattle.session_model.specs.declared.file.FileCall.{FileCall}
use Rattle.session_model.specs.declared.reply.Reply.{Reply}
use Rattle.session_model.specs.declared.entry.TreeEntry.{TreeEntry}
use Rattle.session_model.specs.declared.entry.FileEntry.{FileEntry}
use Rattle.session_model.specs.declared.session.Doing.{Doing}
use Rattle.session_model.specs.declared.session.Doing.TheVariants.{CallsTree, CallsFile, Replies, Ends}
use Rattle.session_model.specs.declared.session.Answer.TheVariants as answers
use Rattle.session_model.specs.Session.{Session, asked, Told, told}
use Rattle.session_model.specs.Histories.{Histories, nothing, joined}
use Rattle.session_model.specs.Runs.{IsTreeEntry, IsFileEntry, MayLack, Moves, MovesBy, with_reply, Runs}
use Rattle.session_model.specs.Runs.Runs.{Over, Move}

abbrev pub IsNil : {A : Type 0} → List A → Type 0
IsNil [] = Unit {0}
IsNil (x ∷ xs) = ⊥

abbrev pub Expects : Option Reply → List Reply → (List Reply → Type 0) → Type 0
Expects None replies next = next replies
Expects (Some r) [] next = ⊥
Expects (Some r) (q ∷ rest) next = (q ≡ r) × next rest

-- what is left to check, of a session with these entries and replies
abbrev pub Left : Type 1
Left = Session → List TreeEntry → List FileEntry → List Reply → Type 0

abbrev pub Follows : Left → Told → List TreeEntry → List FileEntry → List Reply → Type 0
Follows later t tree file replies = Expects t.reply replies (later t.session tree file)

abbrev pub TakesTree : Left → Session → TreeCall → List TreeEntry → List FileEntry → List Reply → Type 0
TakesTree later s call [] file replies = ⊥
TakesTree later s call (e ∷ tree) file replies = IsTreeEntry s call e × Follows later (told s (answers.Tree e.reply)) tree file replies

abbrev pub TakesFile : Left → Session → ℕ → FileCall → List TreeEntry → List FileEntry → List Reply → Type 0
TakesFile later s node call tree [] replies = ⊥
TakesFile later s node call tree (e ∷ file) replies = IsFileEntry s node call e × Follows later (told s (answers.File e.reply)) tree file replies

abbrev pub Lacks : Left → Session → List TreeEntry → List FileEntry → List Reply → Type 0
Lacks later s tree file replies = MayLack s × Follows later (told s answers.Memory) tree file replies

abbrev pub StepBy : Left → Session → Doing → List TreeEntry → List FileEntry → List Reply → Type 0
StepBy later s (CallsTree call) tree file replies = Follows later (told s answers.Memory) tree file replies ⊎ TakesTree later s call tree file replies
StepBy later s (CallsFile node call) tree file replies = Lacks later s tree file replies ⊎ TakesFile later s node call tree file replies
StepBy later s (Replies reply) tree file replies = Follows later (record { reply = Some reply; session = s }) tree file replies
StepBy later s Ends tree file replies = IsNil tree × IsNil file × IsNil replies

abbrev pub Checks : Type 0 → ℕ → Left
Checks base zero s tree file replies = base
Checks base (suc n) s tree file replies = StepBy (Checks base n) (asked s).session (asked s).doing tree file replies

-- ---- from above

follows_up : (later : Left) (t : Told) (rest : Histories) (replies : List Reply) → later t.session rest.tree rest.file replies → Follows later t rest.tree rest.file (with_reply t.reply replies)
follows_up later t rest replies h = by t.reply where
  by : (r : Option Reply) → Expects r (with_reply r replies) (later t.session rest.tree rest.file)
  by None = h
  by (Some r) = (refl, h)

told_up : (later : Left) (t u : Told) (rest : Histories) (replies : List Reply) → t ≡ u → later t.session rest.tree rest.file replies → Follows later u rest.tree rest.file (with_reply t.reply replies)
told_up later t u rest replies e h = subst (λ (v : Told). Follows later v rest.tree rest.file (with_reply t.reply replies)) e (follows_up later t rest replies h)

-- one move, and what follows it, check
moves_up : (later : Left) (s : Session) (doing : Doing) (tree : List TreeEntry) (file : List FileEntry) (t : Told) (rest : Histories) (replies : List Reply) → MovesBy s doing tree file t
    → later t.session rest.tree rest.file replies → StepBy later s doing (tree ++ rest.tree) (file ++ rest.file) (with_reply t.reply replies)
moves_up later s (CallsTree call) [] [] t rest replies m h = inl (told_up later t _ rest replies m h)
moves_up later s (CallsTree call) [] (f ∷ file) t rest replies m h = absurd m
moves_up later s (CallsTree call) (e ∷ []) [] t rest replies m h = inr (m.0, told_up later t _ rest replies m.1 h)
moves_up later s (CallsTree call) (e ∷ []) (f ∷ file) t rest replies m h = absurd m
moves_up later s (CallsTree call) (e ∷ d ∷ tree) file t rest replies m h = absurd m
moves_up later s (CallsFile node call) [] [] t rest replies m h = inl (m.0, told_up later t _ rest replies m.1 h)
moves_up later s (CallsFile node call) [] (f ∷ []) t rest replies m h = inr (m.0, told_up later t _ rest replies m.1 h)
moves_up later s (CallsFile node call) [] (f ∷ d ∷ file) t rest replies m h = absurd m
moves_up later s (CallsFile node call) (e ∷ tree) file t rest replies m h = absurd m
moves_up later s (Replies reply) [] [] t rest replies m h = told_up later t _ rest replies m h
moves_up later s (Replies reply) [] (f ∷ file) t rest replies m h = absurd m
moves_up later s (Replies reply) (e ∷ tree) file t rest replies m h = absurd m
moves_up later s Ends tree file t rest replies m h = absurd m

ends_up : (later : Left) (s : Session) (doing : Doing) → doing ≡ Ends → StepBy later s doing [] [] []
ends_up later s doing e = subst (λ (d : Doing). StepBy later s d [] [] []) (sym e) (tt, tt, tt)

pub checks : (n : ℕ) (s : Session) (own : Histories) (replies : List Reply) → Runs s own replies → Checks (Unit {0}) n s own.tree own.file replies
checks zero s own replies h = tt
checks (suc n) _ _ _ (Over s own replies e o r) =
    let base : StepBy (Checks (Unit {0}) n) (asked s).session (asked s).doing [] [] [] = ends_up (Checks (Unit {0}) n) (asked s).session (asked s).doing e in
    rw (o, r) base
checks (suc n) _ _ _ (Move s own replies made rest t later m h o r) =
    let base = moves_up (Checks (Unit {0}) n) (asked s).session (asked s).doing made.tree made.file t rest later m (checks n t.session rest later h) in
    rw (o, r) base

-- ---- from below

one_more : (s : Session) (made rest : Histories) (t : Told) (later : List Reply) → Moves s made t → Runs t.session rest later → Runs s (joined made rest) (with_reply t.reply later)
one_more s made rest t later m h = Move s (joined made rest) (with_reply t.reply later) made rest t later m h refl refl

-- what follows a move runs, and so does all
abbrev pub RunsLater : Left
RunsLater s tree file replies = Runs s (record { tree = tree; file = file }) replies

follow_down : (s : Session) (made rest : Histories) (t : Told) (replies : List Reply) → Moves s made t → Follows RunsLater t rest.tree rest.file replies → Runs s (joined made rest) replies
follow_down s made rest t replies m h = by t.reply replies refl h where
  by : (r : Option Reply) (replies : List Reply) → r ≡ t.reply → Expects r replies (RunsLater t.session rest.tree rest.file) → Runs s (joined made rest) replies
  by None replies e h = subst (λ (r : Option Reply). Runs s (joined made rest) (with_reply r replies)) (sym e) (one_more s made rest t replies m h)
  by (Some r) [] e h = absurd h
  by (Some r) (q ∷ replies) e h =
      let made_it : Runs s (joined made rest) (r ∷ replies) = subst (λ (o : Option Reply). Runs s (joined made rest) (with_reply o replies)) (sym e) (one_more s made rest t replies m h.1) in
      rw h.0 made_it

moves_at : (s : Session) (doing : Doing) (made : Histories) (t : Told) → (asked s).doing ≡ doing → MovesBy (asked s).session doing made.tree made.file t → Moves s made t
moves_at s doing made t e m = subst (λ (d : Doing). MovesBy (asked s).session d made.tree made.file t) (sym e) m

step_down : (s : Session) (doing : Doing) (tree : List TreeEntry) (file : List FileEntry) (replies : List Reply) → (asked s).doing ≡ doing → StepBy RunsLater (asked s).session doing tree file replies
    → RunsLater s tree file replies
step_down s (CallsTree call) tree file replies e (inl x) =
    follow_down s nothing (record { tree = tree; file = file }) _ replies (moves_at s (CallsTree call) nothing (told (asked s).session answers.Memory) e refl) x
step_down s (CallsTree call) [] file replies e (inr x) = absurd x
step_down s (CallsTree call) (d ∷ tree) file replies e (inr x) =
    follow_down s (record { tree = d ∷ []; file = [] }) (record { tree = tree; file = file }) _ replies (moves_at s (CallsTree call) (record { tree = d ∷ []; file = [] }) (told (asked s).session (answers.Tree d.reply)) e (x.0, refl)) x.1
step_down s (CallsFile node call) tree file replies e (inl x) =
    follow_down s nothing (record { tree = tree; file = file }) _ replies (moves_at s (CallsFile node call) nothing (told (asked s).session answers.Memory) e (x.0, refl)) x.1
step_down s (CallsFile node call) tree [] replies e (inr x) = absurd x
step_down s (CallsFile node call) tree (d ∷ file) replies e (inr x) =
    follow_down s (record { tree = []; file = d ∷ [] }) (record { tree = tree; file = file }) _ replies (moves_at s (CallsFile node call) (record { tree = []; file = d ∷ [] }) (told (asked s).session (answers.File d.reply)) e (x.0, refl)) x.1
step_down s (Replies reply) tree file replies e x =
    follow_down s nothing (record { tree = tree; file = file }) _ replies (moves_at s (Replies reply) nothing (record { reply = Some reply; session = (asked s).session }) e refl) x
step_down s Ends [] [] [] e x = Over s nothing [] e refl refl
step_down s Ends (d ∷ tree) file replies e x = absurd x.0
step_down s Ends [] (d ∷ file) replies e x = absurd x.1
step_down s Ends [] [] (r ∷ replies) e x = absurd x.2

abbrev pub Below : Left → Left → Type 0
Below A B = (s : Session) (tree : List TreeEntry) (file : List FileEntry) (replies : List Reply) → A s tree file replies → B s tree file replies

follow_map : (A B : Left) → Below A B → (t : Told) (tree : List TreeEntry) (file : List FileEntry) (replies : List Reply) → Follows A t tree file replies → Follows B t tree file replies
follow_map A B f t tree file replies h = by t.reply replies h where
  by : (r : Option Reply) (replies : List Reply) → Expects r replies (A t.session tree file) → Expects r replies (B t.session tree file)
  by None replies h = f t.session tree file replies h
  by (Some r) [] h = absurd h
  by (Some r) (q ∷ replies) h = (h.0, f t.session tree file replies h.1)

step_map : (A B : Left) → Below A B → (s : Session) (doing : Doing) (tree : List TreeEntry) (file : List FileEntry) (replies : List Reply) → StepBy A s doing tree file replies → StepBy B s doing tree file replies
step_map A B f s (CallsTree call) tree file replies (inl x) = inl (follow_map A B f (told s answers.Memory) tree file replies x)
step_map A B f s (CallsTree call) [] file replies (inr x) = absurd x
step_map A B f s (CallsTree call) (d ∷ tree) file replies (inr x) = inr (x.0, follow_map A B f _ tree file replies x.1)
step_map A B f s (CallsFile node call) tree file replies (inl x) = inl (x.0, follow_map A B f _ tree file replies x.1)
step_map A B f s (CallsFile node call) tree [] replies (inr x) = absurd x
step_map A B f s (CallsFile node call) tree (d ∷ file) replies (inr x) = inr (x.0, follow_map A B f _ tree file replies x.1)
step_map A B f s (Replies reply) tree file replies x = follow_map A B f (record { reply = Some reply; session = s }) tree file replies x
step_map A B f s Ends tree file replies x = x

pub runs : (n : ℕ) (s : Session) (tree : List TreeEntry) (file : List FileEntry) (replies : List Reply) → Checks ⊥ n s tree file replies → Runs s (record { tree = tree; file = file }) replies
runs zero s tree file replies h = absurd h
runs (suc n) s tree file replies h =
    step_down s (asked s).doing tree file replies refl (step_map (Checks ⊥ n) RunsLater (runs n) (asked s).session (asked s).doing tree file replies h)
