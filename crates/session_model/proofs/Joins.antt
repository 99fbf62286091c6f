-- The order of a schedule, and the calls of each script.
use Rattle.std.proofs.Common.{◌≡◌, ◌≢◌, ℕ, zero, suc, Bool, true, false, List, [], ◌∷◌, ◌++◌, Option, Some, None, refl, sym, subst, ap, ◌∙◌, arith, append_assoc}
use Rattle.std.specs.Prelude.{slice_set, slice_get, filter, ◌==◌}
use Rattle.std.proofs.lemmas.List.{append-nil}
use Rattle.std.proofs.lemmas.Bool.{eq-eqb, eqb-false, eqb-true}
use Rattle.std.proofs.lemmas.List.Elements.{filter-append}
use Rattle.session_model.specs.declared.entry.TreeEntry.{TreeEntry}
use Rattle.session_model.specs.declared.entry.FileEntry.{FileEntry}
use Rattle.session_model.specs.declared.reply.Reply.{Reply}
use Rattle.session_model.specs.declared.session.Doing.{Doing}
use Rattle.session_model.specs.declared.session.Doing.TheVariants.{CallsTree, CallsFile, Replies, Ends}
use Rattle.session_model.specs.declared.session.Hand.{Hand}
use Rattle.session_model.specs.declared.session.Heard.{Heard}
use Rattle.session_model.specs.declared.session.Heard.TheVariants as heards
use Rattle.session_model.specs.declared.session.Answer.{Answer}
use Rattle.session_model.specs.declared.session.Answer.TheVariants as answers
use Rattle.session_model.specs.Session.{Session, Member, Told, asked, told, settled, heard, behind, upcoming, after, reply_list}
use Rattle.session_model.specs.Histories.{Histories, nothing, joined, entries_of}
use Rattle.session_model.specs.Runs.{Moves, MovesBy, Runs, with_reply}
use Rattle.session_model.specs.Runs.Runs.{Over, Move}
use Rattle.session_model.specs.Walks.{Item, Walks}
use Rattle.session_model.specs.Walks.Item.{Idle, Busy}
use Rattle.session_model.specs.Walks.Walks.{Stop, Next}

-- ---- a session keeps its number

behind_id : (d : Doing) (s : Session) (hand : Hand) → (behind d s hand).id ≡ s.id
behind_id (CallsTree call) s hand = refl
behind_id (CallsFile node call) s hand = refl
behind_id (Replies reply) s hand = refl
behind_id Ends s hand = refl

pub asked_id : (s : Session) → (asked s).session.id ≡ s.id
asked_id s = let u = upcoming s.left s.slots s.past s.hand in behind_id u.begun.doing (record s { left = u.left; past = u.past }) u.begun.hand

settled_id : (s : Session) (h : Heard) → (settled s h).session.id ≡ s.id
settled_id s (heards.GoesOn hand) = refl
settled_id s (heards.Ends reply) = refl
settled_id s (heards.EndsWith slot what reply) = refl

by_told : (s : Session) (a : Answer) (t : Told) → t ≡ told s a → t.session.id ≡ s.id
by_told s a t e = ap (λ (u : Told). u.session.id) e ∙ settled_id s (heard s.hand a)

pub record IsOf (s : Session) (tree : List TreeEntry) (file : List FileEntry) (t : Told) : Type 0 where
  pub id : t.session.id ≡ s.id
  pub trees : (k : ℕ) → ((k ≡ s.id) → filter (λ (e : TreeEntry). e.session == k) tree ≡ tree) × ((k ≢ s.id) → filter (λ (e : TreeEntry). e.session == k) tree ≡ [])
  pub files : (k : ℕ) → ((k ≡ s.id) → filter (λ (e : FileEntry). e.session == k) file ≡ file) × ((k ≢ s.id) → filter (λ (e : FileEntry). e.session == k) file ≡ [])

neq-eqb : (a b : ℕ) → a ≢ b → (a == b) ≡ false
neq-eqb a b h = grind arith

no_tree : (k n : ℕ) → ((k ≡ n) → filter (λ (e : TreeEntry). e.session == k) [] ≡ []) × ((k ≢ n) → filter (λ (e : TreeEntry). e.session == k) [] ≡ [])
no_tree k n = (λ h. refl, λ h. refl)

no_file : (k n : ℕ) → ((k ≡ n) → filter (λ (e : FileEntry). e.session == k) [] ≡ []) × ((k ≢ n) → filter (λ (e : FileEntry). e.session == k) [] ≡ [])
no_file k n = (λ h. refl, λ h. refl)

one_tree : (e : TreeEntry) (n k : ℕ) → e.session ≡ n → ((k ≡ n) → filter (λ (e : TreeEntry). e.session == k) (e ∷ []) ≡ e ∷ []) × ((k ≢ n) → filter (λ (e : TreeEntry). e.session == k) (e ∷ []) ≡ [])
one_tree e n k is = (λ h. rw (eq-eqb e.session k (is ∙ sym h)) refl, λ h. rw (neq-eqb e.session k (λ g. h (sym g ∙ is))) refl)

one_file : (e : FileEntry) (n k : ℕ) → e.session ≡ n → ((k ≡ n) → filter (λ (e : FileEntry). e.session == k) (e ∷ []) ≡ e ∷ []) × ((k ≢ n) → filter (λ (e : FileEntry). e.session == k) (e ∷ []) ≡ [])
one_file e n k is = (λ h. rw (eq-eqb e.session k (is ∙ sym h)) refl, λ h. rw (neq-eqb e.session k (λ g. h (sym g ∙ is))) refl)

moves_of : (s : Session) (doing : Doing) (tree : List TreeEntry) (file : List FileEntry) (t : Told) → MovesBy s doing tree file t → IsOf s tree file t
moves_of s (CallsTree call) [] [] t m = record { id = by_told s answers.Memory t m; trees = λ k. no_tree k s.id; files = λ k. no_file k s.id }
moves_of s (CallsTree call) [] (f ∷ file) t m = absurd m
moves_of s (CallsTree call) (e ∷ []) [] t m = record { id = by_told s (answers.Tree e.reply) t m.1; trees = λ k. one_tree e s.id k m.0.session; files = λ k. no_file k s.id }
moves_of s (CallsTree call) (e ∷ []) (f ∷ file) t m = absurd m
moves_of s (CallsTree call) (e ∷ d ∷ tree) file t m = absurd m
moves_of s (CallsFile node call) [] [] t m = record { id = by_told s answers.Memory t m.1; trees = λ k. no_tree k s.id; files = λ k. no_file k s.id }
moves_of s (CallsFile node call) [] (f ∷ []) t m = record { id = by_told s (answers.File f.reply) t m.1; trees = λ k. no_tree k s.id; files = λ k. one_file f s.id k m.0.session }
moves_of s (CallsFile node call) [] (f ∷ d ∷ file) t m = absurd m
moves_of s (CallsFile node call) (e ∷ tree) file t m = absurd m
moves_of s (Replies reply) [] [] t m = record { id = ap (λ (u : Told). u.session.id) m; trees = λ k. no_tree k s.id; files = λ k. no_file k s.id }
moves_of s (Replies reply) [] (f ∷ file) t m = absurd m
moves_of s (Replies reply) (e ∷ tree) file t m = absurd m
moves_of s Ends tree file t m = absurd m

pub moves_id : (s : Session) (made : Histories) (t : Told) → Moves s made t → t.session.id ≡ s.id
moves_id s made t m = (moves_of (asked s).session (asked s).doing made.tree made.file t m).id ∙ asked_id s

-- ---- entries of one session

pub entries_joined : (k : ℕ) (a b : Histories) → entries_of k (joined a b) ≡ joined (entries_of k a) (entries_of k b)
entries_joined k a b = rw (filter-append (λ (e : TreeEntry). e.session == k) a.tree b.tree, filter-append (λ (e : FileEntry). e.session == k) a.file b.file) refl

-- what a move makes is the session's
pub made_own : (k : ℕ) (s : Session) (made : Histories) (t : Told) → Moves s made t → k ≡ s.id → entries_of k made ≡ made
made_own k s made t m e =
    let of = moves_of (asked s).session (asked s).doing made.tree made.file t m in
    let same : k ≡ (asked s).session.id = e ∙ sym (asked_id s) in
    rw ((of.trees k).0 same, (of.files k).0 same) refl

made_others : (k : ℕ) (s : Session) (made : Histories) (t : Told) → Moves s made t → k ≢ s.id → entries_of k made ≡ nothing
made_others k s made t m e =
    let of = moves_of (asked s).session (asked s).doing made.tree made.file t m in
    let other : k ≢ (asked s).session.id = λ g. e (g ∙ asked_id s) in
    rw ((of.trees k).1 other, (of.files k).1 other) refl

-- ---- the list of sessions

pub get_set_same : {A : Type 0} → (xs : List A) (i : ℕ) (x v : A) → slice_get xs i ≡ Some x → slice_get (slice_set xs i v) i ≡ Some v
get_set_same [] i x v h = cc
get_set_same (y ∷ xs) zero x v h = refl
get_set_same (y ∷ xs) (suc i) x v h = get_set_same xs i x v h

pub get_set_other : {A : Type 0} → (xs : List A) (i j : ℕ) (v : A) → j ≢ i → slice_get (slice_set xs i v) j ≡ slice_get xs j
get_set_other [] i j v h = refl
get_set_other (y ∷ xs) zero zero v h = absurd (h refl)
get_set_other (y ∷ xs) zero (suc j) v h = refl
get_set_other (y ∷ xs) (suc i) zero v h = refl
get_set_other (y ∷ xs) (suc i) (suc j) v h = get_set_other xs i j v (λ e. h (ap (λ (n : ℕ). suc n) e))

-- each session has the number of its place
abbrev pub Numbered : List Member → Type 0
Numbered all = (j : ℕ) (m : Member) → slice_get all j ≡ Some m → m.session.id ≡ j

pub some_same : {A : Type 0} → (x y : A) (o : Option A) → o ≡ Some x → o ≡ Some y → x ≡ y
some_same x y o p q = cc

numbered_set : (all : List Member) (k : ℕ) (m : Member) (t : Told) → slice_get all k ≡ Some m → t.session.id ≡ m.session.id → Numbered all → Numbered (slice_set all k (after m t))
numbered_set all k m t get id n j x h = by (j == k) refl where
  by : (b : Bool) → (j == k) ≡ b → x.session.id ≡ j
  by true e =
      let same : j ≡ k = eqb-true j k e in
      let at : slice_get (slice_set all k (after m t)) k ≡ Some x = subst (λ (i : ℕ). slice_get (slice_set all k (after m t)) i ≡ Some x) same h in
      let is : after m t ≡ x = some_same (after m t) x _ (get_set_same all k m (after m t) get) at in
      sym (ap (λ (y : Member). y.session.id) is) ∙ id ∙ n k m get ∙ sym same
  by false e =
      let other : j ≢ k = eqb-false j k e in
      n j x (sym (get_set_other all k j (after m t) other) ∙ h)

pub numbered_next : (all next : List Member) (k : ℕ) (made : Histories) → Item all k made next → Numbered all → Numbered next
numbered_next _ _ _ _ (Idle all k made next m get ends none same) n = subst Numbered (sym same) n
numbered_next _ _ _ _ (Busy all k made next m t get moves same) n = subst Numbered (sym same) (numbered_set all k m t get (moves_id m.session made t moves) n)

-- A session runs from here to where it is at the end, with these entries.
pub record Ran (m : Member) (own : Histories) (last : Member) : Type 0 where
  pub later : List Reply
  pub runs : Runs m.session own later
  pub replies : last.replies ≡ m.replies ++ later

with_reply_list : (r : Option Reply) (later : List Reply) → with_reply r later ≡ reply_list r ++ later
with_reply_list None later = refl
with_reply_list (Some r) later = refl

ran_more : (m last : Member) (made own : Histories) (t : Told) → Moves m.session made t → Ran (after m t) own last → Ran m (joined made own) last
ran_more m last made own t moves ran = record {
  later = with_reply t.reply ran.later;
  runs = Move m.session (joined made own) (with_reply t.reply ran.later) made own t ran.later moves ran.runs refl refl;
  replies = ran.replies ∙ append_assoc m.replies (reply_list t.reply) ran.later ∙ ap (λ (l : List Reply). m.replies ++ l) (sym (with_reply_list t.reply ran.later));
}

ran_step : (all mid : List Member) (j k : ℕ) (made rest : Histories) (m last : Member) → Item all j made mid → Numbered all → slice_get all k ≡ Some m
    → ((x : Member) → slice_get mid k ≡ Some x → Ran x (entries_of k rest) last) → Ran m (entries_of k (joined made rest)) last
ran_step _ _ _ k _ rest m last (Idle all j made mid x get ends none same) n at later =
    let ran : Ran m (entries_of k rest) last = later m (ap (λ (l : List Member). slice_get l k) same ∙ at) in
    rw none ran
ran_step _ _ _ k _ rest m last (Busy all j made mid x t get moves same) n at later = by (k == j) refl where
  by : (b : Bool) → (k == j) ≡ b → Ran m (entries_of k (joined made rest)) last
  by true e =
      let here : k ≡ j = eqb-true k j e in
      let is : x ≡ m = some_same x m (slice_get all k) (ap (λ (i : ℕ). slice_get all i) here ∙ get) at in
      let own : entries_of k made ≡ made = made_own k x.session made t moves (here ∙ sym (n j x get)) in
      let there : slice_get mid k ≡ Some (after x t) = ap (λ (l : List Member). slice_get l k) same ∙ ap (λ (i : ℕ). slice_get (slice_set all j (after x t)) i) here ∙ get_set_same all j x (after x t) get in
      let ran : Ran x (joined made (entries_of k rest)) last = ran_more x last made (entries_of k rest) t moves (later (after x t) there) in
      let split : entries_of k (joined made rest) ≡ joined made (entries_of k rest) = entries_joined k made rest ∙ ap (λ (h : Histories). joined h (entries_of k rest)) own in
      subst (λ (y : Member). Ran y (entries_of k (joined made rest)) last) is (subst (λ (h : Histories). Ran x h last) (sym split) ran)
  by false e =
      let other : k ≢ j = eqb-false k j e in
      let none : entries_of k made ≡ nothing = made_others k x.session made t moves (λ g. other (g ∙ n j x get)) in
      let there : slice_get mid k ≡ Some m = ap (λ (l : List Member). slice_get l k) same ∙ get_set_other all j k (after x t) other ∙ at in
      let split : entries_of k (joined made rest) ≡ entries_of k rest = entries_joined k made rest ∙ ap (λ (h : Histories). joined h (entries_of k rest)) none in
      subst (λ (h : Histories). Ran m h last) (sym split) (later m there)

-- Where a walk has come to the end of session k, the session has run with the walk's entries of its number.
pub walks_run : (all : List Member) (items : List ℕ) (log : Histories) (last : List Member) (k : ℕ) (m x : Member) → Walks all items log last → Numbered all → slice_get all k ≡ Some m → slice_get last k ≡ Some x
    → (asked x.session).doing ≡ Ends → Ran m (entries_of k log) x
walks_run _ _ _ _ k m x (Stop all items log last none empty same) n at there ends =
    let is : x ≡ m = some_same x m (slice_get all k) (ap (λ (l : List Member). slice_get l k) (sym same) ∙ there) at in
    let over : (asked m.session).doing ≡ Ends = subst (λ (y : Member). (asked y.session).doing ≡ Ends) is ends in
    let ran : Ran m (entries_of k nothing) x = record { later = []; runs = Over m.session nothing [] over refl refl; replies = ap (λ (y : Member). y.replies) is ∙ sym (append-nil m.replies) } in
    subst (λ (h : Histories). Ran m (entries_of k h) x) (sym empty) ran
walks_run _ _ _ _ k m x (Next all items log last mid j later made rest item walks is adds) n at there ends =
    let ran = ran_step all mid j k made rest m x item n at (λ y h. walks_run mid later rest last k y x walks (numbered_next all mid j made item n) h there ends) in
    subst (λ (h : Histories). Ran m (entries_of k h) x) (sym adds) ran
