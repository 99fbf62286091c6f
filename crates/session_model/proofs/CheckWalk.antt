-- A check of a walk over items that are known.
use Rattle.std.proofs.Common.{◌≡◌, ℕ, List, [], ◌∷◌, ◌++◌, Option, Some, None, ◌⊎◌, inl, inr, refl, sym, subst}
use Rattle.std.specs.Prelude.{slice_get, slice_set}
use Rattle.session_model.specs.declared.reply.Reply.{Reply}
use Rattle.tree_model.specs.declared.call.TreeCall.{TreeCall}
use Rattle.session_model.specs.declared.file.FileCall.{FileCall}
use Rattle.session_model.specs.declared.entry.TreeEntry.{TreeEntry}
use Rattle.session_model.specs.declared.entry.FileEntry.{FileEntry}
use Rattle.session_model.specs.declared.session.Doing.{Doing}
use Rattle.session_model.specs.declared.session.Doing.TheVariants.{CallsTree, CallsFile, Replies, Ends}
use Rattle.session_model.specs.declared.session.Answer.TheVariants as answers
use Rattle.session_model.specs.Session.{Session, Member, asked, Told, told, after}
use Rattle.session_model.specs.Histories.{Histories, nothing, joined}
use Rattle.session_model.specs.Runs.{IsTreeEntry, IsFileEntry, MayLack, Moves, MovesBy}
use Rattle.session_model.specs.Walks.{Item, Walks, HaveEnded, replies_of}
use Rattle.session_model.specs.Walks.Item.{Idle, Busy}
use Rattle.session_model.specs.Walks.Walks.{Stop, Next}
use Rattle.session_model.proofs.Check.{IsNil}

-- what is left to check, with these entries
abbrev pub Left : Type 1
Left = List Member → List TreeEntry → List FileEntry → Type 0

abbrev pub Goes : Left → List Member → ℕ → Member → Told → List TreeEntry → List FileEntry → Type 0
Goes later all k m t tree file = later (slice_set all k (after m t)) tree file

abbrev pub TakesTree : Left → List Member → ℕ → Member → Session → TreeCall → List TreeEntry → List FileEntry → Type 0
TakesTree later all k m s call [] file = ⊥
TakesTree later all k m s call (e ∷ tree) file = IsTreeEntry s call e × Goes later all k m (told s (answers.Tree e.reply)) tree file

abbrev pub TakesFile : Left → List Member → ℕ → Member → Session → ℕ → FileCall → List TreeEntry → List FileEntry → Type 0
TakesFile later all k m s node call tree [] = ⊥
TakesFile later all k m s node call tree (e ∷ file) = IsFileEntry s node call e × Goes later all k m (told s (answers.File e.reply)) tree file

abbrev pub ItemBy : Left → List Member → ℕ → Member → Session → Doing → List TreeEntry → List FileEntry → Type 0
ItemBy later all k m s Ends tree file = later all tree file
ItemBy later all k m s (Replies reply) tree file = Goes later all k m (record { reply = Some reply; session = s }) tree file
ItemBy later all k m s (CallsTree call) tree file = Goes later all k m (told s answers.Memory) tree file ⊎ TakesTree later all k m s call tree file
ItemBy later all k m s (CallsFile node call) tree file = (MayLack s × Goes later all k m (told s answers.Memory) tree file) ⊎ TakesFile later all k m s node call tree file

abbrev pub ItemOf : Left → List Member → ℕ → Option Member → List TreeEntry → List FileEntry → Type 0
ItemOf later all k None tree file = ⊥
ItemOf later all k (Some m) tree file = ItemBy later all k m (asked m.session).session (asked m.session).doing tree file

-- the walk comes to the ends of all sessions, with these replies
abbrev pub ChecksWalk : List (List Reply) → List ℕ → Left
ChecksWalk replies [] all tree file = IsNil tree × IsNil file × HaveEnded all × (replies_of all ≡ replies)
ChecksWalk replies (k ∷ items) all tree file = ItemOf (ChecksWalk replies items) all k (slice_get all k) tree file

-- ---- from above

goes_up : (later : Left) (all : List Member) (k : ℕ) (m : Member) (t u : Told) (tree : List TreeEntry) (file : List FileEntry) → t ≡ u → Goes later all k m t tree file → Goes later all k m u tree file
goes_up later all k m t u tree file e h = subst (λ (v : Told). Goes later all k m v tree file) e h

moves_up : (later : Left) (all : List Member) (k : ℕ) (m : Member) (s : Session) (doing : Doing) (tree : List TreeEntry) (file : List FileEntry) (t : Told) (rest : Histories) → MovesBy s doing tree file t
    → Goes later all k m t rest.tree rest.file → ItemBy later all k m s doing (tree ++ rest.tree) (file ++ rest.file)
moves_up later all k m s (CallsTree call) [] [] t rest h g = inl (goes_up later all k m t _ rest.tree rest.file h g)
moves_up later all k m s (CallsTree call) [] (f ∷ file) t rest h g = absurd h
moves_up later all k m s (CallsTree call) (e ∷ []) [] t rest h g = inr (h.0, goes_up later all k m t _ rest.tree rest.file h.1 g)
moves_up later all k m s (CallsTree call) (e ∷ []) (f ∷ file) t rest h g = absurd h
moves_up later all k m s (CallsTree call) (e ∷ d ∷ tree) file t rest h g = absurd h
moves_up later all k m s (CallsFile node call) [] [] t rest h g = inl (h.0, goes_up later all k m t _ rest.tree rest.file h.1 g)
moves_up later all k m s (CallsFile node call) [] (f ∷ []) t rest h g = inr (h.0, goes_up later all k m t _ rest.tree rest.file h.1 g)
moves_up later all k m s (CallsFile node call) [] (f ∷ d ∷ file) t rest h g = absurd h
moves_up later all k m s (CallsFile node call) (e ∷ tree) file t rest h g = absurd h
moves_up later all k m s (Replies reply) [] [] t rest h g = goes_up later all k m t _ rest.tree rest.file h g
moves_up later all k m s (Replies reply) [] (f ∷ file) t rest h g = absurd h
moves_up later all k m s (Replies reply) (e ∷ tree) file t rest h g = absurd h
moves_up later all k m s Ends tree file t rest h g = absurd h

item_up : (later : Left) (all : List Member) (k : ℕ) (made : Histories) (next : List Member) (rest : Histories) → Item all k made next → later next rest.tree rest.file
    → ItemOf later all k (slice_get all k) (made.tree ++ rest.tree) (made.file ++ rest.file)
item_up later _ _ _ _ rest (Idle all k made next m get ends none same) h =
    let here : later all rest.tree rest.file = subst (λ (l : List Member). later l rest.tree rest.file) same h in
    let by : ItemBy later all k m (asked m.session).session (asked m.session).doing rest.tree rest.file = subst (λ (d : Doing). ItemBy later all k m (asked m.session).session d rest.tree rest.file) (sym ends) here in
    let at : ItemOf later all k (slice_get all k) rest.tree rest.file = subst (λ (o : Option Member). ItemOf later all k o rest.tree rest.file) (sym get) by in
    rw none at
item_up later _ _ _ _ rest (Busy all k made next m t get moves same) h =
    let here : Goes later all k m t rest.tree rest.file = subst (λ (l : List Member). later l rest.tree rest.file) same h in
    let by = moves_up later all k m (asked m.session).session (asked m.session).doing made.tree made.file t rest moves here in
    subst (λ (o : Option Member). ItemOf later all k o (made.tree ++ rest.tree) (made.file ++ rest.file)) (sym get) by

pub checks_walk : (items : List ℕ) (all : List Member) (log : Histories) (last : List Member) → Walks all items log last → HaveEnded last → ChecksWalk (replies_of last) items all log.tree log.file
checks_walk _ _ _ _ (Stop all items log last none empty same) ended =
    let base : ChecksWalk (replies_of last) [] last [] [] = (tt, tt, ended, refl) in
    let there : ChecksWalk (replies_of last) [] all [] [] = subst (λ (l : List Member). ChecksWalk (replies_of last) [] l [] []) same base in
    rw (none, empty) there
checks_walk _ _ _ _ (Next all items log last mid k later made rest item walks is adds) ended =
    let up = item_up (ChecksWalk (replies_of last) later) all k made mid rest item (checks_walk later mid rest last walks ended) in
    rw (is, adds) up

-- ---- from below

pub record WalksTo (all : List Member) (items : List ℕ) (log : Histories) (replies : List (List Reply)) : Type 0 where
  pub last : List Member
  pub walks : Walks all items log last
  pub ended : HaveEnded last
  pub replies_are : replies_of last ≡ replies

to_next : (all mid : List Member) (k : ℕ) (items : List ℕ) (made rest : Histories) (replies : List (List Reply)) → Item all k made mid → WalksTo mid items rest replies → WalksTo all (k ∷ items) (joined made rest) replies
to_next all mid k items made rest replies item w = record {
  last = w.last;
  walks = Next all (k ∷ items) (joined made rest) w.last mid k items made rest item w.walks refl refl;
  ended = w.ended;
  replies_are = w.replies_are;
}

busy_down : (all : List Member) (k : ℕ) (items : List ℕ) (made rest : Histories) (replies : List (List Reply)) (m : Member) (t : Told) (doing : Doing) → slice_get all k ≡ Some m → (asked m.session).doing ≡ doing
    → MovesBy (asked m.session).session doing made.tree made.file t → WalksTo (slice_set all k (after m t)) items rest replies → WalksTo all (k ∷ items) (joined made rest) replies
busy_down all k items made rest replies m t doing get e moves w =
    let made_so : Moves m.session made t = subst (λ (d : Doing). MovesBy (asked m.session).session d made.tree made.file t) (sym e) moves in
    to_next all (slice_set all k (after m t)) k items made rest replies (Busy all k made (slice_set all k (after m t)) m t get made_so refl) w

item_down : (replies : List (List Reply)) (items : List ℕ) (all : List Member) (k : ℕ) (m : Member) (doing : Doing) (tree : List TreeEntry) (file : List FileEntry) → slice_get all k ≡ Some m → (asked m.session).doing ≡ doing
    → ((l : List Member) (tr : List TreeEntry) (fi : List FileEntry) → ChecksWalk replies items l tr fi → WalksTo l items (record { tree = tr; file = fi }) replies)
    → ItemBy (ChecksWalk replies items) all k m (asked m.session).session doing tree file → WalksTo all (k ∷ items) (record { tree = tree; file = file }) replies
item_down replies items all k m Ends tree file get e down h =
    to_next all all k items nothing (record { tree = tree; file = file }) replies (Idle all k nothing all m get e refl refl) (down all tree file h)
item_down replies items all k m (Replies reply) tree file get e down h =
    busy_down all k items nothing (record { tree = tree; file = file }) replies m (record { reply = Some reply; session = (asked m.session).session }) (Replies reply) get e refl (down _ tree file h)
item_down replies items all k m (CallsTree call) tree file get e down (inl h) =
    busy_down all k items nothing (record { tree = tree; file = file }) replies m (told (asked m.session).session answers.Memory) (CallsTree call) get e refl (down _ tree file h)
item_down replies items all k m (CallsTree call) [] file get e down (inr h) = absurd h
item_down replies items all k m (CallsTree call) (d ∷ tree) file get e down (inr h) =
    busy_down all k items (record { tree = d ∷ []; file = [] }) (record { tree = tree; file = file }) replies m (told (asked m.session).session (answers.Tree d.reply)) (CallsTree call) get e (h.0, refl) (down _ tree file h.1)
item_down replies items all k m (CallsFile node call) tree file get e down (inl h) =
    busy_down all k items nothing (record { tree = tree; file = file }) replies m (told (asked m.session).session answers.Memory) (CallsFile node call) get e (h.0, refl) (down _ tree file h.1)
item_down replies items all k m (CallsFile node call) tree [] get e down (inr h) = absurd h
item_down replies items all k m (CallsFile node call) tree (d ∷ file) get e down (inr h) =
    busy_down all k items (record { tree = []; file = d ∷ [] }) (record { tree = tree; file = file }) replies m (told (asked m.session).session (answers.File d.reply)) (CallsFile node call) get e (h.0, refl) (down _ tree file h.1)

option_down : (replies : List (List Reply)) (items : List ℕ) (all : List Member) (k : ℕ) (o : Option Member) (tree : List TreeEntry) (file : List FileEntry) → slice_get all k ≡ o
    → ((l : List Member) (tr : List TreeEntry) (fi : List FileEntry) → ChecksWalk replies items l tr fi → WalksTo l items (record { tree = tr; file = fi }) replies)
    → ItemOf (ChecksWalk replies items) all k o tree file → WalksTo all (k ∷ items) (record { tree = tree; file = file }) replies
option_down replies items all k None tree file get down h = absurd h
option_down replies items all k (Some m) tree file get down h = item_down replies items all k m (asked m.session).doing tree file get refl down h

pub walks : (replies : List (List Reply)) (items : List ℕ) (all : List Member) (tree : List TreeEntry) (file : List FileEntry) → ChecksWalk replies items all tree file → WalksTo all items (record { tree = tree; file = file }) replies
walks replies [] all [] [] h = record { last = all; walks = Stop all [] nothing all refl refl refl; ended = h.2; replies_are = h.3 }
walks replies [] all (e ∷ tree) file h = absurd h.0
walks replies [] all [] (e ∷ file) h = absurd h.1
walks replies (k ∷ items) all tree file h = option_down replies items all k (slice_get all k) tree file refl (walks replies items) h
