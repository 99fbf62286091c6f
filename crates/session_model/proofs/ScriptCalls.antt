-- A walk to the ends of all sessions has the calls of their scripts.
use Rattle.std.proofs.Common.{◌≡◌, ℕ, zero, suc, ◌+◌, ◌<◌, length, List, [], ◌∷◌, ◌++◌, Some, refl, sym, subst, ap, ◌∙◌, arith}
use Rattle.std.specs.Prelude.{slice_get}
use Rattle.std.specs.List.{AllByRecursion}
use Rattle.std.proofs.lemmas.Option.{slice_get_within}
use Rattle.std.proofs.Math.ListN.{length-set}
use Rattle.session_model.specs.declared.entry.TreeEntry.{TreeEntry}
use Rattle.session_model.specs.declared.entry.FileEntry.{FileEntry}
use Rattle.script_model.specs.declared.op.Op.{Op}
use Rattle.session_model.specs.declared.reply.Reply.{Reply}
use Rattle.session_model.specs.declared.session.Doing.{Doing}
use Rattle.session_model.specs.declared.session.Doing.TheVariants.{CallsTree, CallsFile, Replies, Ends}
use Rattle.session_model.specs.Session.{Session, Member, Told, asked, fresh, after}
use Rattle.session_model.specs.Histories.{Histories, joined, entries_of}
use Rattle.session_model.specs.Runs.{MovesBy, Runs}
use Rattle.session_model.specs.Walks.{Item, Walks, HaveEnded, members, replies_of, InOrder}
use Rattle.session_model.specs.ScriptCalls.{AreSessions, AreOfSessions, AreScriptCalls}
use Rattle.session_model.specs.Walks.Item.{Idle, Busy}
use Rattle.session_model.specs.Walks.Walks.{Stop, Next}
use Rattle.session_model.specs.Runs.Runs.{Over, Move}
use Rattle.session_model.proofs.Joins.{Numbered, Ran, walks_run, numbered_next, asked_id, moves_id, made_own, entries_joined}

-- ---- no entry of another session

moves_below : (n : ℕ) (s : Session) (doing : Doing) (tree : List TreeEntry) (file : List FileEntry) (t : Told) → s.id < n → MovesBy s doing tree file t → AreOfSessions n (record { tree = tree; file = file })
moves_below n s (CallsTree call) [] [] t h m = record { tree = tt; file = tt }
moves_below n s (CallsTree call) [] (f ∷ file) t h m = absurd m
moves_below n s (CallsTree call) (e ∷ []) [] t h m = record { tree = (let same = m.0.session in omega arith, tt); file = tt }
moves_below n s (CallsTree call) (e ∷ []) (f ∷ file) t h m = absurd m
moves_below n s (CallsTree call) (e ∷ d ∷ tree) file t h m = absurd m
moves_below n s (CallsFile node call) [] [] t h m = record { tree = tt; file = tt }
moves_below n s (CallsFile node call) [] (f ∷ []) t h m = record { tree = tt; file = (let same = m.0.session in omega arith, tt) }
moves_below n s (CallsFile node call) [] (f ∷ d ∷ file) t h m = absurd m
moves_below n s (CallsFile node call) (e ∷ tree) file t h m = absurd m
moves_below n s (Replies reply) [] [] t h m = record { tree = tt; file = tt }
moves_below n s (Replies reply) [] (f ∷ file) t h m = absurd m
moves_below n s (Replies reply) (e ∷ tree) file t h m = absurd m
moves_below n s Ends tree file t h m = absurd m

all-append : {A : Type 0} → (P : A → Type 0) (xs ys : List A) → AllByRecursion P xs → AllByRecursion P ys → AllByRecursion P (xs ++ ys)
all-append P [] ys p q = q
all-append P (x ∷ xs) ys p q = (p.0, all-append P xs ys p.1 q)

below_joined : (n : ℕ) (a b : Histories) → AreOfSessions n a → AreOfSessions n b → AreOfSessions n (joined a b)
below_joined n a b p q = record { tree = all-append (λ (e : TreeEntry). e.session < n) a.tree b.tree p.tree q.tree; file = all-append (λ (e : FileEntry). e.session < n) a.file b.file p.file q.file }

item_below : (n : ℕ) (all next : List Member) (k : ℕ) (made : Histories) → Item all k made next → Numbered all → length all ≡ n → AreOfSessions n made
item_below n _ _ _ _ (Idle all k made next m get ends none same) num len = subst (λ (h : Histories). AreOfSessions n h) (sym none) (record { tree = tt; file = tt })
item_below n _ _ _ _ (Busy all k made next m t get moves same) num len =
    let within : k < length all = slice_get_within all k m get in
    let id : (asked m.session).session.id ≡ k = asked_id m.session ∙ num k m get in
    moves_below n (asked m.session).session (asked m.session).doing made.tree made.file t (omega arith) moves

item_length : (all next : List Member) (k : ℕ) (made : Histories) → Item all k made next → length next ≡ length all
item_length _ _ _ _ (Idle all k made next m get ends none same) = ap (λ (l : List Member). length l) same
item_length _ _ _ _ (Busy all k made next m t get moves same) = ap (λ (l : List Member). length l) same ∙ length-set all k (after m t)

walks_below : (n : ℕ) (all : List Member) (items : List ℕ) (log : Histories) (last : List Member) → Walks all items log last → Numbered all → length all ≡ n → AreOfSessions n log
walks_below n _ _ _ _ (Stop all items log last none empty same) num len = subst (λ (h : Histories). AreOfSessions n h) (sym empty) (record { tree = tt; file = tt })
walks_below n _ _ _ _ (Next all items log last mid j later made rest item walks is adds) num len =
    let first = item_below n all mid j made item num len in
    let others = walks_below n mid later rest last walks (numbered_next all mid j made item num) (item_length all mid j made item ∙ len) in
    subst (λ (h : Histories). AreOfSessions n h) (sym adds) (below_joined n made rest first others)

walks_length : (all : List Member) (items : List ℕ) (log : Histories) (last : List Member) → Walks all items log last → length last ≡ length all
walks_length _ _ _ _ (Stop all items log last none empty same) = ap (λ (l : List Member). length l) same
walks_length _ _ _ _ (Next all items log last mid j later made rest item walks is adds) = walks_length mid later rest last walks ∙ item_length all mid j made item

-- ---- the sessions at the beginning and at the end

members_id : (k : ℕ) (scripts : List (List Op)) (i : ℕ) (m : Member) → slice_get (members k scripts) i ≡ Some m → m.session.id ≡ k + i
members_id k [] i m e = cc
members_id k (script ∷ scripts) zero m e =
    let is : record { session = fresh k script; replies = [] } ≡ m = cc in
    let id : k ≡ m.session.id = ap (λ (x : Member). x.session.id) is in
    omega arith
members_id k (script ∷ scripts) (suc i) m e = let h = members_id (k + 1) scripts i m e in omega arith

numbered : (scripts : List (List Op)) → Numbered (members 0 scripts)
numbered scripts j m e = let h = members_id 0 scripts j m e in omega arith

members_length : (k : ℕ) (scripts : List (List Op)) → length (members k scripts) ≡ length scripts
members_length k [] = refl
members_length k (script ∷ scripts) = ap (λ (n : ℕ). suc n) (members_length (k + 1) scripts)

members_get : (k n : ℕ) (scripts : List (List Op)) (i : ℕ) (script : List Op) → k + i ≡ n → slice_get scripts i ≡ Some script → slice_get (members k scripts) i ≡ Some (record { session = fresh n script; replies = [] })
members_get k n [] i script same e = cc
members_get k n (first ∷ scripts) zero script same e =
    let is : first ≡ script = cc in
    let at : k ≡ n = omega arith in
    rw (is, at) refl
members_get k n (first ∷ scripts) (suc i) script same e = members_get (k + 1) n scripts i script (omega arith) e

ended_at : (last : List Member) (i : ℕ) (x : Member) → HaveEnded last → slice_get last i ≡ Some x → (asked x.session).doing ≡ Ends
ended_at [] i x h e = cc
ended_at (m ∷ last) zero x h e = let is : m ≡ x = cc in subst (λ (y : Member). (asked y.session).doing ≡ Ends) is h.0
ended_at (m ∷ last) (suc i) x h e = ended_at last i x h.1 e

-- what holds at each place holds of the lists
assembled : (k : ℕ) (scripts : List (List Op)) (last : List Member) (log : Histories) → length last ≡ length scripts
    → ((i n : ℕ) (script : List Op) (x : Member) → k + i ≡ n → slice_get scripts i ≡ Some script → slice_get last i ≡ Some x → Runs (fresh n script) (entries_of n log) x.replies) → AreSessions k scripts log (replies_of last)
assembled k [] [] log len h = tt
assembled k [] (x ∷ last) log len h = absurd (omega arith)
assembled k (script ∷ scripts) [] log len h = absurd (omega arith)
assembled k (script ∷ scripts) (x ∷ last) log len h =
    (h 0 k script x (omega arith) refl refl, assembled (k + 1) scripts last log (omega arith) (λ i n s y same p q. h (suc i) n s y (omega arith) p q))

pub script_calls : (scripts : List (List Op)) (schedule : List ℕ) (log : Histories) (last : List Member) → InOrder (members 0 scripts) schedule log last → AreScriptCalls scripts log (replies_of last)
script_calls scripts schedule log last order =
    let len = walks_length (members 0 scripts) _ log last order.walks in
    let below = walks_below (length scripts) (members 0 scripts) _ log last order.walks (numbered scripts) (members_length 0 scripts) in
    record {
      each = assembled 0 scripts last log (len ∙ members_length 0 scripts) (λ i n script x same p q.
          let at : i ≡ n = omega arith in
          let there : slice_get last n ≡ Some x = subst (λ (j : ℕ). slice_get last j ≡ Some x) at q in
          let here : slice_get (members 0 scripts) n ≡ Some (record { session = fresh n script; replies = [] }) = subst (λ (j : ℕ). slice_get (members 0 scripts) j ≡ Some (record { session = fresh n script; replies = [] })) at (members_get 0 n scripts i script same p) in
          let ran : Ran (record { session = fresh n script; replies = [] }) (entries_of n log) x = walks_run (members 0 scripts) _ log last n (record { session = fresh n script; replies = [] }) x order.walks (numbered scripts) here there (ended_at last n x order.ended there) in
          subst (λ (l : List Reply). Runs (fresh n script) (entries_of n log) l) (sym ran.replies) ran.runs);
      no_other = below;
    }

-- ---- one session alone

runs_entries : (s : Session) (own : Histories) (replies : List Reply) → Runs s own replies → entries_of s.id own ≡ own
runs_entries _ _ _ (Over s own replies ends none silent) = rw none refl
runs_entries _ _ _ (Move s own replies made rest t later moves runs adds tells) =
    let here = made_own s.id s made t moves refl in
    let there = subst (λ (k : ℕ). entries_of k rest ≡ rest) (moves_id s made t moves) (runs_entries t.session rest later runs) in
    rw adds (entries_joined s.id made rest ∙ ap (λ (h : Histories). joined h (entries_of s.id rest)) here ∙ ap (λ (h : Histories). joined made h) there)

runs_below : (n : ℕ) (s : Session) (own : Histories) (replies : List Reply) → s.id < n → Runs s own replies → AreOfSessions n own
runs_below n _ _ _ below (Over s own replies ends none silent) = subst (λ (h : Histories). AreOfSessions n h) (sym none) (record { tree = tt; file = tt })
runs_below n _ _ _ below (Move s own replies made rest t later moves runs adds tells) =
    let id : t.session.id ≡ s.id = moves_id s made t moves in
    let asks : (asked s).session.id ≡ s.id = asked_id s in
    let first = moves_below n (asked s).session (asked s).doing made.tree made.file t (omega arith) moves in
    subst (λ (h : Histories). AreOfSessions n h) (sym adds) (below_joined n made rest first (runs_below n t.session rest later (omega arith) runs))

-- The one session of a run has run, and these are its entries.
pub one_script_calls : (script : List Op) (own : Histories) (replies : List Reply) → Runs (fresh 0 script) own replies → AreScriptCalls (script ∷ []) own (replies ∷ [])
one_script_calls script own replies runs = record {
  each = (subst (λ (h : Histories). Runs (fresh 0 script) h replies) (sym (runs_entries (fresh 0 script) own replies runs)) runs, tt);
  no_other = runs_below 1 (fresh 0 script) own replies (omega arith) runs;
}
