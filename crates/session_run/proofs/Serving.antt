-- One call of a session, with the entry that it adds.
use Rattle.std.proofs.Common.{◌≡◌, ℕ, List, [], ◌∷◌, ◌++◌, Some, refl, sym, subst, ap, ◌∙◌}
use Rattle.std.proofs.lemmas.List.{append-nil}
use Rattle.tree_model.specs.declared.call.TreeCall.{TreeCall}
use Rattle.session_model.specs.declared.file.FileCall.{FileCall}
use Rattle.session_model.specs.declared.file.FileReply.{FileReply}
use Rattle.session_model.specs.declared.reply.Reply.{Reply}
use Rattle.session_model.specs.declared.entry.TreeEntry.{TreeEntry}
use Rattle.session_model.specs.declared.entry.FileEntry.{FileEntry}
use Rattle.session_model.specs.declared.session.Doing.{Doing}
use Rattle.session_model.specs.declared.session.Doing.TheVariants.{CallsTree, CallsFile, Replies, Ends}
use Rattle.session_model.specs.declared.session.Ask.TheVariants as asks
use Rattle.session_model.specs.declared.session.Answer.TheVariants as answers
use Rattle.session_model.specs.Histories.{Histories, nothing}
use Rattle.session_model.specs.Session.{Session, Member, Told, asked, told, after}
use Rattle.session_model.specs.Runs.{Moves, MovesBy}
use Rattle.session.specs.Asks.{ask_of, behind_ask, own_reply}
use Rattle.session_run.specs.Turn.{AddsFileTurn}
use Rattle.session_run.specs.Made.{Moved, ToldTree, ToldFile}
use Rattle.session_run.specs.Waits.{WaitsForTree, WaitsForFile}
use Rattle.session_run.proofs.Growing.{grows_none, entry_of, turn_grows}
use Rattle.session_run.proofs.Waiting.{WaitsFor, asked_waits, asked_slots}

pub told_file : (session op node : ℕ) (call : FileCall) (reply : FileReply) (logs logs' : ℕ → List FileEntry) (was is : Member) → session ≡ was.session.id → op ≡ was.session.op → AddsFileTurn session op node call reply logs logs'
    → is ≡ after was (told was.session (answers.File reply)) → ToldFile node call logs logs' was is
told_file session op node call reply logs logs' was is id number turn goes = record {
  made = entry_of session op node call reply logs logs' turn ∷ [];
  t = told was.session (answers.File reply);
  answered = (record { session = id; op = number; node_is = refl; call_is = refl }, refl);
  adds = turn_grows session op node call reply logs logs' turn;
  goes = goes;
}

-- ---- what was asked, from what the code was given

is_calls_tree : (d : Doing) (call : TreeCall) → asks.Tree call ≡ ask_of d → d ≡ CallsTree call
is_calls_tree (CallsTree c) call e = cc
is_calls_tree (CallsFile n c) call e = cc
is_calls_tree (Replies r) call e = cc
is_calls_tree Ends call e = cc

is_calls_file : (d : Doing) (node : ℕ) (call : FileCall) → asks.File node call ≡ ask_of d → d ≡ CallsFile node call
is_calls_file (CallsTree c) node call e = cc
is_calls_file (CallsFile n c) node call e = cc
is_calls_file (Replies r) node call e = cc
is_calls_file Ends node call e = cc

-- who asked for a call waits for it
pub waits_for_tree : (was mid : Member) (call : TreeCall) → asks.Tree call ≡ ask_of (asked was.session).doing → mid ≡ behind_ask was → WaitsForTree mid.session.hand
waits_for_tree was mid call e waits =
    let is : (asked was.session).doing ≡ CallsTree call = is_calls_tree (asked was.session).doing call e in
    subst (λ (m : Member). WaitsForTree m.session.hand) (sym waits) (subst (λ (d : Doing). WaitsFor d (asked was.session).session.hand) is (asked_waits was.session))

pub waits_for_file : (was mid : Member) (node : ℕ) (call : FileCall) → asks.File node call ≡ ask_of (asked was.session).doing → mid ≡ behind_ask was → WaitsForFile node call mid.session.hand
waits_for_file was mid node call e waits =
    let is : (asked was.session).doing ≡ CallsFile node call = is_calls_file (asked was.session).doing node call e in
    subst (λ (m : Member). WaitsForFile node call m.session.hand) (sym waits) (subst (λ (d : Doing). WaitsFor d (asked was.session).session.hand) is (asked_waits was.session))

pub behind_same : (was mid : Member) → mid ≡ behind_ask was → mid.session.slots ≡ was.session.slots
behind_same was mid waits = ap (λ (m : Member). m.session.slots) waits ∙ asked_slots was.session

-- ---- one move

moves_with : (s : Session) (doing : Doing) (made : Histories) (t : Told) → (asked s).doing ≡ doing → MovesBy (asked s).session doing made.tree made.file t → Moves s made t
moves_with s doing made t e m = subst (λ (d : Doing). MovesBy (asked s).session d made.tree made.file t) (sym e) m

-- the member that waits, behind a call that was asked
waits_so : (was mid : Member) (doing : Doing) → mid ≡ behind_ask was → (asked was.session).doing ≡ doing → own_reply doing ≡ [] → mid ≡ record { session = (asked was.session).session; replies = was.replies }
waits_so was mid doing waits e none =
    waits ∙ ap (λ (more : List Reply). record { session = (asked was.session).session; replies = was.replies ++ more }) (ap own_reply e ∙ none)
    ∙ ap (λ (all : List Reply). record { session = (asked was.session).session; replies = all }) (append-nil was.replies)

pub moved_tree : (call : TreeCall) (tree tree' : List TreeEntry) (logs : ℕ → List FileEntry) (was mid is : Member) → asks.Tree call ≡ ask_of (asked was.session).doing → mid ≡ behind_ask was → ToldTree call tree tree' mid is
    → Moved tree tree' logs logs was is
moved_tree call tree tree' logs was mid is e waits done =
    let doing = is_calls_tree (asked was.session).doing call e in
    let so = waits_so was mid (CallsTree call) waits doing refl in
    let at : ToldTree call tree tree' (record { session = (asked was.session).session; replies = was.replies }) is = subst (λ (m : Member). ToldTree call tree tree' m is) so done in
    record {
      made = record { tree = at.made; file = [] };
      t = at.t;
      moves = moves_with was.session (CallsTree call) (record { tree = at.made; file = [] }) at.t doing at.answered;
      grows = record { adds_tree = at.adds; adds_files = λ shard h. sym (append-nil (logs shard)) };
      goes = at.goes;
    }

pub moved_file : (node : ℕ) (call : FileCall) (tree : List TreeEntry) (logs logs' : ℕ → List FileEntry) (was mid is : Member) → asks.File node call ≡ ask_of (asked was.session).doing → mid ≡ behind_ask was
    → ToldFile node call logs logs' mid is → Moved tree tree logs logs' was is
moved_file node call tree logs logs' was mid is e waits done =
    let doing = is_calls_file (asked was.session).doing node call e in
    let so = waits_so was mid (CallsFile node call) waits doing refl in
    let at : ToldFile node call logs logs' (record { session = (asked was.session).session; replies = was.replies }) is = subst (λ (m : Member). ToldFile node call logs logs' m is) so done in
    record {
      made = record { tree = []; file = at.made };
      t = at.t;
      moves = moves_with was.session (CallsFile node call) (record { tree = []; file = at.made }) at.t doing at.answered;
      grows = record { adds_tree = sym (append-nil tree); adds_files = at.adds };
      goes = at.goes;
    }

done_of : (s : Session) (replies : List Reply) (d : Doing) → (asked s).doing ≡ d → asks.Done ≡ ask_of d → (t : Told) × Moves s nothing t
    × (record { session = (asked s).session; replies = replies ++ own_reply d } ≡ after (record { session = s; replies = replies }) t)
done_of s replies (CallsTree c) e a = cc
done_of s replies (CallsFile n c) e a = cc
done_of s replies (Replies r) e a = (record { reply = Some r; session = (asked s).session }, moves_with s (Replies r) nothing (record { reply = Some r; session = (asked s).session }) e refl, refl)
done_of s replies Ends e a = cc

-- an operation that makes no call
pub moved_none : (tree : List TreeEntry) (logs : ℕ → List FileEntry) (was is : Member) → asks.Done ≡ ask_of (asked was.session).doing → is ≡ behind_ask was → Moved tree tree logs logs was is
moved_none tree logs was is a waits =
    let d = done_of was.session was.replies (asked was.session).doing refl a in
    record { made = nothing; t = d.0; moves = d.1; grows = grows_none tree logs; goes = waits ∙ d.2 }
