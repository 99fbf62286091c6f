-- What the files of a shard leave, once all are written out.
use Rattle.std.proofs.Common.{ℕ, ◌≡◌, Bool, true, false, List, [], ◌∷◌, length, Option, Some, None, Result, Ok, Err, refl, sym, ◌∙◌, ap, subst, arith}
use Rattle.std.specs.Prelude.{◌==◌, ◌&&◌, ◌||◌, not, nat_lt, if◌then◌else◌}
use Rattle.std.proofs.lemmas.Bool.{false≢true}
use Rattle.std.proofs.lemmas.List.{length-take}
use Rattle.lower_model.specs.declared.meta_place.MetaPlace.{MetaPlace}
use Rattle.lower_model.specs.declared.meta_place.MetaPlace.TheVariants.{Header, Attribute}
use Rattle.session_model.specs.declared.entry.FileEntry.{FileEntry}
use Rattle.session_model.specs.declared.file.FileCall.{FileCall}
use Rattle.session_model.specs.declared.file.FileCall.TheVariants.{Attach, Read, Write, Truncate, Size, Sync, Detach}
use Rattle.session_model.specs.declared.file.FileReply.{FileReply}
use Rattle.session_model.specs.declared.file.FileReply.TheVariants.{Done, Octets, Length, Refused, NotOpen, TooBig, LowerFault, Memory}
use Rattle.session_model.specs.Legal.{IsLegal}
use Rattle.packet_model.specs.declared.cause.BadCause.{BadCause}
use Rattle.packet_model.specs.declared.layout.TheConstants.{MAX_SIZE, SET_END}
use Rattle.body_model.specs.declared.opened.Opened.{Opened}
use Rattle.body_model.specs.declared.content.Content.{Content}
use Rattle.body_model.specs.declared.content.Content.TheVariants as contents
use Rattle.body_model.specs.LowerFile.{LowerFile}
use Rattle.body_model.specs.Bodies.{HeldBodies}
use Rattle.body_model.specs.Format.{Format, IsFormat, content, content_of, opening}
use Rattle.file_model.specs.declared.mark.MetadataMark.TheVariants.{Clean}
use Rattle.file_model.specs.declared.open_slot.OpenSlot.{OpenSlot}
use Rattle.file_model.specs.ByteFile.{ByteFile, FileState, Bad, Good, Stepped, effect, end_of, is_attached, replies, slot_of, step, step_open}
use Rattle.file_model.specs.FileLog.{IsTurn, Turns, entries_at}
use Rattle.file_model.specs.LaidOut.{IsReadAs, Working}
use Rattle.file_model.specs.Shard.{IsLeft, MayBeLeft, IsOutIfOpen, IsWholeWriteOut, IsWriteOut, Shard, Stands, StandsBy, opens, state_by, was_opened}

-- ---- a file that was opened is good

abbrev IsGood : FileState → Type 0
IsGood state = (file : ByteFile) × (state ≡ Good file)

state_of : (a b : Stepped) → a ≡ b → a.state ≡ b.state
state_of a b same = ap (λ (s : Stepped). s.state) same

effect_good : (file : ByteFile) (session : ℕ) (call : FileCall) → IsGood (effect file session call).state
effect_good file session (Attach slot) = (_, refl)
effect_good file session (Read slot at len) = (_, refl)
effect_good file session (Write slot at octets) = (_, refl)
effect_good file session (Truncate slot size) = (_, refl)
effect_good file session (Size slot) = (_, refl)
effect_good file session (Sync slot) = (_, refl)
effect_good file session (Detach slot) = (_, refl)

open_good : (file : ByteFile) (session : ℕ) (call : FileCall) → IsGood (step_open file session call).state
open_good file session call = by_tests (not (is_attached file.slots session (slot_of call))) (nat_lt MAX_SIZE (end_of call))
  where
    by_tests : (closed big : Bool) → IsGood (if closed then replies file NotOpen else if big then replies file TooBig else effect file session call).state
    by_tests true big = (file, refl)
    by_tests false true = (file, refl)
    by_tests false false = effect_good file session call

step_stays : (file : ByteFile) (session : ℕ) (call : FileCall) → IsGood (step (Good file) session call).state
step_stays file session (Attach slot) = (_, refl)
step_stays file session (Read slot at len) = open_good file session (Read slot at len)
step_stays file session (Write slot at octets) = open_good file session (Write slot at octets)
step_stays file session (Truncate slot size) = open_good file session (Truncate slot size)
step_stays file session (Size slot) = open_good file session (Size slot)
step_stays file session (Sync slot) = open_good file session (Sync slot)
step_stays file session (Detach slot) = open_good file session (Detach slot)

by_step : (file : ByteFile) (session : ℕ) (call : FileCall) (reply : FileReply) (new : FileState) → step (Good file) session call ≡ record { reply = reply; state = new } → IsGood new
by_step file session call reply new turn = subst IsGood (state_of _ _ turn) (step_stays file session call)

turns_stay : (file : ByteFile) (session : ℕ) (call : FileCall) (before after : ℕ) (reply : FileReply) (new : FileState) → Turns reply session call before after (Good file) new → IsGood new
turns_stay file session call before after Memory new turn = (file, turn.2)
turns_stay file session call before after LowerFault new turn = (file, turn.2)
turns_stay file session call before after Done new turn = by_step file session call Done new turn
turns_stay file session call before after (Octets octets) new turn = by_step file session call (Octets octets) new turn
turns_stay file session call before after (Length size) new turn = by_step file session call (Length size) new turn
turns_stay file session call before after (Refused cause) new turn = by_step file session call (Refused cause) new turn
turns_stay file session call before after NotOpen new turn = by_step file session call NotOpen new turn
turns_stay file session call before after TooBig new turn = by_step file session call TooBig new turn

-- a good file stays good
stays_good : (log : List FileEntry) (state next : FileState) → IsLegal IsTurn state log next → IsGood state → IsGood next
stays_good [] state next legal good = (good.0, legal ∙ good.1)
stays_good (e ∷ log) state next legal good =
    let turns : Turns e.reply e.session e.call e.before e.after (Good good.0) legal.0 = subst (λ (s : FileState). Turns e.reply e.session e.call e.before e.after s legal.0) good.1 legal.1.turns in
    stays_good log legal.0 next legal.2 (turns_stay good.0 e.session e.call e.before e.after e.reply legal.0 turns)

attached_good : (old new : FileState) (session slot : ℕ) → step old session (Attach slot) ≡ record { reply = Done; state = new } → IsGood new
attached_good (Bad cause) new session slot turn = (let reply : Refused cause ≡ Done = ap (λ (s : Stepped). s.reply) turn in absurd cc)
attached_good (Good file) new session slot turn = by_step file session (Attach slot) Done new turn

-- the first opening finds it good
opened_good : (old : FileState) (session : ℕ) (call : FileCall) (before after : ℕ) (reply : FileReply) (new : FileState) → Turns reply session call before after old new → opens call reply ≡ true → IsGood new
opened_good old session (Attach slot) before after Done new turn is = attached_good old new session slot turn
opened_good old session (Attach slot) before after (Octets octets) new turn is = absurd (false≢true is)
opened_good old session (Attach slot) before after (Length size) new turn is = absurd (false≢true is)
opened_good old session (Attach slot) before after (Refused cause) new turn is = absurd (false≢true is)
opened_good old session (Attach slot) before after NotOpen new turn is = absurd (false≢true is)
opened_good old session (Attach slot) before after TooBig new turn is = absurd (false≢true is)
opened_good old session (Attach slot) before after LowerFault new turn is = absurd (false≢true is)
opened_good old session (Attach slot) before after Memory new turn is = absurd (false≢true is)
opened_good old session (Read slot at len) before after reply new turn is = absurd (false≢true is)
opened_good old session (Write slot at octets) before after reply new turn is = absurd (false≢true is)
opened_good old session (Truncate slot size) before after reply new turn is = absurd (false≢true is)
opened_good old session (Size slot) before after reply new turn is = absurd (false≢true is)
opened_good old session (Sync slot) before after reply new turn is = absurd (false≢true is)
opened_good old session (Detach slot) before after reply new turn is = absurd (false≢true is)

-- that of the entries behind one
abbrev GoesWell : ℕ → List FileEntry → FileState → Type 0
GoesWell node log next = (mid : FileState) → IsLegal IsTurn mid (entries_at node log) next → was_opened node log ≡ true → IsGood next

pub was_good : (node : ℕ) (log : List FileEntry) (state next : FileState) → IsLegal IsTurn state (entries_at node log) next → was_opened node log ≡ true → (file : ByteFile) × (next ≡ Good file)
was_good node [] state next legal opened = absurd (false≢true opened)
was_good node (e ∷ log) state next legal opened = by_test (e.node == node) refl (λ mid rest more. was_good node log mid next rest more) legal opened
  where
    by_opening : (o : Bool) → opens e.call e.reply ≡ o → GoesWell node log next → (mid : FileState) → IsTurn state e mid → IsLegal IsTurn mid (entries_at node log) next → (o || was_opened node log) ≡ true → IsGood next
    by_opening true is later mid turn rest opened = stays_good (entries_at node log) mid next rest (opened_good state e.session e.call e.before e.after e.reply mid turn.turns is)
    by_opening false is later mid turn rest opened = later mid rest opened

    by_test : (here : Bool) → (e.node == node) ≡ here → GoesWell node log next → IsLegal IsTurn state (entries_at node (e ∷ log)) next → ((here && opens e.call e.reply) || was_opened node log) ≡ true → IsGood next
    by_test true is later legal opened =
        let turn : IsLegal IsTurn state (e ∷ entries_at node log) next = rw is at legal in
        by_opening (opens e.call e.reply) refl later turn.0 turn.1 turn.2 opened
    by_test false is later legal opened = later state (rw is at legal) opened

-- ---- a file that is written out isn't empty

none_is_empty : {K : Type 0} (format : Format K) (body : List ℕ) (attribute : Option (List ℕ)) (read : Result (Opened K) BadCause) → content_of format body attribute read ≡ contents.Empty → (body ≡ []) × (attribute ≡ None)
none_is_empty format [] None read e = (refl, refl)
none_is_empty format (x ∷ body) None (Ok o) e = absurd cc
none_is_empty format (x ∷ body) None (Err cause) e = absurd cc
none_is_empty format [] (Some a) (Ok o) e = absurd cc
none_is_empty format [] (Some a) (Err cause) e = absurd cc
none_is_empty format (x ∷ body) (Some a) (Ok o) e = absurd cc
none_is_empty format (x ∷ body) (Some a) (Err cause) e = absurd cc

has_metadata : {K : Type 0} (format : Format K) (file : LowerFile) (place : MetaPlace) (o : Opened K) → IsFormat format → IsReadAs format file place Clean o → (file.body ≡ []) × (file.attribute ≡ None) → ⊥
has_metadata format file Header o lawful is none =
    let enough = (lawful.read Header _ _ is.2).enough in
    omega (arith, length-take SET_END file.body, ap length none.0, enough)
has_metadata format file Attribute o lawful is none = absurd (let a = is.0 in let n = none.1 in cc)

good_by : (found : Content) (file : ByteFile) → (found ≡ contents.Empty → ⊥) → Good file ≡ state_by found → found ≡ contents.Good file.octets
good_by contents.Empty file some is = absurd (some refl)
good_by (contents.Good octets) file some is = ap (λ (s : FileState). contents.Good (octets_of s)) (sym is)
  where
    octets_of : FileState → List ℕ
    octets_of (Good f) = f.octets
    octets_of (Bad cause) = []
good_by (contents.Bad cause) file some is = absurd cc

-- ---- what is left of one file

left_closed : {K : Type 0} (format : Format K) (node : ℕ) (first : LowerFile) (opened : Bool) (state : FileState) (file : LowerFile) → IsFormat format
    → (opened ≡ true → IsGood state) → state ≡ state_by (content format file) → IsLeft format node first opened file → MayBeLeft format first node opened state file
left_closed format node first false state file lawful good is left = left
left_closed format node first true state file lawful good is left =
    let f = good refl in
    let some : content format file ≡ contents.Empty → ⊥ = λ e. has_metadata format file left.1.meta_place left.1 lawful left.3.metadata (none_is_empty format file.body file.attribute (opening format file) e) in
    subst (λ (s : FileState). MayBeLeft format first node true s file) (sym f.1) (record { content_is = good_by (content format file) f.0 some (sym f.1 ∙ is); left = left })

left_by : {K : Type 0} (format : Format K) (node : ℕ) (first : LowerFile) (opened : Bool) (held : HeldBodies) (working : Option (Working K)) (slots : List OpenSlot) (state : FileState) → IsFormat format
    → (opened ≡ true → IsGood state) → StandsBy format first held node opened working slots state → IsOutIfOpen format first node (held.files node) working state → MayBeLeft format first node opened state (held.files node)
left_by format node first opened held (Some w) slots state lawful good stands out =
    let last : ByteFile = record { octets = stands.1; slots = slots } in
    let alone = subst (λ (s : FileState). IsOutIfOpen format first node (held.files node) (Some w) s) stands.6 out in
    subst (λ (b : Bool). MayBeLeft format first node b state (held.files node)) (sym stands.4) (subst (λ (s : FileState). MayBeLeft format first node true s (held.files node)) (sym stands.6) alone)
left_by format node first opened held None slots state lawful good stands out = left_closed format node first opened state (held.files node) lawful good stands.1 stands.2

-- The file of a node, behind a whole write-out: by a history that leads to its state, over a log with as many openings of it.
pub left_of : {K : Type 0} (format : Format K) (before after : HeldBodies) (old new : Shard K) (first : ℕ → LowerFile) (node : ℕ) (log : List FileEntry) (start state : FileState) → IsFormat format → before.told ≡ true
    → IsWriteOut format before after old new → IsWholeWriteOut format before after old new → Stands format first before old node state
    → IsLegal IsTurn start (entries_at node log) state → was_opened node old.log ≡ was_opened node log → MayBeLeft format (first node) node (was_opened node log) state (after.files node)
left_of format before after old new first node log start state lawful told writes whole stands legal same =
    let stands_now = writes.states told first node state stands in
    let opened : was_opened node new.log ≡ was_opened node log = ap (was_opened node) writes.log ∙ same in
    let by_log = subst (λ (b : Bool). StandsBy format (first node) after node b (new.working node) (new.slots node) state) opened stands_now in
    left_by format node (first node) (was_opened node log) after (new.working node) (new.slots node) state lawful (was_good node log start state legal) by_log (whole.out told first node state stands)
