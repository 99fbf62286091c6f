-- Rooms that fit the slots, one answer on.
use Rattle.std.proofs.Common.{◌≡◌, ◌≢◌, ℕ, zero, suc, Bool, true, false, List, [], ◌∷◌, Option, Some, refl, sym, subst, ap, ◌∙◌}
use Rattle.std.specs.Prelude.{slice_get, slice_set, ◌==◌}
use Rattle.std.proofs.lemmas.Bool.{eqb-false, eqb-true}
use Rattle.session_model.specs.declared.file.FileReply.{FileReply}
use Rattle.session_model.specs.declared.file.FileReply.TheVariants as file_replies
use Rattle.session_model.specs.declared.session.Slot.{Slot}
use Rattle.session_model.specs.declared.session.Slot.TheVariants.{Closed, Open, Kept}
use Rattle.session_model.specs.declared.session.Hand.{Hand}
use Rattle.session_model.specs.declared.session.Hand.TheVariants as hands
use Rattle.session_model.specs.declared.session.Answer.{Answer}
use Rattle.session_model.specs.declared.session.Answer.TheVariants as answers
use Rattle.session_model.specs.Session.{Session, told, settled, heard, heard_attached, heard_closed}
use Rattle.session_model.specs.Runs.{is_open}
use Rattle.session_model.proofs.Joins.{get_set_other}
use Rattle.session_run.specs.Rooms.{HasRoom, Fits}

open_set : (slots : List Slot) (slot : ℕ) (what : Slot) → is_open (slice_get (slice_set slots slot what) slot) ≡ true → is_open (Some what) ≡ true
open_set [] slot what h = cc
open_set (x ∷ slots) zero what h = h
open_set (x ∷ slots) (suc slot) what h = open_set slots slot what h

-- one slot changes, and has its room if it is open then
fits_set : {L : Type 0} → (slots next : List Slot) (rooms rooms' : List (Option L)) (slot : ℕ) (what : Slot) → Fits slots rooms → next ≡ slice_set slots slot what
    → ((k : ℕ) → k ≢ slot → slice_get rooms' k ≡ slice_get rooms k) → (is_open (Some what) ≡ true → HasRoom (slice_get rooms' slot)) → Fits next rooms'
fits_set {L} slots next rooms rooms' slot what fits is others own k opened = by (k == slot) refl where
  at : is_open (slice_get (slice_set slots slot what) k) ≡ true
  at = ap (λ (l : List Slot). is_open (slice_get l k)) (sym is) ∙ opened

  by : (b : Bool) → (k == slot) ≡ b → HasRoom (slice_get rooms' k)
  by true e =
      let same : k ≡ slot = eqb-true k slot e in
      let here : is_open (slice_get (slice_set slots slot what) slot) ≡ true = subst (λ (i : ℕ). is_open (slice_get (slice_set slots slot what) i) ≡ true) same at in
      subst (λ (i : ℕ). HasRoom (slice_get rooms' i)) (sym same) (own (open_set slots slot what here))
  by false e =
      let other : k ≢ slot = eqb-false k slot e in
      let before : is_open (slice_get slots k) ≡ true = ap is_open (sym (get_set_other slots slot k what other)) ∙ at in
      subst (λ (o : Option (Option L)). HasRoom o) (sym (others k other)) (fits k before)

pub fits_same : {L : Type 0} → (slots next : List Slot) (rooms : List (Option L)) → Fits slots rooms → next ≡ slots → Fits next rooms
fits_same slots next rooms fits is k opened = fits k (ap (λ (l : List Slot). is_open (slice_get l k)) (sym is) ∙ opened)

-- ---- what an answer does to the slots

-- a close leaves the slot closed, or as one of which a close was refused
record LeavesClosed (s : Session) (a : Answer) (slot : ℕ) : Type 0 where
  pub what : Slot
  pub not_open : is_open (Some what) ≡ false
  pub slots : (told s a).session.slots ≡ slice_set s.slots slot what

record Closing (s : Session) (a : Answer) (slot node : ℕ) : Type 0 where
  what : Slot
  not_open : is_open (Some what) ≡ false
  slots : (settled s (heard_closed slot node a)).session.slots ≡ slice_set s.slots slot what

closing : (s : Session) (a : Answer) (slot node : ℕ) → Closing s a slot node
closing s (answers.Tree reply) slot node = record { what = Kept node; not_open = refl; slots = refl }
closing s answers.Memory slot node = record { what = Kept node; not_open = refl; slots = refl }
closing s (answers.File file_replies.Done) slot node = record { what = Closed; not_open = refl; slots = refl }
closing s (answers.File (file_replies.Octets octets)) slot node = record { what = Kept node; not_open = refl; slots = refl }
closing s (answers.File (file_replies.Length size)) slot node = record { what = Kept node; not_open = refl; slots = refl }
closing s (answers.File (file_replies.Refused cause)) slot node = record { what = Kept node; not_open = refl; slots = refl }
closing s (answers.File file_replies.NotOpen) slot node = record { what = Kept node; not_open = refl; slots = refl }
closing s (answers.File file_replies.TooBig) slot node = record { what = Kept node; not_open = refl; slots = refl }
closing s (answers.File file_replies.LowerFault) slot node = record { what = Kept node; not_open = refl; slots = refl }
closing s (answers.File file_replies.Memory) slot node = record { what = Kept node; not_open = refl; slots = refl }

leaves_closed : (s : Session) (a : Answer) (slot node : ℕ) → s.hand ≡ hands.Closes slot node → LeavesClosed s a slot
leaves_closed s a slot node e =
    let c = closing s a slot node in
    record { what = c.what; not_open = c.not_open; slots = ap (λ (hand : Hand). (settled s (heard hand a)).session.slots) e ∙ c.slots }

-- the rooms fit behind a close, whatever it was told
pub fits_closed : {L : Type 0} → (was is : Session) (rooms rooms' : List (Option L)) (a : Answer) (slot node : ℕ) → Fits was.slots rooms → was.hand ≡ hands.Closes slot node → is ≡ (told was a).session
    → ((k : ℕ) → k ≢ slot → slice_get rooms' k ≡ slice_get rooms k) → Fits is.slots rooms'
fits_closed was is rooms rooms' a slot node fits e goes others =
    let leaves = leaves_closed was a slot node e in
    fits_set was.slots is.slots rooms rooms' slot leaves.what fits (ap (λ (s : Session). s.slots) goes ∙ leaves.slots) others (λ opened. let shut = leaves.not_open in cc)

-- ---- an opening

-- the slot is open, and has the room of its close
pub fits_opened : {L : Type 0} → (was is : Session) (rooms rooms' : List (Option L)) (reply : FileReply) (slot node : ℕ) → Fits was.slots rooms → was.hand ≡ hands.Attaches slot node → is ≡ (told was (answers.File reply)).session
    → reply ≡ file_replies.Done → ((k : ℕ) → k ≢ slot → slice_get rooms' k ≡ slice_get rooms k) → HasRoom (slice_get rooms' slot) → Fits is.slots rooms'
fits_opened was is rooms rooms' reply slot node fits e goes done others room =
    let opened : is.slots ≡ slice_set was.slots slot (Open node)
    = ap (λ (s : Session). s.slots) goes ∙ ap (λ (r : FileReply). (told was (answers.File r)).session.slots) done ∙ ap (λ (hand : Hand). (settled was (heard hand (answers.File file_replies.Done))).session.slots) e in
    fits_set was.slots is.slots rooms rooms' slot (Open node) fits opened others (λ h. room)

attached_slots : (s : Session) (slot node : ℕ) (reply : FileReply) → (reply ≡ file_replies.Done → ⊥) → (settled s (heard_attached slot node (answers.File reply))).session.slots ≡ s.slots
attached_slots s slot node file_replies.Done h = absurd (h refl)
attached_slots s slot node (file_replies.Octets octets) h = refl
attached_slots s slot node (file_replies.Length size) h = refl
attached_slots s slot node (file_replies.Refused cause) h = refl
attached_slots s slot node file_replies.NotOpen h = refl
attached_slots s slot node file_replies.TooBig h = refl
attached_slots s slot node file_replies.LowerFault h = refl
attached_slots s slot node file_replies.Memory h = refl

-- an opening that isn't done changes no slot
pub fits_unopened : {L : Type 0} → (was is : Session) (rooms : List (Option L)) (reply : FileReply) (slot node : ℕ) → Fits was.slots rooms → was.hand ≡ hands.Attaches slot node → is ≡ (told was (answers.File reply)).session
    → (reply ≡ file_replies.Done → ⊥) → Fits is.slots rooms
fits_unopened was is rooms reply slot node fits e goes not =
    fits_same was.slots is.slots rooms fits (ap (λ (s : Session). s.slots) goes ∙ ap (λ (hand : Hand). (settled was (heard hand (answers.File reply))).session.slots) e ∙ attached_slots was slot node reply not)
