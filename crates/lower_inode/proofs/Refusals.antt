-- Calls that are refused, and leave all as it was.
use Rattle.std.proofs.Common.{ℕ, ◌≡◌, ◌≢◌, Bool, true, false, List, [], Option, Some, None, refl, sym, ◌∙◌, ap, subst, arith}
use Rattle.std.specs.Prelude.{◌||◌}
use Rattle.std.proofs.lemmas.Bool.{false≢true}
use Rattle.session_model.specs.declared.file.FileCall.{FileCall}
use Rattle.session_model.specs.declared.file.FileCall.TheVariants.{Attach, Read, Write, Truncate, Size, Sync, Detach}
use Rattle.session_model.specs.declared.file.FileReply.{FileReply}
use Rattle.session_model.specs.declared.file.FileReply.TheVariants.{Done, Octets, Length, Refused, NotOpen, TooBig, LowerFault, Memory}
use Rattle.body_model.specs.declared.content.Content.{Content}
use Rattle.body_model.specs.declared.content.Content.TheVariants as contents
use Rattle.body_model.specs.LowerFile.{LowerFile}
use Rattle.body_model.specs.Bodies.{HeldBodies}
use Rattle.body_model.specs.Format.{Format, content}
use Rattle.file_model.specs.declared.open_slot.OpenSlot.{OpenSlot}
use Rattle.file_model.specs.LaidOut.{Working}
use Rattle.file_model.specs.ByteFile.{FileState, Bad, Good, is_attached, slot_of, step}
use Rattle.file_model.specs.Shard.{SyncWrites, StandsBy, is_let_in, opens, slots_behind, state_by}
use Rattle.lower_inode.specs.declared.node.OpenNode.{OpenNode}
use Rattle.lower_inode.specs.Shards.{slots_at, working_at}
use Rattle.lower_inode.specs.NodeTurn.{IsNode, IsNodeTurn, Touches}

-- a call of a slot that has to have the file open
abbrev pub IsOfSlot : FileCall → Type 0
IsOfSlot (Attach slot) = ⊥
IsOfSlot call = Unit {0}

abbrev slots_of : FileState → List OpenSlot
slots_of (Bad cause) = []
slots_of (Good file) = file.slots

no_slots : (c : Content) → slots_of (state_by c) ≡ []
no_slots contents.Empty = refl
no_slots (contents.Good octets) = refl
no_slots (contents.Bad cause) = refl

-- the slots of a file's state are those that are kept
pub same_slots : {K : Type 0} (format : Format K) (first : LowerFile) (held : HeldBodies) (node : ℕ) (opened : Bool) (w : Option (Working K)) (slots : List OpenSlot) (state : FileState)
    → StandsBy format first held node opened w slots state → slots_of state ≡ slots
same_slots format first held node opened (Some w) slots state s = ap slots_of s.6
same_slots format first held node opened None slots state s = ap slots_of s.1 ∙ no_slots (content format (held.files node)) ∙ sym s.0

-- ---- a slot that doesn't have the file open

not_open_step : (state : FileState) (session : ℕ) (call : FileCall) → IsOfSlot call → is_attached (slots_of state) session (slot_of call) ≡ false → step state session call ≡ record { reply = NotOpen; state = state }
not_open_step state session (Attach slot) of none = absurd of
not_open_step (Bad cause) session (Read slot at len) of none = refl
not_open_step (Bad cause) session (Write slot at octets) of none = refl
not_open_step (Bad cause) session (Truncate slot size) of none = refl
not_open_step (Bad cause) session (Size slot) of none = refl
not_open_step (Bad cause) session (Sync slot) of none = refl
not_open_step (Bad cause) session (Detach slot) of none = refl
not_open_step (Good file) session (Read slot at len) of none = rw none refl
not_open_step (Good file) session (Write slot at octets) of none = rw none refl
not_open_step (Good file) session (Truncate slot size) of none = rw none refl
not_open_step (Good file) session (Size slot) of none = rw none refl
not_open_step (Good file) session (Sync slot) of none = rw none refl
not_open_step (Good file) session (Detach slot) of none = rw none refl

-- what a refusal leaves, by the call
record Leaves (call : FileCall) (reply : FileReply) : Type 0 where
  slots : (session : ℕ) (slots : List OpenSlot) → slots_behind call reply session slots ≡ slots
  opened : (opened : Bool) → (opened || opens call reply) ≡ opened
  no_done : reply ≢ Done

pub or_false : (b : Bool) → (b || false) ≡ b
or_false true = refl
or_false false = refl

-- a touched store that is the same
pub touches_none : (node : ℕ) (held : HeldBodies) → Touches node held held
touches_none node held = record {
  later = omega arith;
  told = refl;
  body_room = λ other. omega arith;
  attribute_room = λ other. omega arith;
  others = record { others = λ told other apart. refl; octets = λ told octets. octets };
}

not_open_leaves : (call : FileCall) → IsOfSlot call → Leaves call NotOpen
not_open_leaves (Attach slot) of = absurd of
not_open_leaves (Read slot at len) of = record { slots = λ session slots. refl; opened = or_false; no_done = λ e. absurd cc }
not_open_leaves (Write slot at octets) of = record { slots = λ session slots. refl; opened = or_false; no_done = λ e. absurd cc }
not_open_leaves (Truncate slot size) of = record { slots = λ session slots. refl; opened = or_false; no_done = λ e. absurd cc }
not_open_leaves (Size slot) of = record { slots = λ session slots. refl; opened = or_false; no_done = λ e. absurd cc }
not_open_leaves (Sync slot) of = record { slots = λ session slots. refl; opened = or_false; no_done = λ e. absurd cc }
not_open_leaves (Detach slot) of = record { slots = λ session slots. refl; opened = or_false; no_done = λ e. absurd cc }

let_in_is : (call : FileCall) → IsOfSlot call → (session : ℕ) (slots : List OpenSlot) → is_let_in slots session call ≡ is_attached slots session (slot_of call)
let_in_is (Attach slot) of session slots = absurd of
let_in_is (Read slot at len) of session slots = refl
let_in_is (Write slot at octets) of session slots = refl
let_in_is (Truncate slot size) of session slots = refl
let_in_is (Size slot) of session slots = refl
let_in_is (Sync slot) of session slots = refl
let_in_is (Detach slot) of session slots = refl

not_written : {K : Type 0} (format : Format K) (first : LowerFile) (node : ℕ) (call : FileCall) (reply : FileReply) (file : LowerFile) (state : FileState) → reply ≢ Done → SyncWrites format first node call reply file state
not_written format first node (Attach slot) reply file state undone = tt
not_written format first node (Read slot at len) reply file state undone = tt
not_written format first node (Write slot at octets) reply file state undone = tt
not_written format first node (Truncate slot size) reply file state undone = tt
not_written format first node (Size slot) reply file state undone = tt
not_written format first node (Detach slot) reply file state undone = tt
not_written format first node (Sync slot) Done file state undone = absurd (undone refl)
not_written format first node (Sync slot) NotOpen file state undone = tt
not_written format first node (Sync slot) TooBig file state undone = tt
not_written format first node (Sync slot) LowerFault file state undone = tt
not_written format first node (Sync slot) Memory file state undone = tt
not_written format first node (Sync slot) (Octets octets) file state undone = tt
not_written format first node (Sync slot) (Length size) file state undone = tt
not_written format first node (Sync slot) (Refused cause) file state undone = tt

-- A call of a slot that doesn't have the file open is refused, and nothing changes.
pub refused_not_open : {K : Type 0} (format : Format K) (held : HeldBodies) (node : ℕ) (entry : Option (OpenNode K)) (session : ℕ) (call : FileCall)
    → IsNode held node entry → IsOfSlot call → is_attached (slots_at entry) session (slot_of call) ≡ false → IsNodeTurn format held held node entry entry session call NotOpen
refused_not_open format held node entry session call shape of none = record {
  touches = touches_none node held;
  shape = shape;
  cause = λ op. record {
    kind = tt;
    fault = λ e. absurd cc;
    memory = λ e. absurd cc;
    not_open = (λ e. let_in_is call of session (slots_at entry) ∙ none, λ e. refl);
    too_big = (λ e. absurd cc, λ e. absurd (false≢true (sym (let_in_is call of session (slots_at entry) ∙ none) ∙ e.0)));
  };
  slots = sym ((not_open_leaves call of).slots session (slots_at entry));
  turn = λ told first opened state stands.
      let none_here : is_attached (slots_of state) session (slot_of call) ≡ false = ap (λ (slots : List OpenSlot). is_attached slots session (slot_of call)) (same_slots format first held node opened (working_at entry) (slots_at entry) state stands) ∙ none in (
        state,
        not_open_step state session call of none_here,
        subst (λ (b : Bool). StandsBy format first held node b (working_at entry) (slots_at entry) state) (sym ((not_open_leaves call of).opened opened)) stands,
        not_written format first node call NotOpen (held.files node) state (not_open_leaves call of).no_done,
      );
  closed = λ told old new. refl;
  idle = λ sync clean. refl;
  synced = λ sync e. absurd cc;
}
