-- Turns of a file that is open.
use Rattle.std.proofs.Common.{ℕ, ◌≡◌, ◌≢◌, ◌+◌, ◌<◌, ◌≤◌, Bool, true, false, List, [], ◌++◌, length, take, drop, Some, None, refl, sym, ◌∙◌, ap, subst, arith, inl}
use Rattle.std.specs.Prelude.{not, Result, Ok, Err, OnOk, OnErr}
use Rattle.std.specs.List.{list_any}
use Rattle.std.proofs.lemmas.Bool.{false≢true, lt-ltb, le-ltb}
use Rattle.std.proofs.lemmas.List.{take-take, take-append-le}
use Rattle.packet_model.specs.declared.layout.TheConstants.{MAX_SIZE}
use Rattle.session_model.specs.declared.file.FileCall.TheVariants.{Read, Write, Truncate, Size, Sync, Detach}
use Rattle.session_model.specs.declared.file.FileReply.TheVariants.{Done, Octets, Length, TooBig, LowerFault, Memory}
use Rattle.body_model.specs.declared.content.Content.TheVariants as contents
use Rattle.body_model.specs.LowerFile.{IsOfOctets}
use Rattle.body_model.specs.Bodies.{HeldBodies}
use Rattle.body_model.specs.Format.{Format, IsFormat, content}
use Rattle.file_model.specs.declared.open_slot.OpenSlot.{OpenSlot}
use Rattle.file_model.specs.LaidOut.{IsUnmarked, IsWrittenOut, LaidOut, Origin}
use Rattle.file_model.specs.ByteFile.{FileState, Good, is_attached, resized, step, without_slot, is_open_slot, written}
use Rattle.file_model.specs.FileLog.{IsNoRefusal}
use Rattle.file_model.specs.Shard.{IsLeft, StandsBy, state_by}
use Rattle.file_model.proofs.Elsewhere.{GoesOn, stands_on}
use Rattle.file_model.proofs.Slots.{nothing_left, something_left}
use Rattle.lower_tree.specs.declared.error.LowerError.{LowerError}
use Rattle.lower_tree.specs.declared.error.LowerError.TheVariants as lower
use Rattle.lower_tree.specs.Calls.{is_fault}
use Rattle.open_file.specs.Buffered.{Buffered, ChangesOctets, HasItsRoom, working_of}
use Rattle.open_file.specs.Calling.{AreReads, AreWrites}
use Rattle.lower_inode.specs.declared.node.OpenNode.{OpenNode}
use Rattle.lower_inode.specs.Shards.{working_at}
use Rattle.lower_inode.specs.NodeTurn.{IsNode, IsNodeTurn, Touches, reply_to_change}
use Rattle.lower_inode.proofs.Refusals.{touches_none, or_false}

-- ---- what calls on the store leave

pub touches_reads : (failed : Bool) (node : ℕ) (old new : HeldBodies) → AreReads failed old new → Touches node old new
touches_reads failed node old new r = record {
  later = r.calls.later;
  told = r.calls.told;
  body_room = r.calls.body_room;
  attribute_room = r.calls.attribute_room;
  others = record { others = λ told other apart. r.keeps told other; octets = λ told octets. subst IsOfOctets (sym (r.keeps told node)) octets };
}

pub touches_writes : (failed : Bool) (node : ℕ) (old new : HeldBodies) → AreWrites failed node old new → Touches node old new
touches_writes failed node old new w = record { later = w.calls.later; told = w.calls.told; body_room = w.calls.body_room; attribute_room = w.calls.attribute_room; others = w.others }

pub goes_on_reads : (failed : Bool) (node : ℕ) (old new : HeldBodies) → AreReads failed old new → old.told ≡ true → GoesOn old new node
goes_on_reads failed node old new r told = record { file = r.keeps told node; body_room = r.calls.body_room node; attribute_room = r.calls.attribute_room node }

room_on : {K : Type 0} (old new : HeldBodies) (node : ℕ) (f : Buffered K) → old.body_room node ≤ new.body_room node → old.attribute_room node ≤ new.attribute_room node → HasItsRoom old node f.opened → HasItsRoom new node f.opened
room_on old new node f body attribute room = record { body = omega (arith, room.body, body); attribute = omega (arith, room.attribute, attribute) }

-- too much is asked for
pub refused_too_big_write : {K : Type 0} (format : Format K) (held : HeldBodies) (node : ℕ) (f : OpenNode K) (session slot at : ℕ) (octets : List ℕ)
    → IsNode held node (Some f) → is_attached f.slots.items session slot ≡ true → MAX_SIZE < at + length octets → IsNodeTurn format held held node (Some f) (Some f) session (Write slot at octets) TooBig
refused_too_big_write format held node f session slot at octets shape here big = record {
  touches = touches_none node held;
  shape = shape;
  cause = λ op. record { kind = tt; fault = λ e. absurd cc; memory = λ e. tt; not_open = (λ e. absurd cc, λ e. absurd (false≢true (sym e ∙ here))); too_big = (λ e. (here, big), λ e. refl) };
  slots = refl;
  turn = λ told first opened state stands. (
    state,
    subst (λ (s : FileState). step s session (Write slot at octets) ≡ record { reply = TooBig; state = s }) (sym stands.6) (rw (here, lt-ltb MAX_SIZE (at + length octets) big) refl),
    subst (λ (b : Bool). StandsBy format first held node b (working_at (Some f)) f.slots.items state) (sym (or_false opened)) stands,
    tt,
  );
  closed = λ told old new. refl;
  idle = λ sync clean. refl;
  synced = λ sync e. absurd cc;
}

pub refused_too_big_truncate : {K : Type 0} (format : Format K) (held : HeldBodies) (node : ℕ) (f : OpenNode K) (session slot size : ℕ)
    → IsNode held node (Some f) → is_attached f.slots.items session slot ≡ true → MAX_SIZE < size → IsNodeTurn format held held node (Some f) (Some f) session (Truncate slot size) TooBig
refused_too_big_truncate format held node f session slot size shape here big = record {
  touches = touches_none node held;
  shape = shape;
  cause = λ op. record { kind = tt; fault = λ e. absurd cc; memory = λ e. tt; not_open = (λ e. absurd cc, λ e. absurd (false≢true (sym e ∙ here))); too_big = (λ e. (here, big), λ e. refl) };
  slots = refl;
  turn = λ told first opened state stands. (
    state,
    subst (λ (s : FileState). step s session (Truncate slot size) ≡ record { reply = TooBig; state = s }) (sym stands.6) (rw (here, lt-ltb MAX_SIZE size big) refl),
    subst (λ (b : Bool). StandsBy format first held node b (working_at (Some f)) f.slots.items state) (sym (or_false opened)) stands,
    tt,
  );
  closed = λ told old new. refl;
  idle = λ sync clean. refl;
  synced = λ sync e. absurd cc;
}

-- the front of a room that was filled from its first octet on
pub front_of : (count n : ℕ) (front rest : List ℕ) → count ≤ n → count ≤ length front → take count (take n (front ++ rest)) ≡ take count front
front_of count n front rest small short = take-take count n (front ++ rest) small ∙ take-append-le count front rest short

-- ---- what changes nothing

pub turn_read : {K : Type 0} (format : Format K) (held : HeldBodies) (node : ℕ) (f : OpenNode K) (session slot at len : ℕ) (told_octets : List ℕ)
    → IsNode held node (Some f) → is_attached f.slots.items session slot ≡ true → length told_octets ≤ len
    → ((origin : Origin) (octets : List ℕ) → LaidOut format origin held node (working_of f.file) octets → told_octets ≡ take len (drop at octets))
    → IsNodeTurn format held held node (Some f) (Some f) session (Read slot at len) (Octets told_octets)
turn_read format held node f session slot at len told_octets shape here few read = record {
  touches = touches_none node held;
  shape = shape;
  cause = λ op. record { kind = few; fault = λ e. absurd cc; memory = λ e. absurd cc; not_open = (λ e. absurd cc, λ e. absurd (false≢true (sym e ∙ here))); too_big = (λ e. absurd cc, λ e. absurd (omega (arith, e.1))) };
  slots = refl;
  turn = λ told first opened state stands. (
    state,
    subst (λ (s : FileState). step s session (Read slot at len) ≡ record { reply = Octets told_octets; state = s }) (sym stands.6) (rw (here, read stands.0 stands.1 stands.3) refl),
    subst (λ (b : Bool). StandsBy format first held node b (working_at (Some f)) f.slots.items state) (sym (or_false opened)) stands,
    tt,
  );
  closed = λ told old new. refl;
  idle = λ sync clean. refl;
  synced = λ sync e. absurd cc;
}

pub turn_size : {K : Type 0} (format : Format K) (held : HeldBodies) (node : ℕ) (f : OpenNode K) (session slot : ℕ)
    → IsNode held node (Some f) → is_attached f.slots.items session slot ≡ true → f.file.opened.size ≤ MAX_SIZE
    → IsNodeTurn format held held node (Some f) (Some f) session (Size slot) (Length f.file.opened.size)
turn_size format held node f session slot shape here most = record {
  touches = touches_none node held;
  shape = shape;
  cause = λ op. record { kind = most; fault = λ e. absurd cc; memory = λ e. absurd cc; not_open = (λ e. absurd cc, λ e. absurd (false≢true (sym e ∙ here))); too_big = (λ e. absurd cc, λ e. absurd (omega (arith, e.1))) };
  slots = refl;
  turn = λ told first opened state stands. (
    state,
    subst (λ (s : FileState). step s session (Size slot) ≡ record { reply = Length f.file.opened.size; state = s }) (sym stands.6) (rw (here, stands.3.size) refl),
    subst (λ (b : Bool). StandsBy format first held node b (working_at (Some f)) f.slots.items state) (sym (or_false opened)) stands,
    tt,
  );
  closed = λ told old new. refl;
  idle = λ sync clean. refl;
  synced = λ sync e. absurd cc;
}

-- ---- what changes octets

-- Whatever the octets were, they are these now.
abbrev Changes : {K : Type 0} → Format K → HeldBodies → HeldBodies → ℕ → Buffered K → Buffered K → (List ℕ → List ℕ) → Type 0
Changes format before after node f g change = before.told ≡ true → (origin : Origin) (octets : List ℕ)
    → LaidOut format origin before node (working_of f) octets → LaidOut format origin after node (working_of g) (change octets)

abbrev pub with_file : {K : Type 0} → OpenNode K → Buffered K → OpenNode K
with_file f g = record f { file = g }

pub turn_write : {K : Type 0} (format : Format K) (before after : HeldBodies) (node : ℕ) (f : OpenNode K) (g : Buffered K) (session slot at : ℕ) (octets : List ℕ)
    → f.slots.items ≢ [] → is_attached f.slots.items session slot ≡ true → at + length octets ≤ MAX_SIZE → AreReads false before after → HasItsRoom after node g.opened
    → Changes format before after node f.file g (written at octets)
    → IsNodeTurn format before after node (Some f) (Some (with_file f g)) session (Write slot at octets) Done
turn_write format before after node f g session slot at octets some here small reads room changes = record {
  touches = touches_reads false node before after reads;
  shape = (room, some);
  cause = λ op. record { kind = tt; fault = λ e. absurd cc; memory = λ e. absurd cc; not_open = (λ e. absurd cc, λ e. absurd (false≢true (sym e ∙ here))); too_big = (λ e. absurd cc, λ e. absurd (omega (arith, e.1, small))) };
  slots = refl;
  turn = λ told first opened state stands. (
    Good (record { octets = written at octets stands.1; slots = f.slots.items }),
    subst (λ (s : FileState). step s session (Write slot at octets) ≡ record { reply = Done; state = Good (record { octets = written at octets stands.1; slots = f.slots.items }) }) (sym stands.6) (rw (here, le-ltb MAX_SIZE (at + length octets) small) refl),
    (stands.0, written at octets stands.1, stands.2, changes told stands.0 stands.1 stands.3, or_false opened ∙ stands.4, some, refl),
    tt,
  );
  closed = λ told old new. absurd cc;
  idle = λ sync clean. absurd sync;
  synced = λ sync e. absurd sync;
}

pub turn_truncate : {K : Type 0} (format : Format K) (before after : HeldBodies) (node : ℕ) (f : OpenNode K) (g : Buffered K) (session slot size : ℕ)
    → f.slots.items ≢ [] → is_attached f.slots.items session slot ≡ true → size ≤ MAX_SIZE → AreReads false before after → HasItsRoom after node g.opened
    → Changes format before after node f.file g (resized size)
    → IsNodeTurn format before after node (Some f) (Some (with_file f g)) session (Truncate slot size) Done
turn_truncate format before after node f g session slot size some here small reads room changes = record {
  touches = touches_reads false node before after reads;
  shape = (room, some);
  cause = λ op. record { kind = tt; fault = λ e. absurd cc; memory = λ e. absurd cc; not_open = (λ e. absurd cc, λ e. absurd (false≢true (sym e ∙ here))); too_big = (λ e. absurd cc, λ e. absurd (omega (arith, e.1, small))) };
  slots = refl;
  turn = λ told first opened state stands. (
    Good (record { octets = resized size stands.1; slots = f.slots.items }),
    subst (λ (s : FileState). step s session (Truncate slot size) ≡ record { reply = Done; state = Good (record { octets = resized size stands.1; slots = f.slots.items }) }) (sym stands.6) (rw (here, le-ltb MAX_SIZE size small) refl),
    (stands.0, resized size stands.1, stands.2, changes told stands.0 stands.1 stands.3, or_false opened ∙ stands.4, some, refl),
    tt,
  );
  closed = λ told old new. absurd cc;
  idle = λ sync clean. absurd sync;
  synced = λ sync e. absurd sync;
}

-- A change that failed: the store was asked for room alone, and the file stays.
pub turn_write_fault : {K : Type 0} (format : Format K) (before after : HeldBodies) (node : ℕ) (f : OpenNode K) (session slot at : ℕ) (octets : List ℕ)
    → IsNode after node (Some f) → is_attached f.slots.items session slot ≡ true → at + length octets ≤ MAX_SIZE → AreReads true before after
    → IsNodeTurn format before after node (Some f) (Some f) session (Write slot at octets) LowerFault
turn_write_fault format before after node f session slot at octets shape here small reads = record {
  touches = touches_reads true node before after reads;
  shape = shape;
  cause = λ op. record { kind = tt; fault = λ e. reads.calls.rose refl; memory = λ e. absurd cc; not_open = (λ e. absurd cc, λ e. absurd (false≢true (sym e ∙ here))); too_big = (λ e. absurd cc, λ e. absurd (omega (arith, e.1, small))) };
  slots = refl;
  turn = λ told first opened state stands. (
    state,
    (reads.calls.rose refl, inl (subst (λ (s : FileState). IsNoRefusal (step s session (Write slot at octets)).reply) (sym stands.6) (rw (here, le-ltb MAX_SIZE (at + length octets) small) tt)), refl),
    subst (λ (b : Bool). StandsBy format first after node b (working_at (Some f)) f.slots.items state) (sym (or_false opened))
        (stands_on format first before after node opened (working_at (Some f)) f.slots.items state (goes_on_reads true node before after reads told) stands),
    tt,
  );
  closed = λ told old new. absurd cc;
  idle = λ sync clean. absurd sync;
  synced = λ sync e. absurd sync;
}

pub turn_write_memory : {K : Type 0} (format : Format K) (before after : HeldBodies) (node : ℕ) (f : OpenNode K) (session slot at : ℕ) (octets : List ℕ)
    → IsNode after node (Some f) → is_attached f.slots.items session slot ≡ true → at + length octets ≤ MAX_SIZE → AreReads false before after
    → IsNodeTurn format before after node (Some f) (Some f) session (Write slot at octets) Memory
turn_write_memory format before after node f session slot at octets shape here small reads = record {
  touches = touches_reads false node before after reads;
  shape = shape;
  cause = λ op. record { kind = tt; fault = λ e. absurd cc; memory = λ e. tt; not_open = (λ e. absurd cc, λ e. absurd (false≢true (sym e ∙ here))); too_big = (λ e. absurd cc, λ e. absurd (omega (arith, e.1, small))) };
  slots = refl;
  turn = λ told first opened state stands. (
    state,
    (tt, inl (subst (λ (s : FileState). IsNoRefusal (step s session (Write slot at octets)).reply) (sym stands.6) (rw (here, le-ltb MAX_SIZE (at + length octets) small) tt)), refl),
    subst (λ (b : Bool). StandsBy format first after node b (working_at (Some f)) f.slots.items state) (sym (or_false opened))
        (stands_on format first before after node opened (working_at (Some f)) f.slots.items state (goes_on_reads false node before after reads told) stands),
    tt,
  );
  closed = λ told old new. absurd cc;
  idle = λ sync clean. absurd sync;
  synced = λ sync e. absurd sync;
}

pub turn_truncate_fault : {K : Type 0} (format : Format K) (before after : HeldBodies) (node : ℕ) (f : OpenNode K) (session slot size : ℕ)
    → IsNode after node (Some f) → is_attached f.slots.items session slot ≡ true → size ≤ MAX_SIZE → AreReads true before after
    → IsNodeTurn format before after node (Some f) (Some f) session (Truncate slot size) LowerFault
turn_truncate_fault format before after node f session slot size shape here small reads = record {
  touches = touches_reads true node before after reads;
  shape = shape;
  cause = λ op. record { kind = tt; fault = λ e. reads.calls.rose refl; memory = λ e. absurd cc; not_open = (λ e. absurd cc, λ e. absurd (false≢true (sym e ∙ here))); too_big = (λ e. absurd cc, λ e. absurd (omega (arith, e.1, small))) };
  slots = refl;
  turn = λ told first opened state stands. (
    state,
    (reads.calls.rose refl, inl (subst (λ (s : FileState). IsNoRefusal (step s session (Truncate slot size)).reply) (sym stands.6) (rw (here, le-ltb MAX_SIZE size small) tt)), refl),
    subst (λ (b : Bool). StandsBy format first after node b (working_at (Some f)) f.slots.items state) (sym (or_false opened))
        (stands_on format first before after node opened (working_at (Some f)) f.slots.items state (goes_on_reads true node before after reads told) stands),
    tt,
  );
  closed = λ told old new. absurd cc;
  idle = λ sync clean. absurd sync;
  synced = λ sync e. absurd sync;
}

pub turn_truncate_memory : {K : Type 0} (format : Format K) (before after : HeldBodies) (node : ℕ) (f : OpenNode K) (session slot size : ℕ)
    → IsNode after node (Some f) → is_attached f.slots.items session slot ≡ true → size ≤ MAX_SIZE → AreReads false before after
    → IsNodeTurn format before after node (Some f) (Some f) session (Truncate slot size) Memory
turn_truncate_memory format before after node f session slot size shape here small reads = record {
  touches = touches_reads false node before after reads;
  shape = shape;
  cause = λ op. record { kind = tt; fault = λ e. absurd cc; memory = λ e. tt; not_open = (λ e. absurd cc, λ e. absurd (false≢true (sym e ∙ here))); too_big = (λ e. absurd cc, λ e. absurd (omega (arith, e.1, small))) };
  slots = refl;
  turn = λ told first opened state stands. (
    state,
    (tt, inl (subst (λ (s : FileState). IsNoRefusal (step s session (Truncate slot size)).reply) (sym stands.6) (rw (here, le-ltb MAX_SIZE size small) tt)), refl),
    subst (λ (b : Bool). StandsBy format first after node b (working_at (Some f)) f.slots.items state) (sym (or_false opened))
        (stands_on format first before after node opened (working_at (Some f)) f.slots.items state (goes_on_reads false node before after reads told) stands),
    tt,
  );
  closed = λ told old new. absurd cc;
  idle = λ sync clean. absurd sync;
  synced = λ sync e. absurd sync;
}

-- ---- what writes out

-- The octets stay, and the file is laid out in the new store.
abbrev pub Goes : {K : Type 0} → Format K → HeldBodies → HeldBodies → ℕ → Buffered K → Buffered K → Type 0
Goes format before after node f g = before.told ≡ true → (origin : Origin) (octets : List ℕ) → LaidOut format origin before node (working_of f) octets → LaidOut format origin after node (working_of g) octets

-- The lower file alone stands for the octets.
abbrev pub IsOut : {K : Type 0} → Format K → HeldBodies → HeldBodies → ℕ → Buffered K → Buffered K → Type 0
IsOut format before after node f g = before.told ≡ true → (origin : Origin) (octets : List ℕ) → LaidOut format origin before node (working_of f) octets
    → (content format (after.files node) ≡ contents.Good octets) × IsWrittenOut format origin (after.files node) g.opened

pub turn_sync : {K : Type 0} (format : Format K) (before after : HeldBodies) (node : ℕ) (f : OpenNode K) (g : Buffered K) (session slot : ℕ)
    → f.slots.items ≢ [] → is_attached f.slots.items session slot ≡ true → AreWrites false node before after → HasItsRoom after node g.opened
    → Goes format before after node f.file g → IsOut format before after node f.file g → IsUnmarked (working_of g) → (IsUnmarked (working_of f.file) → after.calls ≡ before.calls)
    → IsNodeTurn format before after node (Some f) (Some (with_file f g)) session (Sync slot) Done
turn_sync format before after node f g session slot some here writes room goes out unmarked idle = record {
  touches = touches_writes false node before after writes;
  shape = (room, some);
  cause = λ op. record { kind = tt; fault = λ e. absurd cc; memory = λ e. absurd cc; not_open = (λ e. absurd cc, λ e. absurd (false≢true (sym e ∙ here))); too_big = (λ e. absurd cc, λ e. absurd (omega (arith, e.1))) };
  slots = refl;
  turn = λ told first opened state stands.
      let good : FileState = Good (record { octets = stands.1; slots = f.slots.items }) in (
        good,
        subst (λ (s : FileState). step s session (Sync slot) ≡ record { reply = Done; state = good }) (sym stands.6) (rw here refl),
        (stands.0, stands.1, stands.2, goes told stands.0 stands.1 stands.3, or_false opened ∙ stands.4, some, refl),
        record { content_is = (out told stands.0 stands.1 stands.3).0; left = (stands.0, g.opened, stands.2, (out told stands.0 stands.1 stands.3).1) },
      );
  closed = λ told old new. absurd cc;
  idle = λ sync clean. idle clean;
  synced = λ sync e. unmarked;
}

pub turn_sync_fault : {K : Type 0} (format : Format K) (before after : HeldBodies) (node : ℕ) (f : OpenNode K) (g : Buffered K) (session slot : ℕ)
    → f.slots.items ≢ [] → is_attached f.slots.items session slot ≡ true → AreWrites true node before after → HasItsRoom after node g.opened
    → Goes format before after node f.file g → (IsUnmarked (working_of f.file) → after.calls ≡ before.calls)
    → IsNodeTurn format before after node (Some f) (Some (with_file f g)) session (Sync slot) LowerFault
turn_sync_fault format before after node f g session slot some here writes room goes idle = record {
  touches = touches_writes true node before after writes;
  shape = (room, some);
  cause = λ op. record { kind = tt; fault = λ e. writes.calls.rose refl; memory = λ e. absurd cc; not_open = (λ e. absurd cc, λ e. absurd (false≢true (sym e ∙ here))); too_big = (λ e. absurd cc, λ e. absurd (omega (arith, e.1))) };
  slots = refl;
  turn = λ told first opened state stands. (
    state,
    (writes.calls.rose refl, inl (subst (λ (s : FileState). IsNoRefusal (step s session (Sync slot)).reply) (sym stands.6) (rw here tt)), refl),
    (stands.0, stands.1, stands.2, goes told stands.0 stands.1 stands.3, or_false opened ∙ stands.4, some, stands.6),
    tt,
  );
  closed = λ told old new. absurd cc;
  idle = λ sync clean. idle clean;
  synced = λ sync e. absurd cc;
}

-- ---- what closes

-- another slot has the file open
pub turn_detach_one : {K : Type 0} (format : Format K) (held : HeldBodies) (node : ℕ) (f g : OpenNode K) (session slot : ℕ)
    → IsNode held node (Some f) → is_attached f.slots.items session slot ≡ true → list_any (λ open_slot. not (is_open_slot session slot open_slot)) f.slots.items ≡ true
    → g.file ≡ f.file → g.slots.items ≡ without_slot f.slots.items session slot → IsNodeTurn format held held node (Some f) (Some g) session (Detach slot) Done
turn_detach_one format held node f g session slot shape here others same left = record {
  touches = touches_none node held;
  shape = (rw same shape.0, subst (λ (ps : List OpenSlot). ps ≢ []) (sym left) (something_left f.slots.items session slot others));
  cause = λ op. record { kind = tt; fault = λ e. absurd cc; memory = λ e. absurd cc; not_open = (λ e. absurd cc, λ e. absurd (false≢true (sym e ∙ here))); too_big = (λ e. absurd cc, λ e. absurd (omega (arith, e.1))) };
  slots = left;
  turn = λ told first opened state stands.
      let next : FileState = Good (record { octets = stands.1; slots = without_slot f.slots.items session slot }) in (
        next,
        subst (λ (s : FileState). step s session (Detach slot) ≡ record { reply = Done; state = next }) (sym stands.6) (rw here refl),
        (stands.0, stands.1, stands.2, rw same stands.3, or_false opened ∙ stands.4, subst (λ (ps : List OpenSlot). ps ≢ []) (sym left) (something_left f.slots.items session slot others), rw left refl),
        tt,
      );
  closed = λ told old new. absurd cc;
  idle = λ sync clean. absurd sync;
  synced = λ sync e. absurd sync;
}

-- The last slot: the file is written out, and no longer open.
pub turn_detach_last : {K : Type 0} (format : Format K) (before after : HeldBodies) (node : ℕ) (f : OpenNode K) (g : Buffered K) (session slot : ℕ)
    → is_attached f.slots.items session slot ≡ true → list_any (λ open_slot. not (is_open_slot session slot open_slot)) f.slots.items ≡ false
    → AreWrites false node before after → IsOut format before after node f.file g → IsNodeTurn format before after node (Some f) None session (Detach slot) Done
turn_detach_last format before after node f g session slot here none writes out = record {
  touches = touches_writes false node before after writes;
  shape = tt;
  cause = λ op. record { kind = tt; fault = λ e. absurd cc; memory = λ e. absurd cc; not_open = (λ e. absurd cc, λ e. absurd (false≢true (sym e ∙ here))); too_big = (λ e. absurd cc, λ e. absurd (omega (arith, e.1))) };
  slots = sym (nothing_left f.slots.items session slot none);
  turn = λ told first opened state stands.
      let left : without_slot f.slots.items session slot ≡ [] = nothing_left f.slots.items session slot none in
      let next : FileState = Good (record { octets = stands.1; slots = [] }) in
      let done = out told stands.0 stands.1 stands.3 in (
        next,
        subst (λ (s : FileState). step s session (Detach slot) ≡ record { reply = Done; state = next }) (sym stands.6) (rw (here, left) refl),
        (refl, ap state_by (sym done.0), subst (λ (b : Bool). IsLeft format node first b (after.files node)) (sym (or_false opened ∙ stands.4)) (stands.0, g.opened, stands.2, done.1)),
        tt,
      );
  closed = λ told old new. absurd cc;
  idle = λ sync clean. absurd sync;
  synced = λ sync e. absurd sync;
}

pub turn_detach_fault : {K : Type 0} (format : Format K) (before after : HeldBodies) (node : ℕ) (f : OpenNode K) (g : Buffered K) (session slot : ℕ)
    → f.slots.items ≢ [] → is_attached f.slots.items session slot ≡ true → AreWrites true node before after → HasItsRoom after node g.opened → Goes format before after node f.file g
    → IsNodeTurn format before after node (Some f) (Some (with_file f g)) session (Detach slot) LowerFault
turn_detach_fault format before after node f g session slot some here writes room goes = record {
  touches = touches_writes true node before after writes;
  shape = (room, some);
  cause = λ op. record { kind = tt; fault = λ e. writes.calls.rose refl; memory = λ e. absurd cc; not_open = (λ e. absurd cc, λ e. absurd (false≢true (sym e ∙ here))); too_big = (λ e. absurd cc, λ e. absurd (omega (arith, e.1))) };
  slots = refl;
  turn = λ told first opened state stands. (
    state,
    (writes.calls.rose refl, inl (subst (λ (s : FileState). IsNoRefusal (step s session (Detach slot)).reply) (sym stands.6) (rw here tt)), refl),
    (stands.0, stands.1, stands.2, goes told stands.0 stands.1 stands.3, or_false opened ∙ stands.4, some, stands.6),
    tt,
  );
  closed = λ told old new. absurd cc;
  idle = λ sync clean. absurd sync;
  synced = λ sync e. absurd sync;
}

-- ---- a change by its result

abbrev ChangesAs : {K : Type 0} → HeldBodies → HeldBodies → ℕ → Buffered K → Buffered K → (List ℕ → List ℕ) → Result (Unit {0}) LowerError → Type 0
ChangesAs before after node f g change result = AreReads (is_fault result) before after × OnOk result (ChangesOctets node before after f g change) × OnErr result (g ≡ f)

pub turn_write_by : {K : Type 0} (format : Format K) (before after : HeldBodies) (node : ℕ) (f : OpenNode K) (g : Buffered K) (session slot at : ℕ) (octets : List ℕ) (result : Result (Unit {0}) LowerError)
    → IsFormat format → f.slots.items ≢ [] → is_attached f.slots.items session slot ≡ true → at + length octets ≤ MAX_SIZE → HasItsRoom after node g.opened
    → ChangesAs before after node f.file g (written at octets) result → IsNodeTurn format before after node (Some f) (Some (with_file f g)) session (Write slot at octets) (reply_to_change result)
turn_write_by format before after node f g session slot at octets (Ok done) lawful some here small room c =
    turn_write format before after node f g session slot at octets some here small c.0 room (λ told origin old laid. c.1 told format origin old lawful laid)
turn_write_by format before after node f g session slot at octets (Err lower.Failed) lawful some here small room c =
    rw c.2 (turn_write_fault format before after node f session slot at octets (rw (sym c.2) room, some) here small c.0)
turn_write_by format before after node f g session slot at octets (Err lower.Memory) lawful some here small room c =
    rw c.2 (turn_write_memory format before after node f session slot at octets (rw (sym c.2) room, some) here small c.0)

pub turn_truncate_by : {K : Type 0} (format : Format K) (before after : HeldBodies) (node : ℕ) (f : OpenNode K) (g : Buffered K) (session slot size : ℕ) (result : Result (Unit {0}) LowerError)
    → IsFormat format → f.slots.items ≢ [] → is_attached f.slots.items session slot ≡ true → size ≤ MAX_SIZE → HasItsRoom after node g.opened
    → ChangesAs before after node f.file g (resized size) result → IsNodeTurn format before after node (Some f) (Some (with_file f g)) session (Truncate slot size) (reply_to_change result)
turn_truncate_by format before after node f g session slot size (Ok done) lawful some here small room c =
    turn_truncate format before after node f g session slot size some here small c.0 room (λ told origin old laid. c.1 told format origin old lawful laid)
turn_truncate_by format before after node f g session slot size (Err lower.Failed) lawful some here small room c =
    rw c.2 (turn_truncate_fault format before after node f session slot size (rw (sym c.2) room, some) here small c.0)
turn_truncate_by format before after node f g session slot size (Err lower.Memory) lawful some here small room c =
    rw c.2 (turn_truncate_memory format before after node f session slot size (rw (sym c.2) room, some) here small c.0)
