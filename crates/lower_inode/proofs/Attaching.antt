-- Turns that open a file.
use Rattle.std.proofs.Common.{ℕ, ◌≡◌, ◌≢◌, ◌≤◌, Bool, true, false, List, [], ◌∷◌, length, take, Option, Some, None, Result, Ok, Err, refl, sym, ◌∙◌, ap, subst, arith, inl, inr}
use Rattle.std.specs.Prelude.{◌||◌}
use Rattle.std.proofs.lemmas.Bool.{false≢true}
use Rattle.lower_model.specs.declared.meta_place.MetaPlace.{MetaPlace}
use Rattle.lower_model.specs.declared.meta_place.MetaPlace.TheVariants.{Header, Attribute}
use Rattle.packet_model.specs.declared.cause.BadCause.{BadCause}
use Rattle.session_model.specs.declared.file.FileCall.TheVariants.{Attach}
use Rattle.session_model.specs.declared.file.FileReply.{FileReply}
use Rattle.session_model.specs.declared.file.FileReply.TheVariants.{Done, Octets, Length, Refused, NotOpen, TooBig, LowerFault, Memory}
use Rattle.body_model.specs.declared.opened.Opened.{Opened}
use Rattle.body_model.specs.declared.content.Content.{Content}
use Rattle.body_model.specs.declared.content.Content.TheVariants as contents
use Rattle.body_model.specs.LowerFile.{LowerFile}
use Rattle.body_model.specs.Bodies.{HeldBodies}
use Rattle.body_model.specs.Format.{Format, IsFormat, content, content_of, opening}
use Rattle.file_model.specs.declared.open_slot.OpenSlot.{OpenSlot}
use Rattle.file_model.specs.declared.mark.MetadataMark.TheVariants.{Clean}
use Rattle.file_model.specs.LaidOut.{IsReadAs, IsUnmarked, IsWrittenOut, LaidOut, Origin, origin_of}
use Rattle.file_model.specs.ByteFile.{FileState, Good, step, with_slot}
use Rattle.file_model.specs.FileLog.{IsNoRefusal, IsUnattached}
use Rattle.file_model.specs.Shard.{IsLeft, StandsBy, origin_in, state_by}
use Rattle.file_model.proofs.Elsewhere.{stands_on}
use Rattle.file_model.proofs.Reopening.{reopened}
use Rattle.file_model.proofs.Slots.{with_slot_some}
use Rattle.open_file.specs.Buffered.{Buffered, HasItsRoom, working_of}
use Rattle.open_file.specs.Calling.{AreReads}
use Rattle.open_file.specs.declared.opening.OpenError.{OpenError}
use Rattle.open_file.specs.declared.opening.OpenError.TheVariants as OpenErrors
use Rattle.open_file.specs.Opening.{IsCause, is_lower_fault}
use Rattle.lower_inode.specs.declared.node.OpenNode.{OpenNode}
use Rattle.lower_inode.specs.NodeTurn.{AddsSlot, IsNode, IsNodeTurn}
use Rattle.lower_inode.proofs.Refusals.{touches_none, or_false}
use Rattle.lower_inode.proofs.Turns.{goes_on_reads, touches_reads}

abbrev failed : (K : Type 0) → OpenError → Result (Buffered K) OpenError
failed K e = Err e

or_true : (b : Bool) → (b || true) ≡ true
or_true true = refl
or_true false = refl

-- ---- a file that is open already

pub turn_attach_again : {K : Type 0} (format : Format K) (held : HeldBodies) (node : ℕ) (f g : OpenNode K) (session slot : ℕ)
    → IsNode held node (Some f) → g.file ≡ f.file → g.slots.items ≡ with_slot f.slots.items session slot → IsNodeTurn format held held node (Some f) (Some g) session (Attach slot) Done
turn_attach_again format held node f g session slot shape same more = record {
  touches = touches_none node held;
  shape = (rw same shape.0, some);
  cause = λ op. record { kind = tt; fault = λ e. absurd cc; memory = λ e. absurd cc; not_open = (λ e. absurd cc, λ e. absurd cc); too_big = (λ e. absurd cc, λ e. absurd (omega (arith, e.1))) };
  slots = more;
  turn = λ told first opened state stands.
      let next : FileState = Good (record { octets = stands.1; slots = with_slot f.slots.items session slot }) in (
        next,
        subst (λ (s : FileState). step s session (Attach slot) ≡ record { reply = Done; state = next }) (sym stands.6) refl,
        (stands.0, stands.1, stands.2, rw same stands.3, or_true opened, some, rw more refl),
        tt,
      );
  closed = λ told old new. absurd cc;
  idle = λ sync clean. absurd sync;
  synced = λ sync e. absurd sync;
}
  where
    some : g.slots.items ≢ []
    some = subst (λ (ps : List OpenSlot). ps ≢ []) (sym more) (with_slot_some f.slots.items session slot shape.1)

pub turn_attach_memory : {K : Type 0} (format : Format K) (held : HeldBodies) (node : ℕ) (f g : OpenNode K) (session slot : ℕ)
    → IsNode held node (Some f) → g.file ≡ f.file → g.slots.items ≡ f.slots.items → IsNodeTurn format held held node (Some f) (Some g) session (Attach slot) Memory
turn_attach_memory format held node f g session slot shape same same_slots = record {
  touches = touches_none node held;
  shape = (rw same shape.0, rw same_slots shape.1);
  cause = λ op. record { kind = tt; fault = λ e. absurd cc; memory = λ e. tt; not_open = (λ e. absurd cc, λ e. absurd cc); too_big = (λ e. absurd cc, λ e. absurd (omega (arith, e.1))) };
  slots = same_slots;
  turn = λ told first opened state stands. (
    state,
    (tt, inl (subst (λ (s : FileState). IsNoRefusal (step s session (Attach slot)).reply) (sym stands.6) tt), refl),
    (stands.0, stands.1, stands.2, rw same stands.3, or_false opened ∙ stands.4, rw same_slots stands.5, rw same_slots stands.6),
    tt,
  );
  closed = λ told old new. absurd cc;
  idle = λ sync clean. absurd sync;
  synced = λ sync e. absurd sync;
}

-- no call at all
pub no_calls : (held : HeldBodies) → AreReads false held held
no_calls held = record {
  calls = record { later = omega arith; rose = λ e. absurd (false≢true e); stays = λ e. refl; told = refl; body_room = λ node. omega arith; attribute_room = λ node. omega arith };
  keeps = λ told node. refl;
}

-- ---- a file that isn't open

unattached : (c : Content) → IsUnattached (state_by c)
unattached contents.Empty = refl
unattached (contents.Good octets) = refl
unattached (contents.Bad cause) = tt

-- a file that was written out isn't empty
not_empty : {K : Type 0} (format : Format K) (file : LowerFile) (p : MetaPlace) (o : Opened K) → IsFormat format → IsReadAs format file p Clean o → content format file ≡ contents.Empty → ⊥
not_empty format file Header o lawful read empty = by_body file.body file.attribute (opening format file) read.0 ((lawful.read Header _ _ read.2).enough) empty
  where
    by_body : (body : List ℕ) (attribute : Option (List ℕ)) (opening : Result _ BadCause) → attribute ≡ None → 26 ≤ length (take 4096 body) → content_of format body attribute opening ≡ contents.Empty → ⊥
    by_body [] attribute opening none long e = absurd (omega (arith, long))
    by_body (x ∷ body) None (Ok o) none long e = absurd cc
    by_body (x ∷ body) None (Err cause) none long e = absurd cc
    by_body (x ∷ body) (Some a) opening none long e = absurd cc
not_empty format file Attribute o lawful read empty = by_attribute file.body file.attribute (opening format file) read.0 empty
  where
    by_attribute : (body : List ℕ) (attribute : Option (List ℕ)) (opening : Result _ BadCause) → attribute ≡ Some o.metadata → content_of format body attribute opening ≡ contents.Empty → ⊥
    by_attribute body None opening some e = absurd cc
    by_attribute [] (Some a) (Ok o) some e = absurd cc
    by_attribute [] (Some a) (Err cause) some e = absurd cc
    by_attribute (x ∷ body) (Some a) (Ok o) some e = absurd cc
    by_attribute (x ∷ body) (Some a) (Err cause) some e = absurd cc

-- What was read and opened stands by what the first opening found.
pub turn_attach_first : {K : Type 0} (format : Format K) (before after : HeldBodies) (node : ℕ) (f : OpenNode K) (octets : List ℕ) (session slot : ℕ)
    → IsFormat format → AreReads false before after → HasItsRoom after node f.file.opened → f.slots.items ≡ record { session = session; slot = slot } ∷ []
    → (before.told ≡ true → state_by (content format (before.files node)) ≡ Good (record { octets = octets; slots = [] }))
    → (before.told ≡ true → origin_in format node (before.files node) ≡ Some (origin_of (before.files node) (working_of f.file)))
    → (before.told ≡ true → LaidOut format (origin_of (before.files node) (working_of f.file)) after node (working_of f.file) octets)
    → (before.told ≡ true → (content format (before.files node) ≡ contents.Empty → ⊥) → IsUnmarked (working_of f.file))
    → IsNodeTurn format before after node None (Some f) session (Attach slot) Done
turn_attach_first {K} format before after node f octets session slot lawful reads room open_slot state_is origin_is laid unmarked = record {
  touches = touches_reads false node before after reads;
  shape = (room, some);
  cause = λ op. record { kind = tt; fault = λ e. absurd cc; memory = λ e. absurd cc; not_open = (λ e. absurd cc, λ e. absurd cc); too_big = (λ e. absurd cc, λ e. absurd (omega (arith, e.1))) };
  slots = open_slot;
  turn = λ told first opened state stands.
      let next : FileState = Good (record { octets = octets; slots = f.slots.items }) in
      let by_origin = laid_by told first opened stands.2 in (
        next,
        subst (λ (s : FileState). step s session (Attach slot) ≡ record { reply = Done; state = next }) (sym (stands.1 ∙ state_is told)) (rw open_slot refl),
        (by_origin.0, octets, by_origin.1, by_origin.2, or_true opened, some, refl),
        tt,
      );
  closed = λ told old new. absurd cc;
  idle = λ sync clean. absurd sync;
  synced = λ sync e. absurd sync;
}
  where
    some : f.slots.items ≢ []
    some = subst (λ (ps : List OpenSlot). ps ≢ []) (sym open_slot) (λ e. absurd cc)

    laid_by : before.told ≡ true → (first : LowerFile) (opened : Bool) → IsLeft format node first opened (before.files node)
        → (origin : Origin) × (origin_in format node first ≡ Some origin) × LaidOut format origin after node (working_of f.file) octets
    laid_by told first false same = (origin_of (before.files node) (working_of f.file), subst (λ (x : LowerFile). origin_in format node x ≡ Some (origin_of (before.files node) (working_of f.file))) same (origin_is told), laid told)
    laid_by told first true left =
        let still : after.files node ≡ before.files node = reads.keeps told node in (
          left.0,
          left.2,
          reopened format left.0 after node left.1 (working_of f.file) octets
              (subst (λ (x : LowerFile). IsWrittenOut format left.0 x left.1) (sym still) left.3)
              (unmarked told (not_empty format (before.files node) left.1.meta_place left.1 lawful left.3.metadata))
              (subst (λ (x : LowerFile). LaidOut format (origin_of x (working_of f.file)) after node (working_of f.file) octets) (sym still) (laid told)),
        )

pub turn_attach_bad : {K : Type 0} (format : Format K) (before after : HeldBodies) (node : ℕ) (cause : BadCause) (session slot : ℕ)
    → AreReads false before after → (before.told ≡ true → content format (before.files node) ≡ contents.Bad cause) → IsNodeTurn format before after node None None session (Attach slot) (Refused cause)
turn_attach_bad {K} format before after node cause session slot reads bad = record {
  touches = touches_reads false node before after reads;
  shape = tt;
  cause = λ op. record { kind = tt; fault = λ e. absurd cc; memory = λ e. absurd cc; not_open = (λ e. absurd cc, λ e. absurd cc); too_big = (λ e. absurd cc, λ e. absurd (omega (arith, e.1))) };
  slots = refl;
  turn = λ told first opened state stands. (
    state,
    subst (λ (s : FileState). step s session (Attach slot) ≡ record { reply = Refused cause; state = s }) (sym (stands.1 ∙ ap state_by (bad told))) refl,
    subst (λ (b : Bool). StandsBy {K = K} format first after node b None [] state) (sym (or_false opened)) (stands_on {K = K} format first before after node opened None [] state (goes_on_reads false node before after reads told) stands),
    tt,
  );
  closed = λ told old new. reads.keeps told node;
  idle = λ sync clean. absurd sync;
  synced = λ sync e. absurd sync;
}

pub turn_attach_failed : {K : Type 0} (format : Format K) (before after : HeldBodies) (node : ℕ) (session slot : ℕ) → AreReads true before after → IsNodeTurn format before after node None None session (Attach slot) LowerFault
turn_attach_failed {K} format before after node session slot reads = record {
  touches = touches_reads true node before after reads;
  shape = tt;
  cause = λ op. record { kind = tt; fault = λ e. reads.calls.rose refl; memory = λ e. absurd cc; not_open = (λ e. absurd cc, λ e. absurd cc); too_big = (λ e. absurd cc, λ e. absurd (omega (arith, e.1))) };
  slots = refl;
  turn = λ told first opened state stands. (
    state,
    (reads.calls.rose refl, inr (tt, subst IsUnattached (sym stands.1) (unattached (content format (before.files node)))), refl),
    subst (λ (b : Bool). StandsBy {K = K} format first after node b None [] state) (sym (or_false opened)) (stands_on {K = K} format first before after node opened None [] state (goes_on_reads true node before after reads told) stands),
    tt,
  );
  closed = λ told old new. reads.keeps told node;
  idle = λ sync clean. absurd sync;
  synced = λ sync e. absurd sync;
}

pub turn_attach_no_memory : {K : Type 0} (format : Format K) (before after : HeldBodies) (node : ℕ) (session slot : ℕ) → AreReads false before after → IsNodeTurn format before after node None None session (Attach slot) Memory
turn_attach_no_memory {K} format before after node session slot reads = record {
  touches = touches_reads false node before after reads;
  shape = tt;
  cause = λ op. record { kind = tt; fault = λ e. absurd cc; memory = λ e. tt; not_open = (λ e. absurd cc, λ e. absurd cc); too_big = (λ e. absurd cc, λ e. absurd (omega (arith, e.1))) };
  slots = refl;
  turn = λ told first opened state stands. (
    state,
    (tt, inr (tt, subst IsUnattached (sym stands.1) (unattached (content format (before.files node)))), refl),
    subst (λ (b : Bool). StandsBy {K = K} format first after node b None [] state) (sym (or_false opened)) (stands_on {K = K} format first before after node opened None [] state (goes_on_reads false node before after reads told) stands),
    tt,
  );
  closed = λ told old new. reads.keeps told node;
  idle = λ sync clean. absurd sync;
  synced = λ sync e. absurd sync;
}

-- a slot is added, or there is no memory for it
pub turn_attach_slot : {K : Type 0} (format : Format K) (held : HeldBodies) (node : ℕ) (f g : OpenNode K) (session slot : ℕ) (reply : FileReply)
    → IsNode held node (Some f) → g.file ≡ f.file → AddsSlot f.slots.items g.slots.items session slot reply → IsNodeTurn format held held node (Some f) (Some g) session (Attach slot) reply
turn_attach_slot format held node f g session slot Done shape same adds = turn_attach_again format held node f g session slot shape same adds
turn_attach_slot format held node f g session slot Memory shape same adds = turn_attach_memory format held node f g session slot shape same adds
turn_attach_slot format held node f g session slot (Octets octets) shape same adds = absurd adds
turn_attach_slot format held node f g session slot (Length size) shape same adds = absurd adds
turn_attach_slot format held node f g session slot (Refused cause) shape same adds = absurd adds
turn_attach_slot format held node f g session slot NotOpen shape same adds = absurd adds
turn_attach_slot format held node f g session slot TooBig shape same adds = absurd adds
turn_attach_slot format held node f g session slot LowerFault shape same adds = absurd adds

-- the cause that the opening of the file tells
pub turn_attach_cause : {K : Type 0} (format : Format K) (before after : HeldBodies) (node : ℕ) (error : OpenError) (cause : BadCause) (session slot : ℕ) → error ≡ OpenErrors.Bad cause
    → AreReads (is_lower_fault (failed K error)) before after → (before.told ≡ true → IsCause format (before.files node) error) → IsNodeTurn format before after node None None session (Attach slot) (Refused cause)
turn_attach_cause {K} format before after node error cause session slot is reads because =
    turn_attach_bad format before after node cause session slot (subst (λ (e : OpenError). AreReads (is_lower_fault (failed K e)) before after) is reads)
    (λ told. subst (λ (e : OpenError). IsCause format (before.files node) e) is (because told))
