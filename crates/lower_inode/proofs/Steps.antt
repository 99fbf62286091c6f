-- A turn of one node's file is a step of its shard.
use Rattle.std.proofs.Common.{ℕ, ◌≡◌, ◌≢◌, ◌<◌, ◌≤◌, ◌+◌, ◌/◌, ◌%◌, Bool, true, false, List, [], ◌∷◌, ◌++◌, length, Option, Some, None, refl, sym, ◌∙◌, ap, subst, arith, inl, inr}
use Rattle.std.specs.Prelude.{◌==◌, ◌||◌, ◌&&◌, slice_get, slice_set}
use Rattle.std.proofs.lemmas.Bool.Decides.{eqb_tells}
use Rattle.std.proofs.lemmas.Option.{slice_get_past}
use Rattle.session_model.specs.declared.entry.FileEntry.{FileEntry}
use Rattle.session_model.specs.declared.file.FileCall.{FileCall}
use Rattle.session_model.specs.declared.file.FileCall.TheVariants.{Attach, Read, Write, Truncate, Size, Sync, Detach}
use Rattle.session_model.specs.declared.file.FileReply.{FileReply}
use Rattle.session_model.specs.declared.file.FileReply.TheVariants.{Done, Octets, Length, Refused, NotOpen, TooBig, LowerFault, Memory}
use Rattle.session_model.proofs.Joins.{get_set_other, get_set_same}
use Rattle.body_model.specs.Bodies.{HeldBodies}
use Rattle.body_model.specs.Format.{Format}
use Rattle.file_model.specs.ByteFile.{is_attached, slot_of}
use Rattle.file_model.specs.FileLog.{IsAttach}
use Rattle.file_model.specs.Shard.{IsReplyTo, IsShardStep, StandsBy, opens, was_opened}
use Rattle.file_model.proofs.Slots.{was_opened-push}
use Rattle.lower_inode.specs.declared.node.OpenNode.{OpenNode}
use Rattle.lower_inode.specs.Shards.{HasRoomFor, IsReplyIn, ShardOver, flat, node_in, slots_at, shard_of, working_at}
use Rattle.lower_inode.specs.NodeTurn.{IsNode, IsNodeTurn, entry_of}
use Rattle.lower_inode.proofs.Refusals.{IsOfSlot, or_false, refused_not_open}
use Rattle.lower_inode.proofs.Attaching.{no_calls, turn_attach_no_memory}
use Rattle.lower_inode.proofs.Others.{octets_on, other_stands}

-- ---- the table

eq_of : (a b : ℕ) → a ≡ b → (a == b) ≡ true
eq_of a b e = elim (eqb_tells a b) [
  | inl same ↦ same.0
  | inr apart ↦ absurd (apart.1 e)
]

eq_apart : (a b : ℕ) → a ≢ b → (a == b) ≡ false
eq_apart a b ne = elim (eqb_tells a b) [
  | inl same ↦ absurd (ne same.1)
  | inr apart ↦ apart.0
]

-- the node's own place in the table
pub node_here : {K : Type 0} (index node : ℕ) (nodes : List (Option (OpenNode K))) → node % 8 ≡ index → node_in index nodes node ≡ flat (slice_get nodes (node / 8))
node_here index node nodes own = rw (eq_of (node % 8) index own) refl

pub node_set : {K : Type 0} (index node : ℕ) (nodes : List (Option (OpenNode K))) (old new : Option (OpenNode K)) → node % 8 ≡ index → slice_get nodes (node / 8) ≡ Some old
    → node_in index (slice_set nodes (node / 8) new) node ≡ new
node_set index node nodes old new own is = node_here index node (slice_set nodes (node / 8) new) own ∙ ap flat (get_set_same nodes (node / 8) old new is)

pub node_set_other : {K : Type 0} (index node other : ℕ) (nodes : List (Option (OpenNode K))) (new : Option (OpenNode K)) → node % 8 ≡ index → other ≢ node
    → node_in index (slice_set nodes (node / 8) new) other ≡ node_in index nodes other
node_set_other index node other nodes new own apart = elim (eqb_tells (other % 8) index) [
  | inl same ↦ (let places : other / 8 ≢ node / 8 = λ e. apart (omega (arith, e, same.1, own)) in
      rw same.0 (ap flat (get_set_other nodes (node / 8) (other / 8) new places)))
  | inr ne ↦ rw ne.0 refl
]

pub nodes_alike : {K : Type 0} (index node : ℕ) (nodes other : List (Option (OpenNode K))) → ((i : ℕ) → flat (slice_get nodes i) ≡ flat (slice_get other i)) → node_in index nodes node ≡ node_in index other node
nodes_alike index node nodes other same = elim (eqb_tells (node % 8) index) [
  | inl e ↦ rw e.0 (same (node / 8))
  | inr e ↦ rw e.0 refl
]

-- ---- turns in the table

of_slot : (call : FileCall) → (IsAttach call → ⊥) → IsOfSlot call
of_slot (Attach slot) not = absurd (not tt)
of_slot (Read slot at len) not = tt
of_slot (Write slot at octets) not = tt
of_slot (Truncate slot size) not = tt
of_slot (Size slot) not = tt
of_slot (Sync slot) not = tt
of_slot (Detach slot) not = tt

pub node_nowhere : {K : Type 0} (node : ℕ) (nodes : List (Option (OpenNode K))) → length nodes ≤ node / 8 → node_in (node % 8) nodes node ≡ None
node_nowhere node nodes past = node_here (node % 8) node nodes refl ∙ ap flat (slice_get_past nodes (node / 8) past)

-- a node that has no place in the table
pub turn_nowhere : {K : Type 0} (format : Format K) (held : HeldBodies) (node : ℕ) (nodes : List (Option (OpenNode K))) (session : ℕ) (call : FileCall)
    → IsNode held node (node_in (node % 8) nodes node) → length nodes ≤ node / 8 → (IsAttach call → node / 8 < length nodes)
    → IsNodeTurn format held held node (node_in (node % 8) nodes node) (node_in (node % 8) nodes node) session call NotOpen
turn_nowhere format held node nodes session call shape past place =
    refused_not_open format held node (node_in (node % 8) nodes node) session call shape (of_slot call (λ attach. omega (arith, past, place attach)))
    (ap (λ o. is_attached (slots_at o) session (slot_of call)) (node_nowhere node nodes past))

pub node_at : {K : Type 0} (held : HeldBodies) (node : ℕ) (nodes : List (Option (OpenNode K))) (entry : Option (OpenNode K)) → slice_get nodes (node / 8) ≡ Some entry
    → IsNode held node (node_in (node % 8) nodes node) → IsNode held node entry
node_at held node nodes entry is shape = subst (IsNode held node) (node_here (node % 8) node nodes refl ∙ ap flat is) shape

pub turn_placed : {K : Type 0} (format : Format K) (before after : HeldBodies) (node : ℕ) (nodes : List (Option (OpenNode K))) (old new : Option (OpenNode K)) (session : ℕ) (call : FileCall) (reply : FileReply)
    → slice_get nodes (node / 8) ≡ Some old → IsNodeTurn format before after node old new session call reply
    → IsNodeTurn format before after node (node_in (node % 8) nodes node) (node_in (node % 8) (slice_set nodes (node / 8) new) node) session call reply
turn_placed format before after node nodes old new session call reply is turn =
    subst (λ o. IsNodeTurn format before after node o (node_in (node % 8) (slice_set nodes (node / 8) new) node) session call reply) (sym (node_here (node % 8) node nodes refl ∙ ap flat is))
    (subst (λ o. IsNodeTurn format before after node old o session call reply) (sym (node_set (node % 8) node nodes old new refl is)) turn)

-- the table is made longer before an opening, or there is no memory for that
pub turn_alike : {K : Type 0} (format : Format K) (before after : HeldBodies) (node : ℕ) (nodes long : List (Option (OpenNode K))) (new : Option (OpenNode K)) (session : ℕ) (call : FileCall) (reply : FileReply)
    → ((i : ℕ) → flat (slice_get long i) ≡ flat (slice_get nodes i)) → IsNodeTurn format before after node (node_in (node % 8) long node) new session call reply
    → IsNodeTurn format before after node (node_in (node % 8) nodes node) new session call reply
turn_alike format before after node nodes long new session call reply same turn =
    subst (λ o. IsNodeTurn format before after node o new session call reply) (nodes_alike (node % 8) node long nodes same) turn

pub turn_no_place : {K : Type 0} (format : Format K) (held : HeldBodies) (node : ℕ) (nodes long : List (Option (OpenNode K))) (session slot : ℕ)
    → ((i : ℕ) → flat (slice_get long i) ≡ flat (slice_get nodes i)) → length nodes < node / 8 + 1
    → IsNodeTurn format held held node (node_in (node % 8) nodes node) (node_in (node % 8) long node) session (Attach slot) Memory
turn_no_place {K} format held node nodes long session slot same short =
    let none : node_in (node % 8) nodes node ≡ None = node_nowhere node nodes (omega (arith, short)) in
    subst (λ o. IsNodeTurn {K = K} format held held node o (node_in (node % 8) long node) session (Attach slot) Memory) (sym none)
    (subst (λ o. IsNodeTurn {K = K} format held held node None o session (Attach slot) Memory) (sym (nodes_alike (node % 8) node long nodes same ∙ none))
    (turn_attach_no_memory {K = K} format held held node session slot (no_calls held)))

-- ---- the step

and_true : (a b : Bool) → a ≡ true → (a && b) ≡ b
and_true a b e = rw e refl

-- what the log says of the entry's node, and of the others
opened_here : (node : ℕ) (log : List FileEntry) (e : FileEntry) → e.node ≡ node → was_opened node (log ++ e ∷ []) ≡ (was_opened node log || opens e.call e.reply)
opened_here node log e same = was_opened-push node log e ∙ ap (λ (b : Bool). was_opened node log || b) (and_true (e.node == node) (opens e.call e.reply) (eq_of e.node node same))

opened_there : (node : ℕ) (log : List FileEntry) (e : FileEntry) → e.node ≢ node → was_opened node (log ++ e ∷ []) ≡ was_opened node log
opened_there node log e apart = was_opened-push node log e ∙ rw (eq_apart e.node node apart) (or_false (was_opened node log))

-- An entry more, of a turn that leaves the other places of the table.
pub shard_step : {B F K : Type 0} (format : Format K) (before after : HeldBodies) (old new : ShardOver B F K) (session op node : ℕ) (call : FileCall) (reply : FileReply)
    → IsNodeTurn format before after node (node_in old.index old.nodes node) (node_in new.index new.nodes node) session call reply
    → ((other : ℕ) → other ≢ node → node_in new.index new.nodes other ≡ node_in old.index old.nodes other)
    → new.log ≡ old.log ++ entry_of before after session op node call reply ∷ []
    → IsShardStep format before after (shard_of old) (shard_of new) (entry_of before after session op node call reply)
shard_step {B} {F} {K} format before after old new session op node call reply t others log = record {
  log = log;
  first_count = refl;
  last_count = refl;
  later = t.touches.later;
  told = t.touches.told;
  cause = t.cause op;
  slots = t.slots;
  other_slots = λ other apart. ap slots_at (others other apart);
  turn = λ told first state stands.
      let next = t.turn told (first node) (was_opened node old.log) state stands in (
        next.0,
        record { later = t.touches.later; turns = next.1 },
        subst (λ (b : Bool). StandsBy format (first node) after node b (working_at (node_in new.index new.nodes node)) (slots_at (node_in new.index new.nodes node)) next.0)
            (sym (ap (was_opened node) log ∙ opened_here node old.log e refl)) next.2,
        next.3,
      );
  others = λ told first other state apart stands.
      subst (λ (b : Bool). StandsBy format (first other) after other b (working_at (node_in new.index new.nodes other)) (slots_at (node_in new.index new.nodes other)) state)
      (sym (ap (was_opened other) log ∙ opened_there other old.log e (λ same. apart (sym same))))
      (subst (λ (o : Option (OpenNode K)). StandsBy format (first other) after other (was_opened other old.log) (working_at o) (slots_at o) state) (sym (others other apart))
      (other_stands format (first other) before after node other (was_opened other old.log) _ _ state t.touches told apart stands));
  closed = λ told other was is. elim (eqb_tells other node) [
    | inl same ↦ closed_here other same.1 told was is
    | inr apart ↦ t.touches.others.others told other apart.1
  ];
  octets = λ told other octets. octets_on before after node other t.touches told octets;
  idle = t.idle;
  synced = t.synced;
}
  where
    e : FileEntry
    e = entry_of before after session op node call reply

    closed_here : (other : ℕ) → other ≡ node → before.told ≡ true → working_at (node_in old.index old.nodes other) ≡ None → working_at (node_in new.index new.nodes other) ≡ None → after.files other ≡ before.files other
    closed_here other same told was is =
        subst (λ (k : ℕ). after.files k ≡ before.files k) (sym same)
        (t.closed told (subst (λ (k : ℕ). working_at (node_in old.index old.nodes k) ≡ None) same was) (subst (λ (k : ℕ). working_at (node_in new.index new.nodes k) ≡ None) same is))

-- the same over the tables of a shard with this index
pub step_at : {B F K : Type 0} (format : Format K) (before after : HeldBodies) (index : ℕ) (old new : ShardOver B F K) (session op node : ℕ) (call : FileCall) (reply : FileReply)
    → node % 8 ≡ index → old.index ≡ index → new.index ≡ index
    → IsNodeTurn format before after node (node_in (node % 8) old.nodes node) (node_in (node % 8) new.nodes node) session call reply
    → ((other : ℕ) → other ≢ node → node_in (node % 8) new.nodes other ≡ node_in (node % 8) old.nodes other)
    → new.log ≡ old.log ++ entry_of before after session op node call reply ∷ []
    → IsShardStep format before after (shard_of old) (shard_of new) (entry_of before after session op node call reply)
step_at {B} {F} {K} format before after index old new session op node call reply own is_old is_new t others log =
    shard_step format before after old new session op node call reply
    (subst (λ i. IsNodeTurn format before after node (node_in i old.nodes node) (node_in new.index new.nodes node) session call reply) (own ∙ sym is_old)
    (subst (λ i. IsNodeTurn format before after node (node_in (node % 8) old.nodes node) (node_in i new.nodes node) session call reply) (own ∙ sym is_new) t))
    (λ other apart. ap (λ i. node_in i new.nodes other) (is_new ∙ sym own) ∙ others other apart ∙ ap (λ i. node_in i old.nodes other) (own ∙ sym is_old))
    log

-- what is to be logged has its room
pub reply_in : (call : FileCall) (reply : FileReply) (room : ℕ) → IsReplyTo call reply → HasRoomFor call room → IsReplyIn reply room
reply_in (Read slot at len) (Octets octets) room kind fits = omega (arith, kind, fits)
reply_in (Attach slot) (Octets octets) room kind fits = absurd kind
reply_in (Write slot at written) (Octets octets) room kind fits = absurd kind
reply_in (Truncate slot size) (Octets octets) room kind fits = absurd kind
reply_in (Size slot) (Octets octets) room kind fits = absurd kind
reply_in (Sync slot) (Octets octets) room kind fits = absurd kind
reply_in (Detach slot) (Octets octets) room kind fits = absurd kind
reply_in call Done room kind fits = tt
reply_in call (Length size) room kind fits = tt
reply_in call (Refused cause) room kind fits = tt
reply_in call NotOpen room kind fits = tt
reply_in call TooBig room kind fits = tt
reply_in call LowerFault room kind fits = tt
reply_in call Memory room kind fits = tt
