-- A write-out of a shard, node by node.
use Rattle.std.proofs.Common.{ℕ, ◌≡◌, ◌≢◌, ◌+◌, ◌<◌, ◌≤◌, ◌/◌, ◌%◌, Bool, true, false, List, [], length, Option, Some, None, refl, sym, ◌∙◌, ap, subst, arith, inl, inr}
use Rattle.std.specs.Prelude.{Result, Ok, Err, OnOk, OnErr, is_err, slice_get, slice_set}
use Rattle.std.proofs.lemmas.Bool.Decides.{eqb_tells, leb_tells}
use Rattle.std.proofs.lemmas.Bool.{false≢true}
use Rattle.std.proofs.lemmas.List.{length-set}
use Rattle.std.proofs.lemmas.Option.{slice_get_past}
use Rattle.session_model.specs.declared.entry.FileEntry.{FileEntry}
use Rattle.body_model.specs.LowerFile.{LowerFile}
use Rattle.body_model.specs.Bodies.{HeldBodies}
use Rattle.body_model.specs.Format.{Format}
use Rattle.file_model.specs.LaidOut.{IsUnmarked}
use Rattle.file_model.specs.ByteFile.{FileState}
use Rattle.file_model.specs.Shard.{IsClean, IsCutWriteOut, IsOutBelow, IsOutIfOpen, IsWholeWriteOut, Shard, Stands, StandsBy, was_opened}
use Rattle.open_file.specs.Buffered.{Buffered, HasItsRoom, working_of}
use Rattle.open_file.specs.Calling.{AreWrites}
use Rattle.open_file.proofs.Standing.{calls_on, told_on}
use Rattle.lower_inode.specs.declared.node.OpenNode.{OpenNode}
use Rattle.lower_inode.specs.Shards.{flat, node_in, node_of, shard_with, slots_at, working_at}
use Rattle.lower_inode.specs.NodeTurn.{AreNodes, IsNode, Touches}
use Rattle.lower_inode.specs.WritingOut.{IsNodeWriteOut, IsOutUpTo, IsTableWriteOut}
use Rattle.lower_inode.proofs.Attaching.{no_calls}
use Rattle.lower_inode.proofs.Others.{nodes_on, octets_on, other_stands}
use Rattle.lower_inode.proofs.Steps.{node_here, node_set, node_set_other}
use Rattle.lower_inode.proofs.Turns.{Goes, IsOut, touches_writes, with_file}

-- ---- one node

no_writes : (node : ℕ) (held : HeldBodies) → AreWrites false node held held
no_writes node held = record {
  calls = (no_calls held).calls;
  others = record { others = λ told other apart. refl; octets = λ told octets. octets };
}

-- a file that isn't open
pub node_closed : {K : Type 0} (format : Format K) (held : HeldBodies) (node : ℕ) → IsNodeWriteOut {K = K} format false held held node None None
node_closed format held node = record {
  writes = no_writes node held;
  shape = tt;
  slots = refl;
  states = λ told first opened state stands. stands;
  closed = λ none. refl;
  idle = λ clean. (refl, refl);
  clean = λ calm. tt;
  out = λ calm told first opened state stands. tt;
}

-- what is ensured of an answer that is no error
of_ok : {T E : Type 0} (result : Result T E) (P : Type 0) → OnOk result P → is_err result ≡ false → P
of_ok (Ok x) P h calm = h
of_ok (Err e) P h calm = absurd cc

-- an open file, by what its own write-out ensures
pub node_written : {K T E : Type 0} (format : Format K) (before after : HeldBodies) (node : ℕ) (f : OpenNode K) (g : Buffered K) (result : Result T E)
    → f.slots.items ≢ [] → AreWrites (is_err result) node before after → HasItsRoom after node g.opened → Goes format before after node f.file g
    → OnOk result (IsUnmarked (working_of g)) → OnOk result (IsOut format before after node f.file g) → (IsUnmarked (working_of f.file) → (after ≡ before) × (is_err result ≡ false))
    → IsNodeWriteOut format (is_err result) before after node (Some f) (Some (with_file f g))
node_written format before after node f g result some writes room goes unmarked out quiet = record {
  writes = writes;
  shape = (room, some);
  slots = refl;
  states = λ told first opened state s. (s.0, s.1, s.2, goes told s.0 s.1 s.3, s.4, s.5, s.6);
  closed = λ none. absurd cc;
  idle = quiet;
  clean = of_ok result (IsUnmarked (working_of g)) unmarked;
  out = λ calm told first opened state s.
      let alone = of_ok result (IsOut format before after node f.file g) out calm told s.0 s.1 s.3 in
      subst (λ (x : FileState). IsOutIfOpen format first node (after.files node) (Some (working_of g)) x) (sym s.6)
      (record { content_is = alone.0; left = (s.0, g.opened, s.2, alone.1) });
}

-- ---- one node of a table

-- a write-out of the node's file is one of the whole table
pub table_one : {K : Type 0} (format : Format K) (failed : Bool) (index node : ℕ) (before after : HeldBodies) (old new : List (Option (OpenNode K)))
    → IsNodeWriteOut format failed before after node (node_in index old node) (node_in index new node) → ((other : ℕ) → other ≢ node → node_in index new other ≡ node_in index old other)
    → length new ≡ length old → AreNodes before index old → IsTableWriteOut format failed index before after old new
table_one {K} format failed index node before after old new w others len nodes = record {
  calls = w.writes.calls;
  len = len;
  nodes = nodes_on before after index node old new touches nodes w.shape others;
  writes = λ log. record {
    log = refl;
    slots = λ other. elim (eqb_tells other node) [
      | inl same ↦ subst (λ (k : ℕ). slots_at (node_in index new k) ≡ slots_at (node_in index old k)) (sym same.1) w.slots
      | inr apart ↦ ap slots_at (others other apart.1)
    ];
    told = w.writes.calls.told;
    later = w.writes.calls.later;
    states = λ told first other state. elim (eqb_tells other node) [
      | inl same ↦ subst (λ (k : ℕ). Stands format first before (shard_with log index old) k state → Stands format first after (shard_with log index new) k state) (sym same.1)
          (w.states told (first node) (was_opened node log) state)
      | inr apart ↦ λ stands. subst (λ (o : Option (OpenNode K)). StandsBy format (first other) after other (was_opened other log) (working_at o) (slots_at o) state) (sym (others other apart.1))
          (other_stands format (first other) before after node other (was_opened other log) _ _ state touches told apart.1 stands)
    ];
    closed = λ told other. elim (eqb_tells other node) [
      | inl same ↦ subst (λ (k : ℕ). working_at (node_in index old k) ≡ None → (working_at (node_in index new k) ≡ None) × (after.files k ≡ before.files k)) (sym same.1)
          (λ none. (w.closed none, ap (λ (held : HeldBodies). held.files node) (w.idle (rw none tt)).0))
      | inr apart ↦ λ none. (ap working_at (others other apart.1) ∙ none, touches.others.others told other apart.1)
    ];
    octets = λ told other octets. octets_on before after node other touches told octets;
    idle = λ clean. ap (λ (held : HeldBodies). held.calls) (w.idle (clean node)).0;
  };
}
  where
    touches : Touches node before after
    touches = touches_writes failed node before after w.writes

-- no write-out
pub table_none : {K : Type 0} (format : Format K) (index : ℕ) (held : HeldBodies) (nodes : List (Option (OpenNode K))) → AreNodes held index nodes → IsTableWriteOut format false index held held nodes nodes
table_none format index held nodes all = record {
  calls = (no_calls held).calls;
  len = refl;
  nodes = all;
  writes = λ log. record {
    log = refl;
    slots = λ node. refl;
    told = refl;
    later = omega arith;
    states = λ told first node state stands. stands;
    closed = λ told node none. (none, refl);
    octets = λ told node octets. octets;
    idle = λ clean. refl;
  };
}

-- every file of a table is clean
abbrev pub AreClean : {K : Type 0} → ℕ → List (Option (OpenNode K)) → Type 0
AreClean index nodes = (node : ℕ) → IsClean (working_at (node_in index nodes node))

-- one behind another
pub table_then : {K : Type 0} (format : Format K) (failed : Bool) (index : ℕ) (a b c : HeldBodies) (old mid new : List (Option (OpenNode K))) → IsTableWriteOut format false index a b old mid
    → (AreClean index old → AreClean index mid) → IsTableWriteOut format failed index b c mid new → IsTableWriteOut format failed index a c old new
table_then format failed index a b c old mid new g clean_on h = record {
  calls = calls_on failed a b c g.calls h.calls;
  len = h.len ∙ g.len;
  nodes = h.nodes;
  writes = λ log.
      let first = g.writes log in
      let next = h.writes log in
      record {
        log = refl;
        slots = λ node. next.slots node ∙ first.slots node;
        told = next.told ∙ first.told;
        later = omega (arith, first.later, next.later);
        states = λ told at_first node state stands. next.states (told_on told first.told) at_first node state (first.states told at_first node state stands);
        closed = λ told node none.
            let one = first.closed told node none in
            let two = next.closed (told_on told first.told) node one.0 in (two.0, two.1 ∙ one.1);
        octets = λ told node octets. next.octets (told_on told first.told) node (first.octets told node octets);
        idle = λ clean. next.idle (clean_on clean) ∙ first.idle clean;
      };
}

-- ---- as far as a place

not_ours : {K : Type 0} (index node : ℕ) (nodes : List (Option (OpenNode K))) → node % 8 ≢ index → node_in index nodes node ≡ None
not_ours index node nodes apart = elim (eqb_tells (node % 8) index) [
  | inl same ↦ absurd (apart same.1)
  | inr ne ↦ rw ne.0 refl
]

past_end : {K : Type 0} (index node : ℕ) (nodes : List (Option (OpenNode K))) → index < 8 → node_of index (length nodes) ≤ node → node_in index nodes node ≡ None
past_end index node nodes small past = elim (eqb_tells (node % 8) index) [
  | inl same ↦ node_here index node nodes same.1 ∙ ap flat (slice_get_past nodes (node / 8) (omega (arith, past, same.1)))
  | inr ne ↦ rw ne.0 refl
]

pub out_none : {K : Type 0} (format : Format K) (index : ℕ) (held : HeldBodies) (nodes : List (Option (OpenNode K))) → index < 8 → AreNodes held index nodes → IsOutUpTo format index 0 held held nodes nodes
out_none format index held nodes small all = record {
  table = table_none format index held nodes all;
  below = λ log. record {
    clean = λ node under. rw (not_ours index node nodes (λ e. omega (arith, under, small, e))) tt;
    out = λ told first node state under stands. rw (not_ours index node nodes (λ e. omega (arith, under, small, e))) tt;
  };
  above = λ node over. refl;
  files = λ told node over. refl;
}

-- The files of a table that was clean are clean on the way.
clean_along : {K : Type 0} (format : Format K) (index place : ℕ) (before after : HeldBodies) (old new : List (Option (OpenNode K))) → IsOutUpTo format index place before after old new
    → AreClean index old → AreClean index new
clean_along format index place before after old new up clean node = elim (leb_tells (node_of index place) node) [
  | inl over ↦ rw (up.above node over.1) (clean node)
  | inr under ↦ (up.below []).clean node under.1
]

-- What is written out stays so while another file is.
below_on : {K : Type 0} (format : Format K) (failed : Bool) (log : List FileEntry) (index node : ℕ) (before mid after : HeldBodies) (old files new : List (Option (OpenNode K))) → mid.told ≡ before.told
    → IsOutBelow format before mid (shard_with log index old) (shard_with log index files) node → AreWrites failed node mid after → ((other : ℕ) → other ≢ node → node_in index new other ≡ node_in index files other)
    → IsOutBelow format before after (shard_with log index old) (shard_with log index new) node
below_on {K} format failed log index node before mid after old files new still below writes others = record {
  clean = λ other under. subst (λ (o : Option (OpenNode K)). IsClean (working_at o)) (sym (others other (λ e. omega (arith, under, e)))) (below.clean other under);
  out = λ told first other state under stands.
      let apart : other ≢ node = λ e. omega (arith, under, e) in
      subst (λ (o : Option (OpenNode K)). IsOutIfOpen format (first other) other (after.files other) (working_at o) state) (sym (others other apart))
      (subst (λ (file : LowerFile). IsOutIfOpen format (first other) other file (working_at (node_in index files other)) state) (sym (writes.others.others (told_on told still) other apart))
      (below.out told first other state under stands));
}

-- the entry at the place of a node
node_placed : {K : Type 0} (index place : ℕ) (nodes : List (Option (OpenNode K))) (entry : Option (OpenNode K)) → index < 8 → slice_get nodes place ≡ Some entry → node_in index nodes (node_of index place) ≡ entry
node_placed index place nodes entry small is =
    let at : node_of index place / 8 ≡ place = omega (arith, small) in
    node_here index (node_of index place) nodes (omega (arith, small)) ∙ ap (λ (p : ℕ). flat (slice_get nodes p)) at ∙ ap flat is

pub shape_placed : {K : Type 0} (held : HeldBodies) (index place : ℕ) (nodes : List (Option (OpenNode K))) (entry : Option (OpenNode K)) → index < 8 → slice_get nodes place ≡ Some entry → AreNodes held index nodes
    → IsNode held (node_of index place) entry
shape_placed held index place nodes entry small is all = subst (IsNode held (node_of index place)) (node_placed index place nodes entry small is) (all (node_of index place))

-- What one more node needs: its own write-out, behind that of the table up to its place, and nothing else in the table changed.
pub record IsNext {K : Type 0} (format : Format K) (failed : Bool) (index place : ℕ) (before mid after : HeldBodies) (old files new : List (Option (OpenNode K))) : Type 0 where
  pub small : index < 8
  pub up : IsOutUpTo format index place before mid old files
  pub node : IsNodeWriteOut format failed mid after (node_of index place) (node_in index files (node_of index place)) (node_in index new (node_of index place))
  pub others : (other : ℕ) → other ≢ node_of index place → node_in index new other ≡ node_in index files other
  pub len : length new ≡ length files

pub table_next : {K : Type 0} (format : Format K) (failed : Bool) (index place : ℕ) (before mid after : HeldBodies) (old files new : List (Option (OpenNode K)))
    → IsNext format failed index place before mid after old files new → IsTableWriteOut format failed index before after old new
table_next format failed index place before mid after old files new n =
    table_then format failed index before mid after old files new n.up.table (clean_along format index place before mid old files n.up)
    (table_one format failed index (node_of index place) mid after files new n.node n.others n.len n.up.table.nodes)

-- one node more
pub out_next : {K : Type 0} (format : Format K) (index place : ℕ) (before mid after : HeldBodies) (old files new : List (Option (OpenNode K)))
    → IsNext format false index place before mid after old files new → IsOutUpTo format index (place + 1) before after old new
out_next {K} format index place before mid after old files new n = record {
  table = table_next format false index place before mid after old files new n;
  below = λ log. record {
    clean = λ other under. elim (leb_tells (node_of index place) other) [
      | inl over ↦ clean_here other over.1 under
      | inr below ↦ (so_far log).clean other below.1
    ];
    out = λ told first other state under stands. elim (leb_tells (node_of index place) other) [
      | inl over ↦ out_here log told first other state over.1 under stands
      | inr below ↦ (so_far log).out told first other state below.1 stands
    ];
  };
  above = λ other over. n.others other (λ e. omega (arith, over, e)) ∙ n.up.above other (omega (arith, over));
  files = λ told other over. n.node.writes.others.others (told_on told n.up.table.calls.told) other (λ e. omega (arith, over, e)) ∙ n.up.files told other (omega (arith, over));
}
  where
    so_far : (log : List FileEntry) → IsOutBelow format before after (shard_with log index old) (shard_with log index new) (node_of index place)
    so_far log = below_on format false log index (node_of index place) before mid after old files new n.up.table.calls.told (n.up.below log) n.node.writes n.others

    clean_here : (other : ℕ) → node_of index place ≤ other → other < node_of index (place + 1) → IsClean (working_at (node_in index new other))
    clean_here other over under = elim (eqb_tells other (node_of index place)) [
      | inl same ↦ subst (λ (k : ℕ). IsClean (working_at (node_in index new k))) (sym same.1) (n.node.clean refl)
      | inr apart ↦ rw (not_ours index other new (λ e. apart.1 (omega (arith, over, under, e, n.small)))) tt
    ]

    out_here : (log : List FileEntry) → before.told ≡ true → (first : ℕ → LowerFile) (other : ℕ) (state : FileState) → node_of index place ≤ other → other < node_of index (place + 1)
        → Stands format first before (shard_with log index old) other state → IsOutIfOpen format (first other) other (after.files other) (working_at (node_in index new other)) state
    out_here log told first other state over under stands = elim (eqb_tells other (node_of index place)) [
      | inl same ↦ subst (λ (k : ℕ). Stands format first before (shard_with log index old) k state → IsOutIfOpen format (first k) k (after.files k) (working_at (node_in index new k)) state) (sym same.1)
          (λ was. n.node.out refl (told_on told n.up.table.calls.told) (first (node_of index place)) (was_opened (node_of index place) log) state ((n.up.table.writes log).states told first (node_of index place) state was)) stands
      | inr apart ↦ rw (not_ours index other new (λ e. apart.1 (omega (arith, over, under, e, n.small)))) tt
    ]

-- the node at which it failed
pub cut_next : {K : Type 0} (format : Format K) (index place : ℕ) (before mid after : HeldBodies) (old files new : List (Option (OpenNode K)))
    → IsNext format true index place before mid after old files new → (log : List FileEntry) → IsCutWriteOut format before after (shard_with log index old) (shard_with log index new)
cut_next {K} format index place before mid after old files new n log = record {
  node = node_of index place;
  marked = λ clean. absurd (false≢true (sym (n.node.idle (subst (λ (o : Option (OpenNode K)). IsClean (working_at o)) (sym (n.up.above (node_of index place) (omega arith))) clean)).1));
  below = below_on format true log index (node_of index place) before mid after old files new n.up.table.calls.told (n.up.below log) n.node.writes n.others;
  above = λ other over. ap working_at (n.others other (λ e. omega (arith, over, e)) ∙ n.up.above other (omega (arith, over)));
  files = λ told other over. n.node.writes.others.others (told_on told n.up.table.calls.told) other (λ e. omega (arith, over, e)) ∙ n.up.files told other (omega (arith, over));
}

-- the end of the table
pub whole_out : {K : Type 0} (format : Format K) (index place : ℕ) (before after : HeldBodies) (old new : List (Option (OpenNode K))) → index < 8 → IsOutUpTo format index place before after old new → length new ≤ place
    → (log : List FileEntry) → IsWholeWriteOut format before after (shard_with log index old) (shard_with log index new)
whole_out format index place before after old new small up end log = record {
  calm = up.table.calls.stays refl;
  clean = λ node. elim (leb_tells (node_of index place) node) [
    | inl over ↦ rw (past_end index node new small (omega (arith, over.1, end))) tt
    | inr under ↦ (up.below log).clean node under.1
  ];
  out = λ told first node state stands. elim (leb_tells (node_of index place) node) [
    | inl over ↦ rw (past_end index node new small (omega (arith, over.1, end))) tt
    | inr under ↦ (up.below log).out told first node state under.1 stands
  ];
}

-- a fact of a shard before and after, by other names of its tables
pub retabled : {K : Type 0} (Fact : Shard K → Shard K → Type 0) (log : List FileEntry) (index : ℕ) (old old' new new' : List (Option (OpenNode K))) → old ≡ old' → new ≡ new'
    → Fact (shard_with log index old) (shard_with log index new) → Fact (shard_with log index old') (shard_with log index new')
retabled {K} Fact log index old old' new new' same_old same_new fact =
    subst (λ (xs : List (Option (OpenNode K))). Fact (shard_with log index xs) (shard_with log index new')) same_old
    (subst (λ (ys : List (Option (OpenNode K))). Fact (shard_with log index old) (shard_with log index ys)) same_new fact)

-- a fact of an answer that is an error
pub on_err_always : {T E P : Type 0} (result : Result T E) → P → OnErr result P
on_err_always (Ok x) fact = tt
on_err_always (Err e) fact = fact

-- the next place of a table, whose entry was written out
pub next_place : {K : Type 0} (format : Format K) (failed : Bool) (index place : ℕ) (before mid after : HeldBodies) (old files : List (Option (OpenNode K))) (entry written : Option (OpenNode K)) → index < 8
    → IsOutUpTo format index place before mid old files → slice_get files place ≡ Some entry → IsNodeWriteOut format failed mid after (node_of index place) entry written
    → IsNext format failed index place before mid after old files (slice_set files place written)
next_place {K} format failed index place before mid after old files entry written small up is w = record {
  small = small;
  up = up;
  node = subst (λ (o : Option (OpenNode K)). IsNodeWriteOut format failed mid after (node_of index place) o (node_in index (slice_set files place written) (node_of index place))) (sym (node_placed index place files entry small is))
      (subst (IsNodeWriteOut format failed mid after (node_of index place) entry) (sym there) w);
  others = λ other apart. subst (λ (p : ℕ). node_in index (slice_set files p written) other ≡ node_in index files other) at
      (node_set_other index (node_of index place) other files written own apart);
  len = length-set files place written;
}
  where
    own : node_of index place % 8 ≡ index
    own = omega (arith, small)

    at : node_of index place / 8 ≡ place
    at = omega (arith, small)

    there : node_in index (slice_set files place written) (node_of index place) ≡ written
    there = subst (λ (p : ℕ). node_in index (slice_set files p written) (node_of index place) ≡ written) at
        (node_set index (node_of index place) files entry written own (ap (slice_get files) at ∙ is))
