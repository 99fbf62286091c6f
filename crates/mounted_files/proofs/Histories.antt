-- The histories of the files of a run, and what it leaves of them.
use Rattle.std.proofs.Common.{ℕ, ◌≡◌, ◌<◌, ◌%◌, true, false, Bool, List, [], ◌++◌, length, Option, Some, None, refl, sym, ◌∙◌, ap, subst, arith}
use Rattle.std.specs.Prelude.{map, slice_get}
use Rattle.std.proofs.lemmas.List.{length-map}
use Rattle.lower_model.specs.declared.kind.Kind.TheVariants as kinds
use Rattle.lower_model.specs.LowerTree.{HoldsOctets}
use Rattle.lower_tree.specs.Held.{TellsFiles, file_at, stores}
use Rattle.session_model.specs.declared.entry.FileEntry.{FileEntry}
use Rattle.session_model.specs.Legal.{CountsFrom, IsLegal}
use Rattle.body_model.specs.LowerFile.{LowerFile, IsOfOctets}
use Rattle.body_model.specs.Bodies.{HeldBodies}
use Rattle.body_model.specs.Format.{Format, IsFormat, content}
use Rattle.file_model.specs.declared.open_slot.OpenSlot.{OpenSlot}
use Rattle.file_model.specs.ByteFile.{FileState, Bad, Good}
use Rattle.file_model.specs.FileLog.{AreShardLogs, IsTurn, counts_of, entries_at, entries_in}
use Rattle.file_model.specs.Shard.{IsCausedTurn, IsLeft, MayBeLeft, Stands, StandsBy, state_by, was_opened}
use Rattle.file_model.proofs.Entries.{entries_in_shard, was_opened_in_shard}
use Rattle.file_model.proofs.GoingOn.{goes_on_none}
use Rattle.file_model.proofs.Leaving.{left_of}
use Rattle.file_model.proofs.Limits.{left_fits, of_octets}
use Rattle.lower_inode.specs.Shards.{ShardOver, shard_of}
use Rattle.mounted_files.specs.Files.{AreNew, AreOut, At, FilesGoOn, GoesOn, IsNew, IsOut, faults_at, log_of, logs_of}
use Rattle.mounted_files.proofs.Places.{here, there}
use Rattle.mounted_files.proofs.Held.{bodies_of, bodies_at, file_in, get_map, told_in}

-- what a place of another list has, where both have something
pub other_at : {X Y : Type 0} (P : X → Y → Type 0) (a : Option X) (b : Option Y) (x : X) → a ≡ Some x → At P a b → (y : Y) × (b ≡ Some y) × P x y
other_at P (Some a) (Some b) x is h = (b, refl, subst (λ z. P z b) (let same : a ≡ x = cc in same) h)
other_at P None b x is h = absurd cc
other_at P (Some a) None x is h = absurd h

calm_by : {B F K : Type 0} (held : B → HeldBodies) (rules : F → Format K) (a b : Option (ShardOver B F K)) → At (IsOut held rules) a b → faults_at held b ≡ faults_at held a
calm_by held rules (Some a) (Some b) out = out.whole.calm
calm_by held rules None None out = refl
calm_by held rules (Some a) None out = absurd out
calm_by held rules None (Some b) out = absurd out

-- A whole write-out leaves the counts of faults.
pub calm : {B F K : Type 0} (held : B → HeldBodies) (rules : F → Format K) (ran outs : List (ShardOver B F K)) → AreOut held rules ran outs → (store : ℕ) → faults_at held (slice_get outs store) ≡ faults_at held (slice_get ran store)
calm held rules ran outs out store = calm_by held rules (slice_get ran store) (slice_get outs store) (out store)

log_by : {B F K : Type 0} (held : B → HeldBodies) (rules : F → Format K) (a b : Option (ShardOver B F K)) → At (IsOut held rules) a b → log_of b ≡ log_of a
log_by held rules (Some a) (Some b) out = out.writes.log
log_by held rules None None out = refl
log_by held rules (Some a) None out = absurd out
log_by held rules None (Some b) out = absurd out

-- and the logs
pub same_logs : {B F K : Type 0} (held : B → HeldBodies) (rules : F → Format K) (ran outs : List (ShardOver B F K)) → AreOut held rules ran outs → (store : ℕ) → logs_of outs store ≡ logs_of ran store
same_logs held rules ran outs out store = log_by held rules (slice_get ran store) (slice_get outs store) (out store)

goes_none_at : {B F K : Type 0} (held : B → HeldBodies) (rules : F → Format K) (o : Option (ShardOver B F K)) → At (GoesOn held rules) o o
goes_none_at held rules None = tt
goes_none_at held rules (Some s) = record { format = refl; files = goes_on_none (rules s.format) (held s.bodies) (shard_of s) }

-- nothing was called yet
pub goes_none : {B F K : Type 0} (held : B → HeldBodies) (rules : F → Format K) (opening : List (ShardOver B F K)) → FilesGoOn held rules opening opening
goes_none held rules opening store = goes_none_at held rules (slice_get opening store)

below_stores : (node : ℕ) → node % stores < stores
below_stores node = omega arith

module _ {B F K : Type 0} (held : B → HeldBodies) (rules : F → Format K) (format : F) (opening ran : List (ShardOver B F K)) (log : List FileEntry)
    (all : length opening ≡ stores) (new : AreNew held rules format opening) (goes : FilesGoOn held rules opening ran)
    (logs : (store : ℕ) → store < stores → logs_of ran store ≡ logs_of opening store ++ entries_in store log) where
  -- A shard at the opening and behind the run.
  record RanShard (store : ℕ) : Type 0 where
    first : ShardOver B F K
    first_is : slice_get opening store ≡ Some first
    last : ShardOver B F K
    last_is : slice_get ran store ≡ Some last
    is_new : IsNew held rules format first
    goes_on : GoesOn held rules first last
    added : goes_on.files.added ≡ entries_in store log

  ran_shard : (store : ℕ) → store < stores → RanShard store
  ran_shard store within =
      let first = there opening store (omega (arith, all, within)) in
      let last = other_at (GoesOn held rules) (slice_get opening store) (slice_get ran store) first.0 first.1 (goes store) in
      let is_new = here (IsNew held rules format) (slice_get opening store) first.0 first.1 (new store) in
      let none : first.0.log ≡ [] = is_new.log in
      record {
        first = first.0;
        first_is = first.1;
        last = last.0;
        last_is = last.1;
        is_new = is_new;
        goes_on = last.2;
        added =
            ap (λ (l : List FileEntry). l ++ last.2.files.added) (sym none) ∙ sym last.2.files.log ∙ ap log_of (sym last.1) ∙ logs store within
            ∙ ap (λ (o : Option (ShardOver B F K)). log_of o ++ entries_in store log) first.1 ∙ ap (λ (l : List FileEntry). l ++ entries_in store log) none;
      }

  -- the shard of a node
  shard_at : (node : ℕ) → RanShard (node % stores)
  shard_at node = ran_shard (node % stores) (below_stores node)

  own_entries : (node : ℕ) → entries_at node (shard_at node).goes_on.files.added ≡ entries_at node log
  own_entries node = ap (entries_at node) (shard_at node).added ∙ entries_in_shard node log

  -- whatever is told, each turn has its cause
  pub caused : (node : ℕ) → (slots : List OpenSlot) × IsLegal IsCausedTurn [] (entries_at node log) slots
  caused node =
      let s = shard_at node in (
        (shard_of s.last).slots node,
        subst (λ (l : List FileEntry). IsLegal IsCausedTurn [] l ((shard_of s.last).slots node)) (own_entries node)
            (subst (λ (slots : List OpenSlot). IsLegal IsCausedTurn slots (entries_at node s.goes_on.files.added) ((shard_of s.last).slots node)) (s.is_new.unused node) (s.goes_on.files.caused node)),
      )

  -- the counts of a store
  pub counts : (store : ℕ) → store < stores → faults_at held (slice_get opening store) ≡ 0 → CountsFrom counts_of 0 (entries_in store log) (faults_at held (slice_get ran store))
  counts store within none =
      let s = ran_shard store within in
      let begins : (held s.first.bodies).faults ≡ 0 = ap (faults_at held) (sym s.first_is) ∙ none in
      let ends : (held s.last.bodies).faults ≡ faults_at held (slice_get ran store) = ap (faults_at held) (sym s.last_is) in
      let own : CountsFrom counts_of (held s.first.bodies).faults (entries_in store log) (held s.last.bodies).faults = subst (λ (l : List FileEntry). CountsFrom counts_of (held s.first.bodies).faults l (held s.last.bodies).faults) s.added s.goes_on.files.counts in
      subst (λ (n : ℕ). CountsFrom counts_of 0 (entries_in store log) n) ends (subst (λ (n : ℕ). CountsFrom counts_of n (entries_in store log) (held s.last.bodies).faults) begins own)

  -- the logs of shards that have these
  pub shard_logs : (outs : List (ShardOver B F K)) → length outs ≡ stores → ((store : ℕ) → logs_of outs store ≡ logs_of ran store) → AreShardLogs (map (λ (s : ShardOver B F K). s.log) outs) log
  shard_logs outs count same = record {
    all = length-map outs (λ (s : ShardOver B F K). s.log) ∙ count;
    each = λ store within.
        (let s = there outs store (omega (arith, count, within)) in
        let r = ran_shard store within in
        let first_log : logs_of opening store ≡ [] = ap log_of r.first_is ∙ r.is_new.log in
        get_map (λ (x : ShardOver B F K). x.log) outs store s.0 s.1
        ∙ ap (λ (l : List FileEntry). Some l) (sym (ap log_of s.1) ∙ same store ∙ logs store within ∙ ap (λ (l : List FileEntry). l ++ entries_in store log) first_log));
  }

  -- the stores tell, and hold these files at first
  module _ (files : ℕ → LowerFile) (tell : (node : ℕ) → TellsFiles (slice_get (bodies_of held opening) (node % stores))) (hold : (node : ℕ) → file_at (bodies_of held opening) node ≡ files node) where
    abbrev start : ℕ → FileState
    start node = state_by (content (rules format) (files node))

    told : (node : ℕ) → (held (shard_at node).first.bodies).told ≡ true
    told node = told_in held opening (node % stores) (shard_at node).first (shard_at node).first_is (tell node)

    first_file : (node : ℕ) → (held (shard_at node).first.bodies).files node ≡ files node
    first_file node = sym (file_in held opening node (shard_at node).first (shard_at node).first_is) ∙ hold node

    by_format : (node : ℕ) → rules (shard_at node).first.format ≡ rules format
    by_format node = ap rules (shard_at node).is_new.format_is

    stands_first : (node : ℕ) → Stands (rules (shard_at node).first.format) files (held (shard_at node).first.bodies) (shard_of (shard_at node).first) node (start node)
    stands_first node =
        let s = shard_at node in
        let shard = shard_of s.first in
        let own = s.is_new.stands node in
        let at_files = subst (λ (f : LowerFile). StandsBy (rules format) f (held s.first.bodies) node (was_opened node shard.log) (shard.working node) (shard.slots node) (state_by (content (rules format) f))) (first_file node) own in
        subst (λ (r : Format K). StandsBy r (files node) (held s.first.bodies) node (was_opened node shard.log) (shard.working node) (shard.slots node) (start node)) (sym (by_format node)) at_files

    next : (node : ℕ) → (state : FileState) × IsLegal IsTurn (start node) (entries_at node (shard_at node).goes_on.files.added) state
        × Stands (rules (shard_at node).first.format) files (held (shard_at node).last.bodies) (shard_of (shard_at node).last) node state
    next node = (shard_at node).goes_on.files.files (told node) files node (start node) (stands_first node)

    -- the state of each file at the end
    pub state_at : ℕ → FileState
    state_at node = (next node).0

    pub legal : (node : ℕ) → IsLegal IsTurn (start node) (entries_at node log) (state_at node)
    unfolding state_at
    legal node = subst (λ (l : List FileEntry). IsLegal IsTurn (start node) l (next node).0) (own_entries node) (next node).1

    -- and all is written out
    module _ (outs : List (ShardOver B F K)) (out : AreOut held rules ran outs) (lawful : IsFormat (rules format)) where
      -- The shard of a node behind the write-out.
      record OutShard (node : ℕ) : Type 0 where
        shard : ShardOver B F K
        is : slice_get outs (node % stores) ≡ Some shard
        out_is : IsOut held rules (shard_at node).last shard

      out_shard : (node : ℕ) → OutShard node
      out_shard node =
          let s = shard_at node in
          let o = other_at (IsOut held rules) (slice_get ran (node % stores)) (slice_get outs (node % stores)) s.last s.last_is (out (node % stores)) in
          record { shard = o.0; is = o.1; out_is = o.2 }

      was_same : (node : ℕ) → was_opened node (shard_at node).last.log ≡ was_opened node log
      was_same node =
          let s = shard_at node in
          ap (was_opened node) (s.goes_on.files.log ∙ ap (λ (l : List FileEntry). l ++ s.goes_on.files.added) s.is_new.log ∙ s.added) ∙ was_opened_in_shard node log

      same_format : (node : ℕ) → rules (shard_at node).last.format ≡ rules format
      same_format node = ap rules (shard_at node).goes_on.format ∙ by_format node

      pub left : (node : ℕ) → MayBeLeft (rules format) (files node) node (was_opened node log) (state_at node) (file_at (bodies_of held outs) node)
      unfolding state_at
      left node =
          let s = shard_at node in
          let o = out_shard node in
          let stands : Stands (rules s.last.format) files (held s.last.bodies) (shard_of s.last) node (next node).0 = subst (λ (r : Format K). Stands r files (held s.last.bodies) (shard_of s.last) node (next node).0) (by_format node ∙ sym (same_format node)) (next node).2 in
          let own = left_of (rules s.last.format) (held s.last.bodies) (held o.shard.bodies) (shard_of s.last) (shard_of o.shard) files node log (start node) (next node).0
          (subst IsFormat (sym (same_format node)) lawful) (s.goes_on.files.told ∙ told node) o.out_is.writes o.out_is.whole stands (legal node) (was_same node) in
          subst (λ (f : LowerFile). MayBeLeft (rules format) (files node) node (was_opened node log) (next node).0 f) (sym (file_in held outs node o.shard o.is))
          (subst (λ (r : Format K). MayBeLeft r (files node) node (was_opened node log) (next node).0 ((held o.shard.bodies).files node)) (same_format node) own)

      -- the stores still tell
      pub tells_out : (node : ℕ) → TellsFiles (slice_get (bodies_of held outs) (node % stores))
      tells_out node =
          let s = shard_at node in
          let o = out_shard node in
          subst TellsFiles (sym (bodies_at held outs (node % stores) o.shard o.is)) (o.out_is.writes.told ∙ s.goes_on.files.told ∙ told node)

      is_left : (opened : Bool) (state : FileState) (node : ℕ) (first file : LowerFile) → MayBeLeft (rules format) first node opened state file → IsLeft (rules format) node first opened file
      is_left true (Good f) node first file may = may.left
      is_left true (Bad cause) node first file may = absurd may
      is_left false state node first file may = may

      octets_left : (node : ℕ) → IsOfOctets (files node) → IsOfOctets (file_at (bodies_of held outs) node)
      octets_left node octets =
          let s = shard_at node in
          let o = out_shard node in
          let ran_octets = s.goes_on.files.octets (told node) node (subst IsOfOctets (sym (first_file node)) octets) in
          subst IsOfOctets (sym (file_in held outs node o.shard o.is)) (o.out_is.writes.octets (s.goes_on.files.told ∙ told node) node ran_octets)

      -- what is left fits an image
      pub fits : (node : ℕ) → HoldsOctets kinds.File (files node).attribute (files node).body → HoldsOctets kinds.File (file_at (bodies_of held outs) node).attribute (file_at (bodies_of held outs) node).body
      fits node fitted =
          left_fits (rules format) node (files node) (was_opened node log) (file_at (bodies_of held outs) node) lawful fitted (octets_left node (of_octets (files node) fitted))
          (is_left (was_opened node log) (state_at node) node (files node) (file_at (bodies_of held outs) node) (left node))
