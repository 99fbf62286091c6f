-- What sessions that were replayed on a tree and its files leave.
use Rattle.std.specs.Prelude.{ℕ, ◌≡◌, ◌<◌, ◌≤◌, true, List, Result, Ok, Err, length, map, slice_get}
use Rattle.std.specs.List.{AllByRecursion}
use Rattle.body_model.specs.Bodies.{HeldBodies}
use Rattle.body_model.specs.Format.{Format}
use Rattle.tree_model.specs.IsTree.{IsTree}
use Rattle.names_model.specs.NameForm.{NameForm}
use Rattle.namespace_model.specs.Carried.{Keeps}
use Rattle.namespace.specs.Namespace.{Namespace}
use Rattle.lower_tree.specs.Held.{HeldNames, stores}
use Rattle.session_model.specs.Legal.{Counts}
use Rattle.session_model.specs.TreeLog.{counts_of}
use Rattle.session_model.specs.Session.{Member}
use Rattle.file_model.specs.FileLog.{counts_of as file_counts_of}
use Rattle.lower_inode.specs.Shards.{ShardOver}
use Rattle.mounted_files.specs.declared.shards.StuckStore.{StuckStore}
use Rattle.mounted_files.specs.Files.{AreOut, FilesGoOn, IsStuckAt, faults_at, logs_of}
use Rattle.turn_order.specs.declared.replaying.Replayed.{Replayed}
use Rattle.turn_order.specs.GoesOn.{GoesOn}
use Rattle.turn_order.specs.Order.{RanInOrder}

-- The files were written out, all of them, or up to a store that failed.
abbrev pub IsWritten : {B F K : Type 0} → (B → HeldBodies) → (F → Format K) → List (ShardOver B F K) → List (ShardOver B F K) → Result (Unit {0}) StuckStore → Type 0
IsWritten held rules ran outs (Ok done) = AreOut held rules ran outs
IsWritten held rules ran outs (Err stuck) = IsStuckAt held ran outs stuck

-- no turn of the log has a count above this one
abbrev pub NoneAbove : {E : Type 0} → (E → Counts) → ℕ → List E → Type 0
NoneAbove counts faults log = AllByRecursion (λ e. ((counts e).before ≤ faults) × ((counts e).after ≤ faults)) log

-- The tree went on by these turns, and its parts came back.
pub record NamesCameBack {N U B : Type 0} (held : N → HeldNames) (form_by : U → NameForm) (opening last : Namespace N U) (replayed : Replayed N U B) : Type 0 where
  pub goes_on : GoesOn held (form_by opening.form) opening last
  pub lower : replayed.names ≡ last.lower
  pub form : replayed.form ≡ last.form
  pub log : replayed.tree_log ≡ last.log
  pub tree : IsTree last.tree.places
  pub keeps : (held last.lower).told ≡ true → Keeps (form_by last.form) last.tree.places last.kept (held last.lower).entries
  pub counts : NoneAbove counts_of (held last.lower).faults last.log

-- The files went on by these turns and were written out, and their stores and logs came back.
pub record FilesCameBack {N U B F K : Type 0} (held : B → HeldBodies) (rules : F → Format K) (opening ran outs : List (ShardOver B F K)) (replayed : Replayed N U B) : Type 0 where
  pub go_on : FilesGoOn held rules opening ran
  pub written : IsWritten held rules ran outs replayed.out
  pub bodies : replayed.bodies.items ≡ map (λ s. s.bodies) outs
  pub logs : replayed.file_logs.items ≡ map (λ s. s.log) outs
  pub counts : (store : ℕ) → store < stores → NoneAbove file_counts_of (faults_at held (slice_get ran store)) (logs_of ran store)
  pub stores : length outs ≡ stores

-- The sessions ran in the order of the schedule, and then to their ends. The state in which they left the tree and the files, and the files behind the write-out, are last, ran and outs.
pub record IsReplayed {N U B F K : Type 0} (held_names : N → HeldNames) (held : B → HeldBodies) (rules : F → Format K) (form_by : U → NameForm) (schedule : List ℕ) (names : Namespace N U) (files : List (ShardOver B F K))
    (sessions : List Member) (replayed : Replayed N U B) : Type 0 where
  pub last : Namespace N U
  pub ran : List (ShardOver B F K)
  pub outs : List (ShardOver B F K)
  pub order : RanInOrder schedule names.log last.log (logs_of files) (logs_of ran) sessions replayed.sessions.items
  pub names_back : NamesCameBack held_names form_by names last replayed
  pub files_back : FilesCameBack held rules files ran outs replayed
