-- Sessions that were replayed, and the parts that came back.
use Rattle.std.proofs.Common.{◌≡◌, ℕ, ◌<◌, List, [], ◌∷◌, ◌++◌, Option, Some, None, Result, Ok, Err}
use Rattle.std.specs.Prelude.{IfErr, OnOk, slice_get}
use Rattle.std.specs.List.{AllByRecursion}
use Rattle.lower_tree.specs.Held.{stores}
use Rattle.body_model.specs.Bodies.{HeldBodies}
use Rattle.body_model.specs.Format.{Format}
use Rattle.file_model.specs.FileLog.{counts_of as file_counts_of}
use Rattle.lower_inode.specs.Shards.{ShardOver, shard_of}
use Rattle.mounted_files.specs.declared.shards.StuckStore.{StuckStore}
use Rattle.mounted_files.specs.Files.{AreOut, At, FilesGoOn, GoesOn, IsStuckAt, faults_at, log_of, logs_of}
use Rattle.turn_order.specs.Replay.{IsWritten, NoneAbove}
use Rattle.turn_order.proofs.Counting.{none_above_shard}

-- ---- the last session of a list, and those before it

pub all_before : {A : Type 0} (P : A → Type 0) (xs : List A) (x : A) → AllByRecursion P (xs ++ x ∷ []) → AllByRecursion P xs
all_before P [] x all = tt
all_before P (y ∷ xs) x all = (all.0, all_before P xs x all.1)

pub of_last : {A : Type 0} (P : A → Type 0) (xs : List A) (x : A) → AllByRecursion P (xs ++ x ∷ []) → P x
of_last P [] x all = all.0
of_last P (y ∷ xs) x all = of_last P xs x all.1

-- ---- the files

module _ {B F K : Type 0} (held : B → HeldBodies) (rules : F → Format K) where
  pub written_by : (ran outs : List (ShardOver B F K)) (out : Result (Unit {0}) StuckStore) → OnOk out (AreOut held rules ran outs) → IfErr out (IsStuckAt held ran outs) → IsWritten held rules ran outs out
  written_by ran outs (Ok done) ok err = ok
  written_by ran outs (Err stuck) ok err = err

  none_above_at : (a b : Option (ShardOver B F K)) → At (GoesOn held rules) a b → log_of a ≡ [] → NoneAbove file_counts_of (faults_at held b) (log_of b)
  none_above_at (Some a) (Some b) goes none = none_above_shard (rules a.format) (held a.bodies) (held b.bodies) (shard_of a) (shard_of b) goes.files none
  none_above_at None None goes none = tt
  none_above_at (Some a) None goes none = absurd goes
  none_above_at None (Some b) goes none = absurd goes

  -- no turn of a store has a count above its last one
  pub none_above_files : (opening ran : List (ShardOver B F K)) → FilesGoOn held rules opening ran → ((store : ℕ) → store < stores → logs_of opening store ≡ [])
      → (store : ℕ) → store < stores → NoneAbove file_counts_of (faults_at held (slice_get ran store)) (logs_of ran store)
  none_above_files opening ran goes none store within = none_above_at (slice_get opening store) (slice_get ran store) (goes store) (none store within)
