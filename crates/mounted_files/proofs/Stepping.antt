-- A step of one shard, as one of all files.
use Rattle.std.proofs.Common.{ℕ, ◌≡◌, ◌%◌, List, [], ◌∷◌, ◌++◌, Some, sym, ◌∙◌, ap, subst}
use Rattle.std.specs.Prelude.{slice_get, slice_set}
use Rattle.session_model.proofs.Joins.{get_set_other, get_set_same}
use Rattle.lower_tree.specs.Held.{stores}
use Rattle.session_model.specs.declared.entry.FileEntry.{FileEntry}
use Rattle.body_model.specs.Bodies.{HeldBodies}
use Rattle.body_model.specs.Format.{Format}
use Rattle.file_model.specs.Shard.{IsShardStep}
use Rattle.file_model.proofs.GoingOn.{goes_on}
use Rattle.lower_inode.specs.Shards.{ShardOver, shard_of}
use Rattle.session_run.specs.Turn.{AddsFileTurn}
use Rattle.mounted_files.specs.Files.{FilesGoOn, GoesOn, log_of, logs_of}
use Rattle.mounted_files.proofs.Places.{set_at}

module _ {B F K : Type 0} (held : B → HeldBodies) (rules : F → Format K) (shards : List (ShardOver B F K)) (place : ℕ) (old new : ShardOver B F K) (e : FileEntry)
    (is : slice_get shards place ≡ Some old) (step : IsShardStep (rules old.format) (held old.bodies) (held new.bodies) (shard_of old) (shard_of new) e) where
  -- the entry comes to the log of the node's shard
  pub adds_turn : place ≡ e.node % stores → AddsFileTurn e.session e.op e.node e.call e.reply (logs_of shards) (logs_of (slice_set shards place new))
  adds_turn here = record {
    before = e.before;
    after = e.after;
    adds = subst (λ (k : ℕ). logs_of (slice_set shards place new) k ≡ logs_of shards k ++ e ∷ []) here
        (ap log_of (get_set_same shards place old new is) ∙ step.log ∙ ap (λ (l : List FileEntry). l ++ e ∷ []) (sym (ap log_of is)));
    others = λ shard apart. ap log_of (get_set_other shards place shard new (λ same. apart (same ∙ here)));
  }

  goes_on_at : new.format ≡ old.format → (opening : ShardOver B F K) → GoesOn held rules opening old → GoesOn held rules opening new
  goes_on_at format opening so_far = record {
    format = format ∙ so_far.format;
    files = goes_on (rules opening.format) (held opening.bodies) (held old.bodies) (held new.bodies) (shard_of opening) (shard_of old) (shard_of new) e so_far.files
        (subst (λ (f : F). IsShardStep (rules f) (held old.bodies) (held new.bodies) (shard_of old) (shard_of new) e) so_far.format step);
  }

  -- and all go on from their opening
  pub goes_on_set : new.format ≡ old.format → (opening : List (ShardOver B F K)) → FilesGoOn held rules opening shards → FilesGoOn held rules opening (slice_set shards place new)
  goes_on_set format opening so_far = set_at (GoesOn held rules) opening shards place old new is (goes_on_at format) so_far
