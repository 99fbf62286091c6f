-- How the files of a shard go on from its opening.
use Rattle.std.specs.Prelude.{ℕ, ◌≡◌, true, List, ◌++◌}
use Rattle.session_model.specs.declared.entry.FileEntry.{FileEntry}
use Rattle.session_model.specs.Legal.{IsLegal, CountsFrom}
use Rattle.body_model.specs.LowerFile.{LowerFile, IsOfOctets}
use Rattle.body_model.specs.Bodies.{HeldBodies}
use Rattle.body_model.specs.Format.{Format}
use Rattle.file_model.specs.ByteFile.{FileState}
use Rattle.file_model.specs.FileLog.{IsTurn, counts_of, entries_at}
use Rattle.file_model.specs.Shard.{Shard, IsCausedTurn, Stands}

-- The log has these entries more, each of them with its cause. Their counts lead from the store's count of faults at the opening to that now; and as far as the store
-- tells what it holds, each file went by its own entries of them from its state at the opening to one in which it stands now.
pub record ShardGoesOn {K : Type 0} (format : Format K) (before after : HeldBodies) (opening now : Shard K) : Type 0 where
  pub added : List FileEntry
  pub log : now.log ≡ opening.log ++ added
  pub counts : CountsFrom counts_of before.faults added after.faults
  pub caused : (node : ℕ) → IsLegal IsCausedTurn (opening.slots node) (entries_at node added) (now.slots node)
  pub told : after.told ≡ before.told
  pub files : before.told ≡ true → (first : ℕ → LowerFile) (node : ℕ) (state : FileState) → Stands format first before opening node state
      → (next : FileState) × IsLegal IsTurn state (entries_at node added) next × Stands format first after now node next
  pub octets : before.told ≡ true → (node : ℕ) → IsOfOctets (before.files node) → IsOfOctets (after.files node)
