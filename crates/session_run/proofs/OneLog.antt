-- Shards' logs that are the parts of one log.
use Rattle.std.proofs.Common.{◌≡◌, ◌≢◌, ℕ, false, List, [], ◌∷◌, ◌++◌, refl, ap, ◌∙◌, arith}
use Rattle.std.specs.Prelude.{◌==◌, ◌%◌}
use Rattle.std.proofs.lemmas.List.{append-nil}
use Rattle.std.proofs.lemmas.Bool.{eq-eqb}
use Rattle.lower_tree.specs.Held.{stores}
use Rattle.session_model.specs.declared.entry.FileEntry.{FileEntry}
use Rattle.file_model.specs.FileLog.{entries_in}
use Rattle.session_run.specs.Turn.{AddsFileTurn}
use Rattle.session_run.proofs.Growing.{entries_joined, at_own, at_other}

other-eqb : (a b : ℕ) → b ≢ a → (a == b) ≡ false
other-eqb a b h = grind arith

-- an entry more in the one is a turn of its shard
pub adds_in_one : (e : FileEntry) (log log' : List FileEntry) → log' ≡ log ++ e ∷ [] → AddsFileTurn e.session e.op e.node e.call e.reply (λ shard. entries_in shard log) (λ shard. entries_in shard log')
adds_in_one e log log' is = record {
  before = e.before;
  after = e.after;
  adds = grown (e.node % stores) ∙ ap (λ (l : List FileEntry). entries_in (e.node % stores) log ++ l) (at_own e (e.node % stores) (eq-eqb (e.node % stores) (e.node % stores) refl));
  others = λ shard other. grown shard ∙ ap (λ (l : List FileEntry). entries_in shard log ++ l) (at_other e shard (other-eqb (e.node % stores) shard other)) ∙ append-nil (entries_in shard log);
} where
  grown : (shard : ℕ) → entries_in shard log' ≡ entries_in shard log ++ entries_in shard (e ∷ [])
  grown shard = ap (λ (l : List FileEntry). entries_in shard l) is ∙ entries_joined shard log (e ∷ [])
