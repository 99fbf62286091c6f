-- The logs of the shards, one behind another, have the entries of each node that their one log has.
use Rattle.std.proofs.Common.{◌≡◌, ◌≢◌, ℕ, suc, ◌+◌, ◌%◌, ◌<◌, ◌≤◌, ◌==◌, Bool, true, false, cond, List, [], ◌∷◌, ◌++◌, refl, sym, ◌∙◌, ap, ap₂, inl, inr, arith, append-nil, length, flat_map, slice_get, Some, eq-eqb, ne_eqb, mod-lt, eq-or-lt_of_le}
use Rattle.std.proofs.lemmas.Bool.{cases_eq, cond-true, cond-false}
use Rattle.std.proofs.lemmas.List.Elements.{filter-append}
use Rattle.lower_tree.specs.Held.{stores}
use Rattle.session_model.specs.declared.entry.FileEntry.{FileEntry}
use Rattle.file_model.specs.FileLog.{entries_at, entries_in, AreShardLogs}

-- ---- the entries of a node in one shard

entries_at-other : (b : Bool) (node : ℕ) (e : FileEntry) (log : List FileEntry) → e.node ≢ node → entries_at node (cond b (e ∷ log) log) ≡ entries_at node log
entries_at-other b node e log other =
    elim b as (λ b. entries_at node (cond b (e ∷ log) log) ≡ entries_at node log) [ true ↦ cond-false (e.node == node) _ _ (ne_eqb e.node node other) | false ↦ refl ]

-- its own has them all
entries_at-own_shard : (node shard : ℕ) (log : List FileEntry) → node % stores ≡ shard → entries_at node (entries_in shard log) ≡ entries_at node log
entries_at-own_shard node shard [] own = refl
entries_at-own_shard node shard (e ∷ log) own =
    elim (cases_eq e.node node) [
      | inl here ↦
          ap (entries_at node) (cond-true (e.node % stores == shard) _ _ (eq-eqb (e.node % stores) shard (ap (λ n. n % stores) here ∙ own)))
          ∙ ap (λ rest. cond (e.node == node) (e ∷ rest) rest) (entries_at-own_shard node shard log own)
      | inr other ↦
          entries_at-other (e.node % stores == shard) node e (entries_in shard log) other ∙ entries_at-own_shard node shard log own
          ∙ sym (cond-false (e.node == node) _ _ (ne_eqb e.node node other))
    ]

-- another has none
entries_at-other_shard : (node shard : ℕ) (log : List FileEntry) → node % stores ≢ shard → entries_at node (entries_in shard log) ≡ []
entries_at-other_shard node shard [] away = refl
entries_at-other_shard node shard (e ∷ log) away =
    elim (cases_eq e.node node) [
      | inl here ↦
          let outside : e.node % stores ≢ shard = λ h. away (ap (λ n. n % stores) (sym here) ∙ h) in
          ap (entries_at node) (cond-false (e.node % stores == shard) _ _ (ne_eqb (e.node % stores) shard outside)) ∙ entries_at-other_shard node shard log away
      | inr other ↦ entries_at-other (e.node % stores == shard) node e (entries_in shard log) other ∙ entries_at-other_shard node shard log away
    ]

-- ---- and in shards that follow one another

-- the logs of the shards from this one on
record AreFrom (log : List FileEntry) (shard : ℕ) (logs : List (List FileEntry)) : Type 0 where
  at : (k : ℕ) → k < length logs → slice_get logs k ≡ Some (entries_in (shard + k) log)

AreFrom-first : (log : List FileEntry) (shard : ℕ) (first : List FileEntry) (logs : List (List FileEntry)) → AreFrom log shard (first ∷ logs) → first ≡ entries_in shard log
AreFrom-first log shard first logs from =
    let here : Some first ≡ Some (entries_in (shard + 0) log) = from.at 0 (omega arith) in
    let same : first ≡ entries_in (shard + 0) log = cc in
    same ∙ ap (λ n. entries_in n log) (omega arith)

AreFrom-others : (log : List FileEntry) (shard : ℕ) (first : List FileEntry) (logs : List (List FileEntry)) → AreFrom log shard (first ∷ logs) → AreFrom log (shard + 1) logs
AreFrom-others log shard first logs from = record { at = λ k h. from.at (suc k) (omega arith) ∙ ap (λ n. Some (entries_in n log)) (omega arith) }

entries_at-shards_above : (node : ℕ) (log : List FileEntry) (logs : List (List FileEntry)) (shard : ℕ) → node % stores < shard → AreFrom log shard logs →
    entries_at node (flat_map (λ log. log) logs) ≡ []
entries_at-shards_above node log [] shard below from = refl
entries_at-shards_above node log (first ∷ logs) shard below from =
    let away : node % stores ≢ shard = λ e. absurd (omega (arith, e)) in
    let lower : node % stores < shard + 1 = omega arith in
    filter-append (λ e. e.node == node) first (flat_map (λ log. log) logs)
    ∙ ap₂ (λ a b. a ++ b) (ap (entries_at node) (AreFrom-first log shard first logs from) ∙ entries_at-other_shard node shard log away)
    (entries_at-shards_above node log logs (shard + 1) lower (AreFrom-others log shard first logs from))

entries_at-shards : (node : ℕ) (log : List FileEntry) (logs : List (List FileEntry)) (shard : ℕ) → shard ≤ node % stores → node % stores < shard + length logs → AreFrom log shard logs →
    entries_at node (flat_map (λ log. log) logs) ≡ entries_at node log
entries_at-shards node log [] shard up below from = absurd (omega arith)
entries_at-shards node log (first ∷ logs) shard up below from =
    filter-append (λ e. e.node == node) first (flat_map (λ log. log) logs)
    ∙ elim (eq-or-lt_of_le up) [
      | inl own ↦
          let lower : node % stores < shard + 1 = omega arith in
          ap₂ (λ a b. a ++ b) (ap (entries_at node) (AreFrom-first log shard first logs from) ∙ entries_at-own_shard node shard log (sym own))
          (entries_at-shards_above node log logs (shard + 1) lower (AreFrom-others log shard first logs from))
          ∙ append-nil (entries_at node log)
      | inr lower ↦
          let away : node % stores ≢ shard = λ e. absurd (omega (arith, e)) in
          ap (λ front. front ++ entries_at node (flat_map (λ log. log) logs)) (ap (entries_at node) (AreFrom-first log shard first logs from) ∙ entries_at-other_shard node shard log away)
          ∙ entries_at-shards node log logs (shard + 1) (omega arith) (omega arith) (AreFrom-others log shard first logs from)
    ]

pub entries_at-shard_logs : (logs : List (List FileEntry)) (log : List FileEntry) → AreShardLogs logs log → (node : ℕ) → entries_at node (flat_map (λ log. log) logs) ≡ entries_at node log
entries_at-shard_logs logs log shards node =
    let within : node % stores < stores = mod-lt node (omega arith) in
    let many : length logs ≡ stores = shards.all in
    let from : AreFrom log 0 logs = record { at = λ k h. shards.each k (omega arith) ∙ ap (λ n. Some (entries_in n log)) (omega arith) } in
    entries_at-shards node log logs 0 (omega arith) (omega arith) from
