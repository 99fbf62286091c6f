-- One step more of a shard, and its write-out.
use Rattle.std.proofs.Common.{ℕ, ◌≡◌, ◌≢◌, ◌≤◌, true, List, [], ◌∷◌, ◌++◌, refl, sym, ◌∙◌, ap, subst, inl, inr}
use Rattle.std.proofs.lemmas.Bool.Decides.{eqb_tells}
use Rattle.std.proofs.lemmas.List.{append-nil, append_assoc}
use Rattle.session_model.specs.declared.entry.FileEntry.{FileEntry}
use Rattle.session_model.specs.Legal.{IsLegal}
use Rattle.session_model.proofs.LegalLemmas.{IsLegal-push, CountsFrom-push}
use Rattle.body_model.specs.LowerFile.{LowerFile}
use Rattle.body_model.specs.Bodies.{HeldBodies}
use Rattle.body_model.specs.Format.{Format}
use Rattle.file_model.specs.ByteFile.{FileState}
use Rattle.file_model.specs.FileLog.{IsTurn, counts_of, entries_at}
use Rattle.file_model.specs.declared.open_slot.OpenSlot.{OpenSlot}
use Rattle.file_model.specs.Shard.{Shard, IsCausedTurn, Stands, IsShardStep}
use Rattle.file_model.specs.FilesGoOn.{ShardGoesOn}
use Rattle.file_model.proofs.Entries.{entries_at-push, entries_at-push_other}

-- nothing was called yet
pub goes_on_none : {K : Type 0} (format : Format K) (held : HeldBodies) (shard : Shard K) → ShardGoesOn format held held shard shard
goes_on_none format held shard = record {
  added = [];
  log = sym (append-nil shard.log);
  counts = refl;
  caused = λ node. refl;
  told = refl;
  files = λ told first node state stands. (state, refl, stands);
  octets = λ told node octets. octets;
}

module _ {K : Type 0} (format : Format K) (first_held old_held new_held : HeldBodies) (opening old new : Shard K) (e : FileEntry)
    (so_far : ShardGoesOn format first_held old_held opening old) (step : IsShardStep format old_held new_held old new e) where
  module _ (told : first_held.told ≡ true) (first : ℕ → LowerFile) (node : ℕ) (state : FileState) (stands : Stands format first first_held opening node state) where
    was_told : old_held.told ≡ true
    was_told = so_far.told ∙ told

    Next : Type 0
    Next = (next : FileState) × IsLegal IsTurn state (entries_at node (so_far.added ++ e ∷ [])) next × Stands format first new_held new node next

    so_far_at : (mid : FileState) × IsLegal IsTurn state (entries_at node so_far.added) mid × Stands format first old_held old node mid
    so_far_at = so_far.files told first node state stands

    at_node : e.node ≡ node → Next
    unfolding Next
    at_node same =
        let mid = so_far_at in
        let turn = step.turn was_told first mid.0 (subst (λ (n : ℕ). Stands format first old_held old n mid.0) (sym same) mid.2) in (
          turn.0,
          subst (λ (l : List FileEntry). IsLegal IsTurn state l turn.0) (sym (entries_at-push node so_far.added e same)) (IsLegal-push IsTurn state mid.0 turn.0 (entries_at node so_far.added) e mid.1 turn.1),
          subst (λ (n : ℕ). Stands format first new_held new n turn.0) same turn.2,
        )

    elsewhere : node ≢ e.node → Next
    unfolding Next
    elsewhere apart =
        let mid = so_far_at in (
          mid.0,
          subst (λ (l : List FileEntry). IsLegal IsTurn state l mid.0) (sym (entries_at-push_other node so_far.added e apart)) mid.1,
          step.others was_told first node mid.0 apart mid.2,
        )

    pub next_at : (next : FileState) × IsLegal IsTurn state (entries_at node (so_far.added ++ e ∷ [])) next × Stands format first new_held new node next
    unfolding Next
    next_at = elim (eqb_tells e.node node) [
      | inl same ↦ at_node same.1
      | inr apart ↦ elsewhere (λ same. apart.1 (sym same))
    ]

  caused_turn : IsCausedTurn (old.slots e.node) e (new.slots e.node)
  caused_turn = record { later = subst (λ (n : ℕ). n ≤ e.after) (sym step.first_count) (subst (λ (n : ℕ). old_held.faults ≤ n) (sym step.last_count) step.later); cause = step.cause; slots = step.slots }

  caused_at : (node : ℕ) → IsLegal IsCausedTurn (opening.slots node) (entries_at node (so_far.added ++ e ∷ [])) (new.slots node)
  caused_at node = elim (eqb_tells e.node node) [
    | inl same ↦ (let last : IsCausedTurn (old.slots node) e (new.slots node) = subst (λ (n : ℕ). IsCausedTurn (old.slots n) e (new.slots n)) same.1 caused_turn in
        subst (λ (l : List FileEntry). IsLegal IsCausedTurn (opening.slots node) l (new.slots node)) (sym (entries_at-push node so_far.added e same.1))
        (IsLegal-push IsCausedTurn (opening.slots node) (old.slots node) (new.slots node) (entries_at node so_far.added) e (so_far.caused node) last))
    | inr apart ↦ (let other : node ≢ e.node = λ same. apart.1 (sym same) in
        subst (λ (l : List FileEntry). IsLegal IsCausedTurn (opening.slots node) l (new.slots node)) (sym (entries_at-push_other node so_far.added e other))
        (subst (λ (slots : List OpenSlot). IsLegal IsCausedTurn (opening.slots node) (entries_at node so_far.added) slots) (sym (step.other_slots node other)) (so_far.caused node)))
  ]

  -- one step more
  pub goes_on : ShardGoesOn format first_held new_held opening new
  goes_on = record {
    added = so_far.added ++ e ∷ [];
    log = step.log ∙ ap (λ (l : List FileEntry). l ++ e ∷ []) so_far.log ∙ append_assoc opening.log so_far.added (e ∷ []);
    counts = CountsFrom-push counts_of first_held.faults old_held.faults new_held.faults so_far.added e so_far.counts step.first_count step.last_count;
    caused = caused_at;
    told = step.told ∙ so_far.told;
    files = next_at;
    octets = λ told node octets. step.octets (so_far.told ∙ told) node (so_far.octets told node octets);
  }
