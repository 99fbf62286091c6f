-- Logs that grow.
use Rattle.std.proofs.Common.{◌≡◌, ℕ, Bool, true, false, List, [], ◌∷◌, ◌++◌, refl, sym, subst, ap, ◌∙◌, append_assoc}
use Rattle.std.specs.Prelude.{◌==◌, ◌%◌}
use Rattle.std.proofs.lemmas.List.{append-nil}
use Rattle.std.proofs.lemmas.Bool.{eqb-false, eqb-true}
use Rattle.std.proofs.lemmas.List.Elements.{filter-append}
use Rattle.lower_tree.specs.Held.{stores}
use Rattle.session_model.specs.declared.file.FileCall.{FileCall}
use Rattle.session_model.specs.declared.file.FileReply.{FileReply}
use Rattle.session_model.specs.declared.entry.TreeEntry.{TreeEntry}
use Rattle.session_model.specs.declared.entry.FileEntry.{FileEntry}
use Rattle.session_model.specs.Histories.{Histories, nothing, joined}
use Rattle.file_model.specs.FileLog.{entries_in}
use Rattle.session_run.specs.Turn.{AddsFileTurn}
use Rattle.session_run.specs.Made.{GrowFiles, Grows}

pub grows_none : (tree : List TreeEntry) (logs : ℕ → List FileEntry) → Grows tree tree logs logs nothing
grows_none tree logs = record { adds_tree = sym (append-nil tree); adds_files = λ shard h. sym (append-nil (logs shard)) }

pub entries_joined : (shard : ℕ) (a b : List FileEntry) → entries_in shard (a ++ b) ≡ entries_in shard a ++ entries_in shard b
entries_joined shard a b = filter-append (λ (e : FileEntry). e.node % stores == shard) a b

pub grows_more : (tree tree' tree'' : List TreeEntry) (logs logs' logs'' : ℕ → List FileEntry) (a b : Histories) → Grows tree tree' logs logs' a → Grows tree' tree'' logs' logs'' b → Grows tree tree'' logs logs'' (joined a b)
grows_more tree tree' tree'' logs logs' logs'' a b first rest = record {
  adds_tree = rest.adds_tree ∙ ap (λ (l : List TreeEntry). l ++ b.tree) first.adds_tree ∙ append_assoc tree a.tree b.tree;
  adds_files = λ shard h.
      rest.adds_files shard h ∙ ap (λ (l : List FileEntry). l ++ entries_in shard b.file) (first.adds_files shard h) ∙ append_assoc (logs shard) (entries_in shard a.file) (entries_in shard b.file)
      ∙ ap (λ (l : List FileEntry). logs shard ++ l) (sym (entries_joined shard a.file b.file));
}

-- ---- by one entry

pub at_own : (e : FileEntry) (shard : ℕ) → (e.node % stores == shard) ≡ true → entries_in shard (e ∷ []) ≡ e ∷ []
at_own e shard is = rw is refl

pub at_other : (e : FileEntry) (shard : ℕ) → (e.node % stores == shard) ≡ false → entries_in shard (e ∷ []) ≡ []
at_other e shard is = rw is refl

-- the entry that a turn adds
abbrev pub entry_of : (session op node : ℕ) (call : FileCall) (reply : FileReply) (logs logs' : ℕ → List FileEntry) → AddsFileTurn session op node call reply logs logs' → FileEntry
entry_of session op node call reply logs logs' turn = record { session = session; op = op; node = node; call = call; reply = reply; before = turn.before; after = turn.after }

pub turn_grows : (session op node : ℕ) (call : FileCall) (reply : FileReply) (logs logs' : ℕ → List FileEntry) (turn : AddsFileTurn session op node call reply logs logs') → GrowFiles logs logs' (entry_of session op node call reply logs logs' turn ∷ [])
turn_grows session op node call reply logs logs' turn shard h = by (node % stores == shard) refl where
  e : FileEntry
  e = entry_of session op node call reply logs logs' turn

  by : (b : Bool) → (node % stores == shard) ≡ b → logs' shard ≡ logs shard ++ entries_in shard (e ∷ [])
  by true is = subst (λ (k : ℕ). logs' k ≡ logs k ++ (e ∷ [])) (eqb-true (node % stores) shard is) turn.adds ∙ ap (λ (l : List FileEntry). logs shard ++ l) (sym (at_own e shard is))
  by false is = turn.others shard (λ same. eqb-false (node % stores) shard is (sym same)) ∙ sym (append-nil (logs shard)) ∙ ap (λ (l : List FileEntry). logs shard ++ l) (sym (at_other e shard is))
