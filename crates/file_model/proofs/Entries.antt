-- The entries of one node, and those of its shard.
use Rattle.std.proofs.Common.{ℕ, ◌≡◌, ◌≢◌, ◌%◌, Bool, true, false, List, [], ◌∷◌, ◌++◌, refl, sym, ◌∙◌, ap, inl, inr}
use Rattle.std.specs.Prelude.{◌==◌, ◌&&◌, ◌||◌}
use Rattle.std.proofs.lemmas.Bool.Decides.{eqb_tells}
use Rattle.std.proofs.lemmas.List.{append-nil}
use Rattle.std.proofs.lemmas.List.Elements.{filter-append}
use Rattle.lower_tree.specs.Held.{stores}
use Rattle.session_model.specs.declared.entry.FileEntry.{FileEntry}
use Rattle.file_model.specs.FileLog.{entries_at, entries_in}
use Rattle.file_model.specs.Shard.{opens, was_opened}

pub is_equal : (a b : ℕ) → a ≡ b → (a == b) ≡ true
is_equal a b e = elim (eqb_tells a b) [
  | inl same ↦ same.0
  | inr apart ↦ absurd (apart.1 e)
]

pub is_apart : (a b : ℕ) → a ≢ b → (a == b) ≡ false
is_apart a b ne = elim (eqb_tells a b) [
  | inl same ↦ absurd (ne same.1)
  | inr apart ↦ apart.0
]

-- one entry more, at its own node and at another
pub entries_at-push : (node : ℕ) (log : List FileEntry) (e : FileEntry) → e.node ≡ node → entries_at node (log ++ e ∷ []) ≡ entries_at node log ++ e ∷ []
entries_at-push node log e same =
    let test : (e.node == node) ≡ true = is_equal e.node node same in
    filter-append (λ (x : FileEntry). x.node == node) log (e ∷ []) ∙ ap (λ (more : List FileEntry). entries_at node log ++ more) (rw test refl)

pub entries_at-push_other : (node : ℕ) (log : List FileEntry) (e : FileEntry) → node ≢ e.node → entries_at node (log ++ e ∷ []) ≡ entries_at node log
entries_at-push_other node log e apart =
    let test : (e.node == node) ≡ false = is_apart e.node node (λ same. apart (sym same)) in
    filter-append (λ (x : FileEntry). x.node == node) log (e ∷ []) ∙ ap (λ (more : List FileEntry). entries_at node log ++ more) (rw test refl) ∙ append-nil (entries_at node log)

-- The entries of a node are all in the log of its shard.
pub entries_in_shard : (node : ℕ) (log : List FileEntry) → entries_at node (entries_in (node % stores) log) ≡ entries_at node log
entries_in_shard node [] = refl
entries_in_shard node (e ∷ log) = by_tests (e.node % stores == node % stores) (e.node == node) refl refl (entries_in_shard node log)
  where
    by_tests : (shard at : Bool) → (e.node % stores == node % stores) ≡ shard → (e.node == node) ≡ at → entries_at node (entries_in (node % stores) log) ≡ entries_at node log
        → entries_at node (entries_in (node % stores) (e ∷ log)) ≡ entries_at node (e ∷ log)
    by_tests true true in_shard at_node later = rw (in_shard, at_node) (ap (λ (l : List FileEntry). e ∷ l) later)
    by_tests true false in_shard at_node later = rw (in_shard, at_node) later
    by_tests false true in_shard at_node later = absurd (elim (eqb_tells e.node node) [
      | inl same ↦ (let t = is_equal (e.node % stores) (node % stores) (ap (λ (n : ℕ). n % stores) same.1) in cc)
      | inr apart ↦ (let f = apart.0 in cc)
    ])
    by_tests false false in_shard at_node later = rw (in_shard, at_node) later

-- so it tells whether the node was opened
pub was_opened_in_shard : (node : ℕ) (log : List FileEntry) → was_opened node (entries_in (node % stores) log) ≡ was_opened node log
was_opened_in_shard node [] = refl
was_opened_in_shard node (e ∷ log) = by_tests (e.node % stores == node % stores) (e.node == node) refl refl (was_opened_in_shard node log)
  where
    by_tests : (shard at : Bool) → (e.node % stores == node % stores) ≡ shard → (e.node == node) ≡ at → was_opened node (entries_in (node % stores) log) ≡ was_opened node log
        → was_opened node (entries_in (node % stores) (e ∷ log)) ≡ was_opened node (e ∷ log)
    by_tests true at in_shard at_node later = rw in_shard (ap (λ (b : Bool). ((e.node == node) && opens e.call e.reply) || b) later)
    by_tests false true in_shard at_node later = absurd (elim (eqb_tells e.node node) [
      | inl same ↦ (let t = is_equal (e.node % stores) (node % stores) (ap (λ (n : ℕ). n % stores) same.1) in cc)
      | inr apart ↦ (let f = apart.0 in cc)
    ])
    by_tests false false in_shard at_node later = rw (in_shard, at_node) later
