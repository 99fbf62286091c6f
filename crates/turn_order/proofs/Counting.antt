-- Counts of faults that lead from one turn to the next: no turn has one above the last.
use Rattle.std.proofs.Common.{◌≡◌, ℕ, ◌≤◌, Bool, true, false, List, [], ◌∷◌, ◌++◌, refl, sym, subst, ap, ◌∙◌, arith}
use Rattle.std.specs.Prelude.{◌==◌, cond}
use Rattle.std.specs.List.{AllByRecursion}
use Rattle.body_model.specs.Bodies.{HeldBodies}
use Rattle.body_model.specs.Format.{Format}
use Rattle.tree_model.specs.PlainTree.{PlainTree}
use Rattle.session_model.specs.declared.entry.TreeEntry.{TreeEntry}
use Rattle.session_model.specs.declared.entry.FileEntry.{FileEntry}
use Rattle.session_model.specs.Legal.{Counts, CountsFrom, IsLegal}
use Rattle.session_model.specs.TreeLog.{IsTreeLog, IsTurn, counts_of}
use Rattle.file_model.specs.FileLog.{counts_of as file_counts_of, entries_at}
use Rattle.file_model.specs.FilesGoOn.{ShardGoesOn}
use Rattle.file_model.specs.Shard.{IsCausedTurn, Shard}
use Rattle.file_model.proofs.Entries.{is_equal}
use Rattle.turn_order.specs.Replay.{NoneAbove}

-- a turn's count doesn't fall
abbrev Rises : {E : Type 0} → (E → Counts) → E → Type 0
Rises counts e = (counts e).before ≤ (counts e).after

-- The first count is not above the last one, and no turn's is.
record Below {E : Type 0} (counts : E → Counts) (first : ℕ) (log : List E) (last : ℕ) : Type 0 where
  first_too : first ≤ last
  each : NoneAbove counts last log

below : {E : Type 0} (counts : E → Counts) (first last : ℕ) (log : List E) → CountsFrom counts first log last → AllByRecursion (Rises counts) log → Below counts first log last
below counts first last [] from rises = record { first_too = omega (arith, from); each = tt }
below counts first last (e ∷ log) from rises =
    let later = below counts (counts e).after last log from.1 rises.1 in
    record { first_too = omega (arith, from.0, rises.0, later.first_too); each = ((omega (arith, rises.0, later.first_too), later.first_too), later.each) }

none_above : {E : Type 0} (counts : E → Counts) (first last : ℕ) (log : List E) → CountsFrom counts first log last → AllByRecursion (Rises counts) log → NoneAbove counts last log
none_above counts first last log from rises = (below counts first last log from rises).each

-- what each turn has that leads from one state to another
all_turns : {S E : Type 0} (Turns : S → E → S → Type 0) (P : E → Type 0) (each : (old new : S) (e : E) → Turns old e new → P e) (old new : S) (log : List E) → IsLegal Turns old log new → AllByRecursion P log
all_turns Turns P each old new [] legal = tt
all_turns Turns P each old new (e ∷ log) legal = (each old legal.0 e legal.1, all_turns Turns P each legal.0 new log legal.2)

-- ---- the tree

pub none_above_tree : (old new : PlainTree) (first last : ℕ) (log : List TreeEntry) → IsTreeLog old first log new last → NoneAbove counts_of last log
none_above_tree old new first last log history =
    none_above counts_of first last log history.counts (all_turns IsTurn (Rises counts_of) (λ a b e turn. turn.later) old new log history.legal)

-- ---- the files

-- what all entries of each node have, all entries have
module _ (P : FileEntry → Type 0) where
  own : (e : FileEntry) (log : List FileEntry) → AllByRecursion P (entries_at e.node (e ∷ log)) → P e
  own e log all = by (e.node == e.node) (is_equal e.node e.node refl) all where
    by : (b : Bool) → b ≡ true → AllByRecursion P (cond b (e ∷ entries_at e.node log) (entries_at e.node log)) → P e
    by true is all = all.0
    by false is all = absurd cc

  later : (b : Bool) (e : FileEntry) (rest : List FileEntry) → AllByRecursion P (cond b (e ∷ rest) rest) → AllByRecursion P rest
  later true e rest all = all.1
  later false e rest all = all

  by_node : (log : List FileEntry) → ((node : ℕ) → AllByRecursion P (entries_at node log)) → AllByRecursion P log
  by_node [] all = tt
  by_node (e ∷ log) all = (own e log (all e.node), by_node log (λ node. later (e.node == node) e (entries_at node log) (all node)))

-- the turns that a shard has more
pub none_above_shard : {K : Type 0} (format : Format K) (before after : HeldBodies) (opening now : Shard K) → ShardGoesOn format before after opening now → opening.log ≡ [] → NoneAbove file_counts_of after.faults now.log
none_above_shard format before after opening now goes none =
    let rises : AllByRecursion (Rises file_counts_of) goes.added = by_node (Rises file_counts_of) goes.added (λ node. all_turns IsCausedTurn (Rises file_counts_of) (λ a b e turn. turn.later) (opening.slots node) (now.slots node) (entries_at node goes.added) (goes.caused node)) in
    let logged : goes.added ≡ now.log = sym (goes.log ∙ ap (λ (l : List FileEntry). l ++ goes.added) none) in
    subst (λ (l : List FileEntry). NoneAbove file_counts_of after.faults l) logged (none_above file_counts_of before.faults after.faults goes.added goes.counts rises)
