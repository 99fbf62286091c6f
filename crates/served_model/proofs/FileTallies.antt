-- What the tallies of a run tell of the histories of its files: where that of a store didn't rise, no turn of its files counts a fault or answers one.
use Rattle.std.proofs.Common.{◌≡◌, ℕ, suc, Bool, true, false, ◌%◌, ◌+◌, ◌<◌, ◌≤◌, ◌^◌, ◌-◌, inl, inr, List, [], ◌∷◌, refl, sym, subst, ◌∙◌, arith}
use Rattle.std.specs.Prelude.{◌==◌}
use Rattle.std.specs.List.{AllByRecursion}
use Rattle.std.proofs.lemmas.Bool.Decides.{eqb_tells}
use Rattle.answer_model.specs.Count.{Rose}
use Rattle.session_model.specs.declared.file.FileReply.TheVariants.{LowerFault}
use Rattle.session_model.specs.declared.entry.FileEntry.{FileEntry}
use Rattle.session_model.specs.Legal.{IsLegal, CountsFrom}
use Rattle.lower_tree.specs.Held.{stores}
use Rattle.lower_tree.specs.Making.{sum_of_counts}
use Rattle.file_model.specs.declared.open_slot.OpenSlot.{OpenSlot}
use Rattle.file_model.specs.FileLog.{counts_of, entries_at, entries_in}
use Rattle.file_model.specs.ByteFile.{FileState}
use Rattle.file_model.specs.Shard.{IsCausedTurn}
use Rattle.file_model.proofs.Entries.{is_equal}
use Rattle.job_model.specs.declared.job.Job.{Job}
use Rattle.served_model.specs.declared.end.TheConstants.{PARTS}
use Rattle.served_model.specs.Served.{Maker, CountsFaults, IsFileHistory}

-- the counts of a turn don't fall, and rise where it answers a fault
pub record IsCounted (e : FileEntry) : Type 0 where
  pub later : e.before ≤ e.after
  pub fault : e.reply ≡ LowerFault → Rose e.before e.after

-- a turn counts no fault and answers none
pub record CountsNoFault (e : FileEntry) : Type 0 where
  pub before : e.before ≡ 0
  pub after : e.after ≡ 0
  pub none : e.reply ≡ LowerFault → ⊥

counted_turns : (log : List FileEntry) (old new : List OpenSlot) → IsLegal IsCausedTurn old log new → AllByRecursion IsCounted log
counted_turns [] old new legal = tt
counted_turns (e ∷ log) old new legal = (record { later = legal.1.later; fault = legal.1.cause.fault }, counted_turns log legal.0 new legal.2)

-- what holds of the entries of each node holds of all
pub of_all : (P : FileEntry → Type 0) (log : List FileEntry) → ((node : ℕ) → AllByRecursion P (entries_at node log)) → AllByRecursion P log
of_all P [] each = tt
of_all P (e ∷ log) each =
    let test : (e.node == e.node) ≡ true = is_equal e.node e.node refl in
    let same : entries_at e.node (e ∷ log) ≡ e ∷ entries_at e.node log = rw test refl in
    let here : AllByRecursion P (e ∷ entries_at e.node log) = subst (λ (l : List FileEntry). AllByRecursion P l) same (each e.node) in
    (here.0, of_all P log (λ node. behind node (e.node == node) refl))
  where
    behind : (node : ℕ) (at : Bool) → (e.node == node) ≡ at → AllByRecursion P (entries_at node log)
    behind node true at =
        let same : entries_at node (e ∷ log) ≡ e ∷ entries_at node log = rw at refl in
        let all : AllByRecursion P (e ∷ entries_at node log) = subst (λ (l : List FileEntry). AllByRecursion P l) same (each node) in
        all.1
    behind node false at =
        let same : entries_at node (e ∷ log) ≡ entries_at node log = rw at refl in
        subst (λ (l : List FileEntry). AllByRecursion P l) same (each node)

of_store : (P : FileEntry → Type 0) (store : ℕ) (log : List FileEntry) → AllByRecursion P log → AllByRecursion P (entries_in store log)
of_store P store [] all = tt
of_store P store (e ∷ log) all = by_test (e.node % stores == store) refl (of_store P store log all.1)
  where
    by_test : (inside : Bool) → (e.node % stores == store) ≡ inside → AllByRecursion P (entries_in store log) → AllByRecursion P (entries_in store (e ∷ log))
    by_test true inside later = rw inside (all.0, later)
    by_test false inside later = rw inside later

rises : (log : List FileEntry) (first last : ℕ) → AllByRecursion IsCounted log → CountsFrom counts_of first log last → first ≤ last
rises [] first last all counts = omega arith
rises (e ∷ log) first last all counts =
    let rest = rises log e.after last all.1 counts.1 in
    let later : e.before ≤ e.after = all.0.later in
    let begins : e.before ≡ first = counts.0 in
    omega arith

faultless : (log : List FileEntry) (first : ℕ) → AllByRecursion IsCounted log → CountsFrom counts_of first log 0 → first ≡ 0 → AllByRecursion CountsNoFault log
faultless [] first all counts none = tt
faultless (e ∷ log) first all counts none =
    let rest = rises log e.after 0 all.1 counts.1 in
    let begins : e.before ≡ first = counts.0 in
    let before : e.before ≡ 0 = begins ∙ none in
    let after : e.after ≡ 0 = omega arith in
    let no : e.reply ≡ LowerFault → ⊥ = λ is. (let rose : Rose e.before e.after = all.0.fault is in absurd (omega arith)) in
    (record { before = before; after = after; none = no }, faultless log e.after all.1 counts.1 after)

-- the turns of a store's files
pub counted : (tells : Bool) (job : Job) (log : List FileEntry) (files : ℕ → FileState) (faults : ℕ → ℕ) → IsFileHistory tells job log files faults → (store : ℕ) → AllByRecursion IsCounted (entries_in store log)
counted tells job log files faults history store = of_store IsCounted store log (of_all IsCounted log (λ node. counted_turns (entries_at node log) [] (history.caused node).0 (history.caused node).1))

-- Where the tally of a store isn't at its end and stays, its files have no fault in their histories.
pub files_faultless : (tells : Bool) (job : Job) (before after : Maker) (log : List FileEntry) (files : ℕ → FileState) (faults : ℕ → ℕ) → IsFileHistory tells job log files (λ store. faults (suc store))
    → CountsFaults before after faults → (store : ℕ) → store < stores → before.tallies (suc store) < 2 ^ 64 - 1 → after.tallies (suc store) ≡ before.tallies (suc store)
    → AllByRecursion CountsNoFault (entries_in store log)
files_faultless tells job before after log files faults history counts store is below stays =
    let sum : after.tallies (suc store) ≡ sum_of_counts (before.tallies (suc store)) (faults (suc store)) = counts (suc store) (omega arith) in
    let none : faults (suc store) ≡ 0 = omega arith in
    let all = counted tells job log files (λ k. faults (suc k)) history store in
    faultless (entries_in store log) 0 all (subst (λ (n : ℕ). CountsFrom counts_of 0 (entries_in store log) n) none (history.counts store is)) refl
