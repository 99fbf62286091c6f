-- What the tallies of a run tell of the history of its tree: no count is above the last, which the tally of the names rose by; where it did not rise, no turn counts a fault or answers one.
use Rattle.std.proofs.Common.{◌≡◌, ℕ, Bool, ◌+◌, ◌<◌, ◌≤◌, ◌^◌, ◌-◌, List, [], ◌∷◌, refl, sym, subst, ◌∙◌, arith}
use Rattle.std.specs.List.{AllByRecursion}
use Rattle.answer_model.specs.Count.{Rose}
use Rattle.tree_model.specs.declared.call.TreeReply.{TreeReply}
use Rattle.tree_model.specs.declared.call.TreeReply.TheVariants as replies
use Rattle.tree_model.specs.PlainTree.{PlainTree}
use Rattle.session_model.specs.declared.entry.TreeEntry.{TreeEntry}
use Rattle.session_model.specs.Legal.{IsLegal, CountsFrom}
use Rattle.session_model.specs.TreeLog.{Turns, IsTurn, IsTreeLog, counts_of}
use Rattle.lower_tree.specs.Making.{sum_of_counts}
use Rattle.job_model.specs.declared.job.Job.{Job}
use Rattle.served_model.specs.ReportText.{Report}
use Rattle.file_model.specs.ByteFile.{FileState}
use Rattle.served_model.specs.declared.end.TheConstants.{PARTS}
use Rattle.served_model.specs.Served.{Maker, CountsFaults, RanScripts, IsStuckAtOpening}

-- a turn counts no fault and answers none
abbrev pub CountsNoFault : TreeEntry → Type 0
CountsNoFault e = (e.before ≡ 0) × (e.after ≡ 0) × (e.reply ≡ replies.LowerFault → ⊥)

abbrev pub CountNoFault : List TreeEntry → Type 0
CountNoFault log = AllByRecursion CountsNoFault log

no_fault : (e : TreeEntry) (old new : PlainTree) → IsTurn old e new → e.before ≡ 0 → e.after ≡ 0 → e.reply ≡ replies.LowerFault → ⊥
no_fault e old new turn before after is =
    let turns : Turns replies.LowerFault e.call e.before e.after old new = subst (λ (r : TreeReply). Turns r e.call e.before e.after old new) is turn.turns in
    let rose : Rose e.before e.after = turns.0 in
    absurd (omega arith)

-- counts only rise
rises : (log : List TreeEntry) (old new : PlainTree) (first last : ℕ) → IsLegal IsTurn old log new → CountsFrom counts_of first log last → first ≤ last
rises [] old new first last legal counts = omega arith
rises (e ∷ log) old new first last legal counts =
    let rest = rises log legal.0 new e.after last legal.2 counts.1 in
    let later : e.before ≤ e.after = legal.1.later in
    let begins : e.before ≡ first = counts.0 in
    omega arith

faultless : (log : List TreeEntry) (old new : PlainTree) (first : ℕ) → IsLegal IsTurn old log new → CountsFrom counts_of first log 0 → first ≡ 0 → CountNoFault log
faultless [] old new first legal counts none = tt
faultless (e ∷ log) old new first legal counts none =
    let begins : e.before ≡ first = counts.0 in
    let rest = rises log legal.0 new e.after 0 legal.2 counts.1 in
    let before : e.before ≡ 0 = begins ∙ none in
    let after : e.after ≡ 0 = omega arith in
    ((before, after, no_fault e old legal.0 legal.1 before after), faultless log legal.0 new e.after legal.2 counts.1 after)

-- a history that comes to no fault
pub history_faultless : (old new : PlainTree) (log : List TreeEntry) → IsTreeLog old 0 log new 0 → CountNoFault log
history_faultless old new log history = faultless log old new 0 history.legal history.counts refl

-- a tally that isn't at its end, and stays, has no fault added
none_added : (tally faults : ℕ) → tally < 2 ^ 64 - 1 → sum_of_counts tally faults ≡ tally → faults ≡ 0
none_added tally faults below stays = omega arith

-- no count of a history is above its last
pub below_last : (log : List TreeEntry) (old new : PlainTree) (first last : ℕ) → IsLegal IsTurn old log new → CountsFrom counts_of first log last
    → AllByRecursion (λ (e : TreeEntry). (e.before ≤ last) × (e.after ≤ last)) log
below_last [] old new first last legal counts = tt
below_last (e ∷ log) old new first last legal counts =
    let rest : e.after ≤ last = rises log legal.0 new e.after last legal.2 counts.1 in
    let later : e.before ≤ e.after = legal.1.later in
    let before : e.before ≤ last = omega arith in
    ((before, rest), below_last log legal.0 new e.after last legal.2 counts.1)

-- the last count of a part is what its tally rose by, unless the tally is at its end
pub rose_by : (before after : Maker) (faults : ℕ → ℕ) (part : ℕ) → CountsFaults before after faults → part < PARTS → after.tallies part < 2 ^ 64 - 1
    → before.tallies part + faults part ≡ after.tallies part
rose_by before after faults part counted is room = let sum : after.tallies part ≡ sum_of_counts (before.tallies part) (faults part) = counted part is in omega arith

-- names that couldn't be opened raise their tally
pub opening_rises : (before after : Maker) (output : List ℕ) → IsStuckAtOpening before after output → Rose (before.tallies 0) (after.tallies 0)
opening_rises before after output stuck =
    let rose : Rose 0 stuck.faults = stuck.rose in
    let counted : after.tallies 0 ≡ sum_of_counts (before.tallies 0) stuck.faults = stuck.counted 0 (omega arith) in
    omega arith

-- the report of a run over parts of which no tally rose
pub ran_faultless : (tells : Bool) (job : Job) (before after : Maker) (report : Report) (end : PlainTree) (files : ℕ → FileState) (faults : ℕ → ℕ) → RanScripts tells job report end files faults
    → CountsFaults before after faults → before.tallies 0 < 2 ^ 64 - 1 → after.tallies 0 ≡ before.tallies 0 → CountNoFault report.histories.tree
ran_faultless tells job before after report end files faults ran counted below stays =
    let none : faults 0 ≡ 0 = none_added (before.tallies 0) (faults 0) below (sym (counted 0 (omega arith)) ∙ stays) in
    history_faultless ran.start end report.histories.tree (subst (λ (n : ℕ). IsTreeLog ran.start 0 report.histories.tree end n) none ran.tree_history)
