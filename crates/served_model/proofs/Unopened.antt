-- What was no file at first, under a number that was there, no session opens.
use Rattle.std.proofs.Common.{◌≡◌, ℕ, ◌<◌, inl, inr, false, List, length, Some, arith}
use Rattle.std.specs.Prelude.{slice_get}
use Rattle.tree_model.specs.declared.place.Place.{Place}
use Rattle.tree_model.specs.declared.place.Place.TheVariants.{File}
use Rattle.tree_model.specs.PlainTree.{PlainTree}
use Rattle.session_model.specs.declared.reply.Reply.{Reply}
use Rattle.session_model.specs.Histories.{Histories}
use Rattle.session_model.specs.ScriptCalls.{AreScriptCalls}
use Rattle.session_model.specs.TreeLog.{IsTreeLog}
use Rattle.session_model.proofs.OpenedNodes.{IsOfFile, told_by_log, all_opened_as_told}
use Rattle.file_model.specs.Shard.{was_opened}
use Rattle.file_model.proofs.Unopened.{not_opened}

-- it is neither a file that was there nor a new number
not_of_file : (places : List Place) (n : ℕ) → n < length places → (slice_get places n ≡ Some File → ⊥) → IsOfFile places n → ⊥
not_of_file places n lt none (inl there) = none there
not_of_file places n lt none (inr later) = absurd (omega arith)

-- in any session of a run
pub unopened : (scripts : _) (all : Histories) (sessions : List (List Reply)) (start end : PlainTree) (first last : ℕ) → AreScriptCalls scripts all sessions → IsTreeLog start first all.tree end last
    → (n : ℕ) → n < length start.places → (slice_get start.places n ≡ Some File → ⊥) → was_opened n all.file ≡ false
unopened scripts all sessions start end first last calls tree n lt none =
    not_opened (IsOfFile start.places) n all.file (not_of_file start.places n lt none) (all_opened_as_told (IsOfFile start.places) scripts all sessions calls (told_by_log start first all.tree end last tree))
