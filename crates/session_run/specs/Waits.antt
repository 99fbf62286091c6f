-- What a session has in hand that waits for a call.
use Rattle.std.specs.Prelude.{ℕ, ◌≡◌}
use Rattle.session_model.specs.declared.file.FileCall.{FileCall}
use Rattle.session_model.specs.declared.file.FileCall.TheVariants.{Attach, Detach}
use Rattle.session_model.specs.declared.session.Hand.{Hand}
use Rattle.session_model.specs.declared.session.Hand.TheVariants as hands

-- It waits for a call on the tree.
abbrev pub WaitsForTree : Hand → Type 0
WaitsForTree hands.OnTree = Unit {0}
WaitsForTree (hands.Finds slot) = Unit {0}
WaitsForTree hand = ⊥

-- It waits for this call on the file of this node.
abbrev pub WaitsForFile : ℕ → FileCall → Hand → Type 0
WaitsForFile node (Attach slot) hand = hand ≡ hands.Attaches slot node
WaitsForFile node (Detach slot) hand = hand ≡ hands.Closes slot node
WaitsForFile node call hand = hand ≡ hands.OnFile
