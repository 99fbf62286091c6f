use Rattle.std.proofs.Common.{◌≡◌, ◌+◌, ◌<◌, ◌^◌, length}
use mathlib.Core.List.{IsPrefix}
use Rattle.turn_lock.specs.Entries.{entries_of}
use Rattle.turn_lock.proofs.chain.Chain.get.Given as goal

abbrev pub invariant-loop-node : goal.invariant-loop-node
invariant-loop-node g l = (length l.self < 2 ^ 64 → length (entries_of l.node) ≡ l.index + l.left + 1) × IsPrefix (entries_of l.node) l.self
