use Rattle.std.proofs.Common.{◌≡◌, ◌++◌, map}
use Rattle.std.specs.Prelude.{reverse}
use Rattle.turn_lock.specs.Entries.{entries_of}
use Rattle.turn_lock.proofs.chain.Chain.entries.Given as goal

abbrev pub invariant-loop-node : goal.invariant-loop-node
invariant-loop-node g l = entries_of l.node ++ map (λ x. x.now) (reverse l.entries.items) ≡ l.self
