use Rattle.std.proofs.Common.{◌≡◌, ℕ, ◌<◌, ◌-◌, true}
use Rattle.tree_model.specs.PlainTree.{most_nodes}
use Rattle.opening_model.specs.Openings.{EndsBelow}
use Rattle.namespace.proofs.listing.node_count.Given as goal

abbrev pub invariant-down : goal.invariant-down
invariant-down g l = record {
  below : (g.N.LowerNames.held l.initial.lower).told ≡ true → EndsBelow (g.N.LowerNames.held l.initial.lower).entries l.last;
  stays : (g.N.LowerNames.held l.initial.lower).told ≡ true → (k : ℕ) → (g.N.LowerNames.held l.lower).entries k ≡ (g.N.LowerNames.held l.initial.lower).entries k;
  told : (g.N.LowerNames.held l.lower).told ≡ (g.N.LowerNames.held l.initial.lower).told;
  faults : (g.N.LowerNames.held l.lower).faults ≡ (g.N.LowerNames.held l.initial.lower).faults;
  few : l.last < most_nodes;
}

abbrev pub decreases-down : goal.decreases-down
decreases-down g l = most_nodes - l.last
