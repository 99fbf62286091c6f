use Rattle.std.proofs.Common.{◌≡◌, length}
use Rattle.std.specs.Prelude.{◌||◌}
use Rattle.tree_model.specs.Walk.{walk, comes_by}
use Rattle.plain_tree.proofs.walk.walked_by.Given as goal

abbrev pub invariant-loop-name : goal.invariant-loop-name
invariant-loop-name l = record {
  end : walk l.places l.at l.rest ≡ walk l.places 0 l.initial.rest;
  by : (l.by || comes_by l.places l.node l.at l.rest) ≡ comes_by l.places l.node 0 l.initial.rest;
}

abbrev pub decreases-loop-name : goal.decreases-loop-name
decreases-loop-name l = length l.rest
