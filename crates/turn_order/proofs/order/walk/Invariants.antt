use Rattle.std.proofs.Common.{take}
use Rattle.turn_order.specs.Items.{Walked}
use Rattle.turn_order.proofs.order.walk.Given as goal

-- the items so far
abbrev pub invariant-loop-k : goal.invariant-loop-k
invariant-loop-k g l = record {
  walked : Walked (take l.k-index l.schedule) (g.T.TreePart.log l.fn.tree) (g.T.TreePart.log l.tree) (g.F.FilePart.logs l.fn.files) (g.F.FilePart.logs l.files) l.fn.sessions l.sessions;
  tree : (opening : g.row.T.Denot) → g.T.TreePart.lawful opening l.fn.tree → g.T.TreePart.lawful opening l.tree;
  files : (opening : g.row.F.Denot) → g.F.FilePart.lawful opening l.fn.files → g.F.FilePart.lawful opening l.files;
}
