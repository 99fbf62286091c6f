use Rattle.session_model.proofs.Falls.{work}
use Rattle.turn_order.specs.Items.{Strode}
use Rattle.turn_order.proofs.order.finish.Given as goal

abbrev pub decreases-moves : goal.decreases-moves
decreases-moves g l = work l.session.session

abbrev pub invariant-moves : goal.invariant-moves
invariant-moves g l = record {
  strode : Strode (g.T.TreePart.log l.fn.tree) (g.T.TreePart.log l.tree) (g.F.FilePart.logs l.fn.files) (g.F.FilePart.logs l.files) l.fn.session l.session;
  tree : (opening : g.row.T.Denot) → g.T.TreePart.lawful opening l.fn.tree → g.T.TreePart.lawful opening l.tree;
  files : (opening : g.row.F.Denot) → g.F.FilePart.lawful opening l.fn.files → g.F.FilePart.lawful opening l.files;
}
