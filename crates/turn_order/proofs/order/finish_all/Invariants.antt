use Rattle.turn_order.proofs.Walking.{FinishedSome}
use Rattle.turn_order.proofs.order.finish_all.Given as goal

-- the sessions so far have run to their ends
abbrev pub invariant-loop-session : goal.invariant-loop-session
invariant-loop-session g l = record {
  finished : FinishedSome l.session-index (g.T.TreePart.log l.fn.tree) (g.T.TreePart.log l.tree) (g.F.FilePart.logs l.fn.files) (g.F.FilePart.logs l.files) l.fn.sessions l.sessions;
  tree : (opening : g.row.T.Denot) → g.T.TreePart.lawful opening l.fn.tree → g.T.TreePart.lawful opening l.tree;
  files : (opening : g.row.F.Denot) → g.F.FilePart.lawful opening l.fn.files → g.F.FilePart.lawful opening l.files;
}
