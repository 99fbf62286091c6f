use Rattle.session_model.proofs.Falls.{work}
use Rattle.session_run.proofs.tests.run.Given as goal

abbrev pub decreases-moves : goal.decreases-moves
decreases-moves l = work l.running.session
