use Rattle.session_run.proofs.Moving.{moved_falls}
use Rattle.session_run.proofs.tests.run.Goals as goal

pub moves-smaller : goal.moves-smaller
moves-smaller c = moved_falls _ _ _ _ _ _ c.moves-test.ensures.done
