use Rattle.session_run.proofs.Moving.{moved_falls}
use Rattle.turn_order.proofs.Walking.{strode_none, strode_more, has_finished}
use Rattle.turn_order.proofs.order.finish.Goals as goal

pub moves-init : goal.moves-init
moves-init g c = record {
  strode = strode_none _ _ c.args.session.now;
  tree = λ opening h. h;
  files = λ opening h. h;
}

pub moves-smaller : goal.moves-smaller
moves-smaller g c = moved_falls _ _ _ _ _ _ c.moves-test.ensures.done

pub moves-preserved : goal.moves-preserved
moves-preserved g c = record {
  strode = strode_more _ _ _ _ _ _ _ _ _ c.moves.invariant.strode c.moves-test.ensures.done;
  tree = λ opening h. c.make_move.ensures.tree opening (c.moves.invariant.tree opening h);
  files = λ opening h. c.make_move.ensures.files opening (c.moves.invariant.files opening h);
}

pub returns-clause-finished : goal.returns-clause-finished
returns-clause-finished g c = has_finished _ _ _ _ _ _ _ _ _ c.moves.invariant.strode c.moves-test.ensures.done
