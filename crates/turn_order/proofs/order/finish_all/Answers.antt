use Rattle.std.proofs.Common.{refl, arith}
use Rattle.std.proofs.lemmas.Option.{slice_get-get_or}
use Rattle.turn_order.proofs.Walking.{finished_none, finished_more, have_finished}
use Rattle.turn_order.proofs.order.finish_all.Goals as goal

pub loop-session-init : goal.loop-session-init
loop-session-init g c = record {
  finished = finished_none _ _ c.args.sessions.now;
  tree = λ opening h. h;
  files = λ opening h. h;
}

pub loop-session-preserved : goal.loop-session-preserved
loop-session-preserved g c = record {
  finished = finished_more c.loop-session.session-index _ _ _ _ _ _ _ c.loop-session.sessions _ _ _ c.loop-session.invariant.finished (slice_get-get_or c.loop-session.sessions c.loop-session.session-index c.session-item.result (omega arith)) refl c.finish.ensures.finished;
  tree = λ opening h. c.finish.ensures.tree opening (c.loop-session.invariant.tree opening h);
  files = λ opening h. c.finish.ensures.files opening (c.loop-session.invariant.files opening h);
}

pub returns-clause-finished : goal.returns-clause-finished
returns-clause-finished g c = have_finished c.loop-session.session-index _ _ _ _ _ _ (omega arith) c.loop-session.invariant.finished
