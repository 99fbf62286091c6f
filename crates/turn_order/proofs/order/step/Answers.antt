use Rattle.std.proofs.Common.{refl, arith}
use Rattle.std.proofs.lemmas.Option.{slice_get-get_or}
use Rattle.turn_order.proofs.Walking.{walked_one}
use Rattle.turn_order.proofs.order.step.Goals as goal

pub returns-clause-walked : goal.returns-clause-walked
returns-clause-walked g c =
    let all = c.args.sessions.now in
    walked_one _ c.args.k _ _ _ _ all _ _ _ (slice_get-get_or all c.args.k c.index-sessions-k.result (omega arith)) refl c.make_move-moved.ensures.done
