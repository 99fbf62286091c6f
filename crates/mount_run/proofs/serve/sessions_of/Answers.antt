use Rattle.std.proofs.Common.{length, ap, ◌∙◌, arith}
use Rattle.std.proofs.lemmas.Iterator.Adapters.{YieldsList-from_vec}
use Rattle.std.proofs.lemmas.Iterator.Consumers.{YieldsList-turn}
use Rattle.session_model.specs.Session.{new_member}
use Rattle.mount_run.proofs.Sessions.{members_length, members_more}
use Rattle.mount_run.proofs.serve.sessions_of.Goals as goal

pub overflow_cast-number : goal.overflow_cast-number
overflow_cast-number c =
    let so_far = ap length c.loop-script.invariant ∙ members_length 0 c.loop-script.yielded in
    let turn = YieldsList-turn (YieldsList-from_vec {s = c.into_iter-script-iterator.result} c.args.scripts (cc) (cc)) c.loop-script.yielded c.loop-script.script-iterator c.loop-script.yielded_by c.next.result c.next.new.self c.in-Some.script c.in-Some.is c.next.ensures.steps in
    omega (arith, so_far, turn.0, c.len-number.ensures, c.requires.few)

pub loop-script-preserved : goal.loop-script-preserved
loop-script-preserved c =
    c.in_ok-push.ensures.items ∙ members_more c.loop-script.yielded c.in-Some.script c.loop-script.sessions.items c.len-number.result c.in_ok-new.field-0 c.loop-script.invariant (omega (arith, c.len-number.ensures, c.loop-script.sessions.ok.0))
    (c.in_ok-new.ensures ∙ ap (new_member c.len-number.result) (c.new.ensures ∙ c.into_vec.ensures))
