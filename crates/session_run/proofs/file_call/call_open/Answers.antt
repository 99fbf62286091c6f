use Rattle.session_run.proofs.Serving.{told_file}
use Rattle.session_run.proofs.file_call.call_open.Goals as goal

pub returns-clause-told : goal.returns-clause-told
returns-clause-told g c = told_file c.id.result c.op.result _ _ c.call-reply.result _ _ c.args.session.now _ c.id.ensures c.op.ensures c.call-reply.ensures.turn c.tell-2.ensures.told
