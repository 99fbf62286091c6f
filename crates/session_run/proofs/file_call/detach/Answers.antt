use Rattle.std.proofs.Common.{ap}
use Rattle.session_model.specs.declared.session.Answer.TheVariants as answers
use Rattle.session_model.specs.Session.{Member}
use Rattle.session_run.proofs.Fitting.{fits_closed}
use Rattle.session_run.proofs.Serving.{told_file}
use Rattle.session_run.proofs.file_call.detach.Goals as goal

pub returns-clause-told : goal.returns-clause-told
returns-clause-told g c = told_file c.id.result c.op.result _ _ c.call-reply.result _ _ c.args.session.now _ c.id.ensures c.op.ensures c.call-reply.ensures.turn c.tell-2.ensures.told

pub returns-clause-fits : goal.returns-clause-fits
returns-clause-fits g c =
    fits_closed c.args.session.now.session _ _ _ (answers.File c.call-reply.result) c.args.slot c.args.node c.requires.fits c.requires.waits (ap (λ (m : Member). m.session) c.tell-2.ensures.told) c.take.ensures.others
