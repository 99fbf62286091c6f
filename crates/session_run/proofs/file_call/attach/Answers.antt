use Rattle.std.proofs.Common.{ap, sym, subst}
use Rattle.session_model.specs.Session.{Member}
use Rattle.session_run.specs.declared.rooms.CloseRooms.{CloseRooms}
use Rattle.session_run.specs.Rooms.{Fits}
use Rattle.session_run.proofs.Fitting.{fits_opened, fits_unopened}
use Rattle.session_run.proofs.Serving.{told_file}
use Rattle.session_run.proofs.file_call.attach.Goals as goal
use Rattle.session_run.proofs.file_call.attach.Goals.{in-Done, in_default-reply}

pub returns-clause-told : goal.returns-clause-told
returns-clause-told g c = told_file c.id.result c.op.result _ _ c.call-reply.result _ _ c.args.session.now _ c.id.ensures c.op.ensures c.call-reply.ensures.turn c.tell-2.ensures.told

pub returns-clause-fits : goal.returns-clause-fits
returns-clause-fits g c =
    let was = c.args.session.now.session in
    let is = c.tell-2.new.self.session in
    let goes = ap (λ (m : Member). m.session) c.tell-2.ensures.told in
    elim c.match-reply.branch [
      | in-Done w ↦
          let fits : Fits is.slots w.keep.new.self.links = fits_opened was is _ _ c.call-reply.result c.args.slot c.args.node c.requires.fits c.requires.waits goes w.in-Done.is w.keep.ensures.others w.keep.ensures.kept in
          subst (λ (rooms : CloseRooms). Fits is.slots rooms.links) (sym w.rooms-is) fits
      | in_default-reply w ↦
          let fits : Fits is.slots c.args.rooms.now.links = fits_unopened was is _ c.call-reply.result c.args.slot c.args.node c.requires.fits c.requires.waits goes w.in_default-reply.not-Done in
          subst (λ (rooms : CloseRooms). Fits is.slots rooms.links) (sym w.rooms-is) fits
    ]
