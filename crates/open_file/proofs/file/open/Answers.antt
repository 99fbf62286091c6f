use Rattle.std.proofs.Common.{subst, sym}
use Rattle.body_model.specs.LowerFile.{LowerFile}
use Rattle.file_model.specs.LaidOut.{origin_of}
use Rattle.open_file.specs.Buffered.{buffered_of, working_of}
use Rattle.open_file.specs.Standing.{FileStands}
use Rattle.open_file.proofs.Laid.{laid_out}
use Rattle.open_file.proofs.Decoding.{unmarked_of}
use Rattle.open_file.proofs.file.open.Goals as goal

pub returns-in-Ok-clause-laid : goal.returns-in-Ok-clause-laid
returns-in-Ok-clause-laid g c = λ told.
    let held = g.B.LowerBodies.held in
    let format = g.F.BodyFormat.rules c.args.format.now in
    let f = buffered_of c.in-Ok.buffers in
    let e = c.in-Ok.ensures in
    let origin = origin_of ((held c.args.bodies.now).files c.args.node) (working_of f) in
    laid_out format origin (held c.open_buffers.new.bodies) c.args.node f e.shaped e.room (subst (λ (file : LowerFile). FileStands format origin file f) (sym (e.reads.keeps told c.args.node)) (e.found told).stands)

pub returns-in-Ok-clause-unmarked : goal.returns-in-Ok-clause-unmarked
returns-in-Ok-clause-unmarked g c = λ told some. unmarked_of (buffered_of c.in-Ok.buffers) ((c.in-Ok.ensures.found told).unmarked some)
