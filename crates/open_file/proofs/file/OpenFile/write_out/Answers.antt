use Rattle.std.proofs.Common.{subst, sym}
use Rattle.file_model.specs.LaidOut.{LaidOut}
use Rattle.open_file.specs.Buffered.{Buffered, buffered_of, working_of}
use Rattle.open_file.proofs.Laid.{stays_laid}
use Rattle.open_file.proofs.Decoding.{out_of}
use Rattle.open_file.proofs.file.OpenFile.write_out.Goals as goal

pub returns-in_err-put_all-clause-laid : goal.returns-in_err-put_all-clause-laid
returns-in_err-put_all-clause-laid g c = λ told origin octets l.
    let held = g.B.LowerBodies.held in
    let format = g.F.BodyFormat.rules c.args.format.now in
    let e = c.in_err-put_all.ensures in
    stays_laid format origin c.args.node (held c.args.bodies.now) (held c.put_all.new.bodies) (buffered_of c.self.inside.buffers) (buffered_of c.put_all.new.file) octets c.self.invariant e.shaped e.room e.opened e.buffer
    (e.stands told origin) (subst (λ (f : Buffered _). LaidOut format origin (held c.args.bodies.now) c.args.node (working_of f) octets) (sym c.self.view_is) l)

pub returns-clause-laid : goal.returns-clause-laid
returns-clause-laid g c = λ told origin octets l.
    let held = g.B.LowerBodies.held in
    let format = g.F.BodyFormat.rules c.args.format.now in
    let e = c.in_ok-put_all.ensures in
    stays_laid format origin c.args.node (held c.args.bodies.now) (held c.put_all.new.bodies) (buffered_of c.self.inside.buffers) (buffered_of c.put_all.new.file) octets c.self.invariant e.shaped e.room e.opened e.buffer
    (e.stands told origin) (subst (λ (f : Buffered _). LaidOut format origin (held c.args.bodies.now) c.args.node (working_of f) octets) (sym c.self.view_is) l)

pub returns-clause-out : goal.returns-clause-out
returns-clause-out g c = λ told origin octets l.
    let held = g.B.LowerBodies.held in
    let format = g.F.BodyFormat.rules c.args.format.now in
    let e = c.in_ok-put_all.ensures in
    out_of format origin c.args.node (held c.args.bodies.now) (held c.put_all.new.bodies) (buffered_of c.self.inside.buffers) (buffered_of c.put_all.new.file) octets (g.met.F.BodyFormat.lawful c.args.format.now) c.self.invariant e.shaped
    e.opened e.buffer (e.stands told origin) e.clean (subst (λ (f : Buffered _). LaidOut format origin (held c.args.bodies.now) c.args.node (working_of f) octets) (sym c.self.view_is) l)
