use Rattle.std.proofs.Common.{List, ℕ, ap, drop, length, subst, sym, take, ◌∙◌}
use Rattle.file_model.specs.LaidOut.{LaidOut}
use Rattle.open_file.specs.Buffered.{Buffered, buffered_of, working_of}
use Rattle.open_file.proofs.Laid.{laid_octets}
use Rattle.open_file.proofs.file.OpenFile.read.Goals as goal

pub returns-clause-octets : goal.returns-clause-octets
returns-clause-octets g c = λ format origin held node octets l.
    let f = c.self.inside.buffers in
    let same = laid_octets format origin held node (buffered_of f) octets c.self.invariant (subst (λ (x : Buffered _). LaidOut format origin held node (working_of x) octets) (sym c.self.view_is) l) in
    c.copy_out.ensures.octets ∙ ap (λ (xs : List ℕ). take (length c.args.to.now) (drop c.args.at (take f.opened.size xs))) c.deref.ensures.value
    ∙ ap (λ (xs : List ℕ). take (length c.args.to.now) (drop c.args.at xs)) (sym same)
