use Rattle.open_file.proofs.Found.{found_new}
use Rattle.open_file.proofs.opening.make_new.Goals as goal

pub returns-in-Ok-reserve-clause-found : goal.returns-in-Ok-reserve-clause-found
returns-in-Ok-reserve-clause-found g c = λ file empty none.
    rw (c.in-Ok.ensures.new, c.new.ensures.items, c.new-in-Ok-reserve.ensures.items)
    (found_new (g.F.BodyFormat.rules c.args.format.now) c.args.node file (g.met.F.BodyFormat.lawful c.args.format.now) empty none)
