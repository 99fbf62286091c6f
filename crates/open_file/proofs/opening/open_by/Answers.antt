use Rattle.std.proofs.Common.{Some, None}
use Rattle.open_file.proofs.Found.{bounds_of_opening}
use Rattle.open_file.proofs.opening.open_by.Goals as goal

pub returns-in-Some-clause-bounds : goal.returns-in-Some-clause-bounds
returns-in-Some-clause-bounds g c =
    bounds_of_opening (g.F.BodyFormat.rules c.args.format.now) c.args.head.now (Some c.as_slice.result.now) c.args.len c.open.result (g.met.F.BodyFormat.lawful c.args.format.now) c.open.ensures.opens

pub returns-in-None-clause-bounds : goal.returns-in-None-clause-bounds
returns-in-None-clause-bounds g c =
    bounds_of_opening (g.F.BodyFormat.rules c.args.format.now) c.args.head.now None c.args.len c.open-in-None.result (g.met.F.BodyFormat.lawful c.args.format.now) c.open-in-None.ensures.opens
