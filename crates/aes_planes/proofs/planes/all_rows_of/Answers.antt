use Rattle.std.proofs.Common.{◌≡◌}
use Rattle.aes_planes.specs.Planes.{by_rows, plane}
use Rattle.aes_planes.proofs.Lanes.{below_eight}
use Rattle.aes_planes.proofs.planes.all_rows_of.Goals as goal

pub returns : goal.returns
returns c m hm =
    below_eight (λ m. plane (record { p0 = c.rows_of-r0.result; p1 = c.rows_of-r1.result; p2 = c.rows_of-r2.result; p3 = c.rows_of-r3.result; p4 = c.rows_of-r4.result; p5 = c.rows_of-r5.result; p6 = c.rows_of-r6.result; p7 = c.rows_of-r7.result }) m ≡ by_rows (plane c.args.q m))
    c.rows_of-r0.ensures c.rows_of-r1.ensures c.rows_of-r2.ensures c.rows_of-r3.ensures
    c.rows_of-r4.ensures c.rows_of-r5.ensures c.rows_of-r6.ensures c.rows_of-r7.ensures m hm
