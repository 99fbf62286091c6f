use Rattle.std.proofs.Common.{◌+◌, refl, arith}
use Rattle.std.proofs.lemmas.Option.{slice_get-get_or}
use Rattle.mounted_files.proofs.WritingOut.{out_one, still_shards, stuck_at}
use Rattle.mounted_files.proofs.shards.write_shards.Goals as goal

pub returns-in-Err-clause-shards : goal.returns-in-Err-clause-shards
returns-in-Err-clause-shards g c =
    let l = c.loop-store in
    still_shards g.B.LowerBodies.held g.F.BodyFormat.rules c.args.shards.now l.shards l.store _ _ l.invariant (slice_get-get_or l.shards l.store c.index-shards-store.result (omega (arith, c.loop-store-test.true, l.auto.shards))) c.write_out.ensures.index

pub returns-in-Err-clause-stuck : goal.returns-in-Err-clause-stuck
returns-in-Err-clause-stuck g c =
    let l = c.loop-store in
    stuck_at g.B.LowerBodies.held g.F.BodyFormat.rules c.args.shards.now l.shards l.store _ _ l.invariant (slice_get-get_or l.shards l.store c.index-shards-store.result (omega (arith, c.loop-store-test.true, l.auto.shards))) c.write_out.ensures.index
    (record { part = l.store + 1; before = c.in-Err.field-0.before; after = c.in-Err.field-0.after }) (omega (arith, c.loop-store-test.true, l.auto.shards, l.invariant.shards.all, c.requires.all)) refl c.in-Err.ensures.writes c.in-Err.ensures.fault

pub loop-store-preserved : goal.loop-store-preserved
loop-store-preserved g c =
    let l = c.loop-store in
    out_one g.B.LowerBodies.held g.F.BodyFormat.rules c.args.shards.now l.shards l.store _ _ l.invariant (slice_get-get_or l.shards l.store c.index-shards-store.result (omega (arith, c.loop-store-test.true, l.auto.shards))) c.write_out.ensures.index
    (record { writes = c.in-Ok.ensures.writes; whole = c.in-Ok.ensures.whole })
