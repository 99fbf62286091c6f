use Rattle.std.proofs.Common.{◌≡◌, ◌++◌, ◌∷◌, [], length, sym, subst, arith, ◌∙◌}
use Rattle.mounted_files.proofs.Opening.{AreOpened, opened_more}
use Rattle.mounted_files.proofs.shards.open_shards.Goals as goal

pub loop-store-preserved : goal.loop-store-preserved
loop-store-preserved g c =
    let l = c.loop-store in
    let e = c.new.ensures in
    let len : c.len-index.result ≡ length l.shards.items = omega (arith, c.len-index.ensures, l.shards.ok.0) in (
      subst (AreOpened g.B.LowerBodies.held g.F.BodyFormat.rules c.args.format (l.yielded ++ c.in-Some.store ∷ [])) (sym c.push_reserved.ensures.items)
          (opened_more g.B.LowerBodies.held g.F.BodyFormat.rules c.args.format l.yielded l.shards.items c.in-Some.store c.new.result l.invariant.0 (e.parts.0 ∙ len, e.parts.1, e.parts.2, e.parts.3) e.unused e.stands),
      omega (arith, c.push_reserved.ensures.capacity, l.invariant.1),
    )
