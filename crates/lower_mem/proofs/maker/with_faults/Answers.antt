use Rattle.std.proofs.Common.{◌≡◌, subst, arith}
use Rattle.lower_mem.proofs.Tallies.{Tallied, tallied_turn, tallied_all}
use Rattle.lower_mem.proofs.maker.with_faults.Goals as goal

pub loop-i-preserved : goal.loop-i-preserved
loop-i-preserved c =
    tallied_turn c.args.names.now c.args.bodies.now c.args.tallies c.loop-i.sums c.loop-i.i c.saturating_add-in-loop-i.result c.index-bodies-i.result c.loop-i.invariant c.loop-i-test.true c.requires c.index-bodies-i.is
    (rw c.faults-in-loop-i.ensures at c.saturating_add-in-loop-i.ensures)

pub returns : goal.returns
returns c =
    let last : c.loop-i.i ≡ 8 = omega (arith, c.loop-i.auto.i-end, c.loop-i-test.false) in
    tallied_all c.args.names.now c.args.bodies.now c.args.tallies c.loop-i.sums c.requires (subst (Tallied c.args.names.now c.args.bodies.now c.args.tallies c.loop-i.sums) last c.loop-i.invariant)
