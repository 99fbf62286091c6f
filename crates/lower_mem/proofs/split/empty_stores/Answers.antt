use Rattle.std.proofs.Common.{◌≡◌, subst, arith}
use Rattle.lower_mem.proofs.Storing.{Firsts, one_more, stored_none}
use Rattle.lower_mem.proofs.split.empty_stores.Goals as goal

pub loop-number-preserved : goal.loop-number-preserved
loop-number-preserved c = one_more c.args.changes.now c.args.reads.now c.loop-number.bodies.items c.loop-number.number c.new.result _ c.loop-number.invariant (rw (c.in_ok-own_changes.ensures, c.in_ok-own_reads.ensures) at c.new.ensures) c.in_ok-push.ensures.items

pub returns : goal.returns
returns c = (let last : c.loop-number.number ≡ 8 = omega (arith, c.loop-number.auto.number-end, c.loop-number-test.false) in
    stored_none c.args.changes.now c.args.reads.now c.loop-number.bodies.items (subst (Firsts c.args.changes.now c.args.reads.now c.loop-number.bodies.items) last c.loop-number.invariant))
