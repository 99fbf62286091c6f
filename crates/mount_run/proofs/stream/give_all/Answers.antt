use Rattle.std.proofs.Common.{arith, ◌∙◌}
use Rattle.std.proofs.lemmas.List.{take_rest, length-drop}
use Rattle.mount_run.proofs.Moves.{appends_on}
use Rattle.mount_run.proofs.stream.give_all.Goals as goal

pub loop-at-preserved : goal.loop-at-preserved
loop-at-preserved g c =
    let given = rw take_rest at c.in_ok-count.ensures.octets.2 in
    let count = rw take_rest at c.in_ok-count.ensures.octets.0 in
    record {
      calm = c.in_ok-count.ensures.counted ∙ c.loop-at.invariant.calm;
      given = appends_on _ _ _ c.loop-at.at c.in_ok-count.count c.args.octets.now c.loop-at.invariant.given given;
      within = omega (arith, count, length-drop c.loop-at.at c.args.octets.now, c.loop-at-test.true);
    }
