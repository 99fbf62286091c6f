use Rattle.std.proofs.Common.{◌≡◌, ap, ◌∙◌, sym, arith, false, length}
use borrow.Author.Count.{below_more}
use Rattle.body_model.specs.LowerFile.{LowerFile}
use Rattle.body_model.specs.Format.{plain_at}
use Rattle.open_file.proofs.Standing.{reads_on, told_on}
use Rattle.open_file.proofs.Extents.{joined_more}
use Rattle.open_file.proofs.opening.bring_all.Goals as goal

pub loop-number-preserved : goal.loop-number-preserved
loop-number-preserved g c =
    let i = c.loop-number.invariant in
    let e = c.in_ok-bring_page.ensures in
    let held = g.B.LowerBodies.held in
    let f = plain_at (g.F.BodyFormat.rules c.args.format.now) c.args.opened.now.key c.args.opened.now.data_start in
    record {
      reads = reads_on false _ _ _ i.reads e.reads;
      len = omega (arith, e.len, i.len);
      pages = λ told. e.page (told_on told i.reads.calls.told)
          ∙ joined_more _ c.loop-number.number _ _ (i.pages told) (ap (λ (file : LowerFile). f file.body c.loop-number.number) (i.reads.keeps told c.args.node));
      long = λ told. below_more (λ n. length (f ((held c.args.bodies.now).files c.args.node).body n) ≡ 4096) c.loop-number.number (i.long told)
          (ap (λ (file : LowerFile). length (f file.body c.loop-number.number)) (sym (i.reads.keeps told c.args.node)) ∙ e.long (told_on told i.reads.calls.told));
      steps = omega (arith, e.steps.1, i.steps);
    }
