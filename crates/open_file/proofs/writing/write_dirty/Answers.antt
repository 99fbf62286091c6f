use Rattle.std.proofs.Common.{◌≡◌, ◌∙◌, arith, false, sym}
use Rattle.std.proofs.lemmas.Bool.{false≢true}
use Rattle.open_file.specs.Buffered.{is_dirty}
use Rattle.open_file.proofs.Standing.{clean_below, cost_more, told_on, writes_on}
use Rattle.open_file.proofs.writing.write_dirty.Goals as goal

pub put_dirty-requires-clause-room : goal.put_dirty-requires-clause-room
put_dirty-requires-clause-room g c = omega (arith, c.requires.room, c.loop-number.invariant.writes.calls.body_room c.args.node)

pub returns-in_err-put_dirty-clause-stands : goal.returns-in_err-put_dirty-clause-stands
returns-in_err-put_dirty-clause-stands g c = λ origin mark len told s.
    let i = c.loop-number.invariant in
    c.in_err-put_dirty.ensures.stands origin mark len (told_on told i.writes.calls.told) (i.stands origin mark len told s)

pub returns-in_err-put_dirty-clause-calm : goal.returns-in_err-put_dirty-clause-calm
returns-in_err-put_dirty-clause-calm g c = λ all.
    absurd (false≢true (sym (c.in_err-put_dirty.ensures.calm (c.loop-number.invariant.rest c.loop-number.number (omega arith) ∙ all c.loop-number.number))))

pub loop-number-preserved : goal.loop-number-preserved
loop-number-preserved g c =
    let i = c.loop-number.invariant in
    let e = c.in_ok-put_dirty.ensures in
    let same : is_dirty c.loop-number.dirty.items c.loop-number.number ≡ is_dirty c.args.dirty.now.items c.loop-number.number = i.rest c.loop-number.number (omega arith) in
    record {
      marks = e.marks ∙ i.marks;
      writes = writes_on false c.args.node _ _ _ i.writes e.writes;
      stands = λ origin mark len told s. e.stands origin mark len (told_on told i.writes.calls.told) (i.stands origin mark len told s);
      clean = clean_below c.loop-number.dirty.items c.put_dirty.new.dirty.items c.loop-number.number i.clean e.clean e.same;
      rest = λ j h. e.same j (λ x. absurd (omega arith)) ∙ i.rest j (omega arith);
      quiet = λ all. e.quiet (same ∙ all c.loop-number.number) ∙ i.quiet all;
      steps = cost_more c.args.dirty.now.items c.loop-number.number _ c.put_dirty.new.steps c.loop-number.steps (omega (arith, c.loop-number-test.true)) i.steps (λ d. e.free (same ∙ d)) e.steps;
    }
