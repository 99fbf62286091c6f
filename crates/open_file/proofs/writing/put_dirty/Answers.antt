use Rattle.std.proofs.lemmas.List.{get_or_default}
use Rattle.std.proofs.Common.{false, arith, sym, ◌∙◌}
use Rattle.open_file.proofs.Standing.{stands_torn, stands_written}
use Rattle.open_file.proofs.writing.put_dirty.Goals as goal

pub returns-in_err-put_page-clause-stands : goal.returns-in_err-put_page-clause-stands
returns-in_err-put_page-clause-stands g c = λ origin mark len told s.
    let t = c.in_err-put_page.ensures.torn told in
    stands_torn (g.F.BodyFormat.rules c.args.format.now) origin _ _ c.args.opened.now c.args.buffer.now (record { pages = c.args.dirty.now.items; metadata = mark; len = len }) c.args.number
    (omega (arith, c.requires.within, c.requires.marks)) c.requires.start
    (get_or_default c.args.dirty.now.items c.args.number false c.index.result.now c.requires.within ∙ sym c.index.ensures ∙ c.if-not-index.false) t.0 t.1 s

pub returns-clause-stands : goal.returns-clause-stands
returns-clause-stands g c = λ origin mark len told s.
    let w = c.in_ok-put_page.ensures.written in
    let t = w.written told in
    stands_written (g.F.BodyFormat.rules c.args.format.now) origin _ _ c.args.opened.now c.args.buffer.now w.sealed c.args.dirty.now.items mark len c.args.number c.requires.start
    c.requires.zeros (omega (arith, c.requires.within, c.requires.marks)) w.long w.plain t.0 t.1 s
