use Rattle.std.proofs.Common.{refl, ap, ◌∙◌, length, subst}
use Rattle.std.proofs.lemmas.Result.{on_ok_weaker, on_err_weaker}
use Rattle.body_model.specs.BodyCalls.{Writes}
use Rattle.body_model.specs.Format.{IsDataStart}
use Rattle.open_file.proofs.Standing.{fills, size_ok, size_torn, whole_ok, whole_torn}
use Rattle.open_file.proofs.writing.put_metadata.Goals as goal

pub returns-in-Size-Header-clause-ok : goal.returns-in-Size-Header-clause-ok
returns-in-Size-Header-clause-ok g c = on_ok_weaker c.write_at.result (λ w format origin buffer pages len told s.
    size_ok format origin _ _ c.args.opened.now buffer _ pages len _ _ c.in-Size-Header.is-1 refl c.in-Size-Header.is-0
    (subst (λ p. IsDataStart p c.args.opened.now.data_start) c.in-Size-Header.is-1 c.requires.start) c.to_be_bytes.ensures (w told).0 (w told).1 s) c.write_at.ensures.written

pub returns-in-Size-Header-clause-err : goal.returns-in-Size-Header-clause-err
returns-in-Size-Header-clause-err g c = on_err_weaker c.write_at.result (λ w format origin buffer pages len told s.
    size_torn format origin _ _ c.args.opened.now buffer pages len _ _ _ c.in-Size-Header.is-1 refl c.in-Size-Header.is-0
    (subst (λ p. IsDataStart p c.args.opened.now.data_start) c.in-Size-Header.is-1 c.requires.start) (ap length c.to_be_bytes.ensures) (w told).0 (w told).1 s) c.write_at.ensures.torn

pub returns-in-Whole-Header-clause-ok : goal.returns-in-Whole-Header-clause-ok
returns-in-Whole-Header-clause-ok g c = on_ok_weaker c.write_at-in-Whole-Header.result (λ w format origin buffer pages len told s.
    whole_ok format origin _ _ c.args.opened.now buffer pages len _ _ c.in-Whole-Header.is-1 refl c.in-Whole-Header.is-0
    (subst (λ p. IsDataStart p c.args.opened.now.data_start) c.in-Whole-Header.is-1 c.requires.start) (fills _ _ c.args.opened.now c.in-Whole-Header.is-1 c.in-Whole-Header.is-0 c.requires.kept)
    (subst (λ xs. Writes 0 xs ((g.B.LowerBodies.held c.args.bodies.now).files c.args.node).body ((g.B.LowerBodies.held c.write_at-in-Whole-Header.new.self).files c.args.node).body) c.as_slice.ensures (w told).0)
    (w told).1 s) c.write_at-in-Whole-Header.ensures.written

pub returns-in-Whole-Header-clause-err : goal.returns-in-Whole-Header-clause-err
returns-in-Whole-Header-clause-err g c = on_err_weaker c.write_at-in-Whole-Header.result (λ w format origin buffer pages len told s.
    whole_torn format origin _ _ c.args.opened.now buffer pages len _ _ _ c.in-Whole-Header.is-1 refl c.in-Whole-Header.is-0
    (ap length c.as_slice.ensures ∙ fills _ _ c.args.opened.now c.in-Whole-Header.is-1 c.in-Whole-Header.is-0 c.requires.kept)
    (w told).0 (w told).1 s) c.write_at-in-Whole-Header.ensures.torn
