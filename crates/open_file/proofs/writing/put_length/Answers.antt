use Rattle.std.proofs.Common.{false, inl, inr, arith, sym, ◌∙◌, refl}
use Rattle.std.proofs.lemmas.Bool.{false≢true}
use Rattle.open_file.proofs.Standing.{stands_length}
use Rattle.open_file.proofs.writing.put_length.Goals as goal

pub returns-in_err-set_len-clause-stands : goal.returns-in_err-set_len-clause-stands
returns-in_err-set_len-clause-stands g c = λ format origin buffer pages metadata told s.
    let held = g.B.LowerBodies.held in
    let h = c.in_err-set_len.ensures.half told in
    elim h.0 [
      | inl r ↦ stands_length format origin ((held c.args.bodies.now).files c.args.node) ((held c.set_len.new.self).files c.args.node) c.args.opened.now buffer
          (record { pages = pages; metadata = metadata; len = c.args.mark.now }) c.args.mark.now _ c.requires.start (inl (omega (arith, c.div_ceil.ensures))) r h.1 (λ e. absurd (false≢true (sym e ∙ c.if-not-mark.false))) s
      | inr r ↦ stands_length format origin ((held c.args.bodies.now).files c.args.node) ((held c.set_len.new.self).files c.args.node) c.args.opened.now buffer
          (record { pages = pages; metadata = metadata; len = c.args.mark.now }) c.args.mark.now _ c.requires.start (inr refl) r h.1 (λ e. absurd (false≢true (sym e ∙ c.if-not-mark.false))) s
    ]

pub returns-clause-stands : goal.returns-clause-stands
returns-clause-stands g c = λ format origin buffer pages metadata told s.
    let held = g.B.LowerBodies.held in
    let r = c.in_ok-set_len.ensures.resized told in
    stands_length format origin ((held c.args.bodies.now).files c.args.node) ((held c.set_len.new.self).files c.args.node) c.args.opened.now buffer
    (record { pages = pages; metadata = metadata; len = c.args.mark.now }) false _ c.requires.start (inl (omega (arith, c.div_ceil.ensures))) r.0 r.1 (λ _. omega (arith, c.div_ceil.ensures)) s
