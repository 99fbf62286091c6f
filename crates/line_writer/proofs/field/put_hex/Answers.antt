use Rattle.std.proofs.Common.{rules, ◌++◌, sym, ap, ◌∙◌}
use Rattle.octet_model.specs.Octets.{BeginsWith}
use Rattle.octet_model.proofs.Fronts.{same_begins, added_begins, begins_through}
use Rattle.text_model.specs.Line.{hex}
use Rattle.line_writer.proofs.FieldLemmas.{after_error}
use Rattle.line_writer.proofs.Hex.{hex-more, hex-none}
use Rattle.line_writer.proofs.field.put_hex.Goals as goal

pub loop-piece-init : goal.loop-piece-init
loop-piece-init c = record { digits = search rules; size = search rules; front = same_begins _ }

pub loop-piece-preserved : goal.loop-piece-preserved
loop-piece-preserved c =
    let out = c.loop-piece.out.items in
    let rest = c.next.new.self.rest.now in
    let steps = c.in-Some.ensures.steps in
    record {
      digits = ap (λ o. o ++ hex rest) c.in_ok-put_hex_piece.ensures.ok ∙ hex-more out c.in-Some.piece.now rest ∙ ap (λ r. out ++ hex r) (sym steps.1.0) ∙ c.loop-piece.invariant.digits;
      size = steps.0 ∙ c.loop-piece.invariant.size;
      front = begins_through _ out _ (added_begins _ out (hex c.in-Some.piece.now) c.in_ok-put_hex_piece.ensures.ok) c.loop-piece.invariant.front;
    }

pub returns-in_err-put_hex_piece-clause-err : goal.returns-in_err-put_hex_piece-clause-err
returns-in_err-put_hex_piece-clause-err c =
    after_error c.from_residual.result (BeginsWith c.put_hex_piece.new.out.items c.args.out.now.items) (rw c.in_err-put_hex_piece.ensures.err c.loop-piece.invariant.front)

pub returns-clause-ok : goal.returns-clause-ok
returns-clause-ok c = sym (hex-none c.loop-piece.out.items c.loop-piece.piece-iterator.rest.now c.in-None.ensures.steps.1.0) ∙ c.loop-piece.invariant.digits
