use Rattle.std.proofs.Common.{take}
use Rattle.octet_model.specs.Octets.{BeginsWith}
use Rattle.octet_model.proofs.Fronts.{added_begins, begins_through}
use Rattle.text_model.specs.Line.{name}
use Rattle.line_writer.proofs.FieldLemmas.{after_error}
use Rattle.line_writer.proofs.name.put_name.Goals as goal

pub returns-in_err-put_octet-clause-err : goal.returns-in_err-put_octet-clause-err
returns-in_err-put_octet-clause-err c =
    after_error c.from_residual.result (BeginsWith c.put_octet.new.out.items c.args.out.now.items)
    (begins_through _ c.loop-c.out.items _ c.in_err-put_octet.ensures.err (added_begins _ _ (name (take c.loop-c.c-index c.args.octets.now)) c.loop-c.invariant))
