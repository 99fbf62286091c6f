use Rattle.std.proofs.Common.{◌≡◌, ◌++◌, length, map}
use Rattle.line_writer.specs.Fields.{spaced}
use Rattle.served_model.specs.ReportText.{shown_field}
use Rattle.report_text.proofs.reply.put_names.Given as goal

abbrev pub invariant-loop-kind : goal.invariant-loop-kind
invariant-loop-kind l = l.out.items ++ spaced (map shown_field l.rest) ≡ l.fn.out.items ++ spaced (map shown_field l.initial.rest)

abbrev pub decreases-loop-kind : goal.decreases-loop-kind
decreases-loop-kind l = length l.rest
