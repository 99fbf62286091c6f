use Rattle.std.proofs.Common.{sym, ap, ◌∙◌}
use Rattle.reading_model.specs.Fields.{escaped_in}
use Rattle.reading_model.proofs.NameReader.{escaped_first, wrong_digits, few_digits}
use Rattle.line_reader.proofs.name.octet_behind_percent.Goals as goal

pub returns-then-text-lt2-clause-octet : goal.returns-then-text-lt2-clause-octet
returns-then-text-lt2-clause-octet c = few_digits c.args.text.now c.if-text-lt2.true

pub returns-in_default-clause-octet : goal.returns-in_default-clause-octet
returns-in_default-clause-octet c = wrong_digits c.args.text.now c.if-text-lt2.false (ap escaped_in (sym c.split_at.ensures.front) ∙ sym c.in_default.ensures)

pub returns-clause-octet : goal.returns-clause-octet
returns-clause-octet c =
    rw c.split_at.ensures.back (escaped_first c.args.text.now c.in-Some.octet c.if-text-lt2.false (ap escaped_in (sym c.split_at.ensures.front) ∙ sym c.in-Some.ensures))
