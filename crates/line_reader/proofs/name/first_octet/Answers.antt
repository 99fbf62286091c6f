use Rattle.std.proofs.Common.{sym, ◌∙◌}
use Rattle.reading_model.proofs.NameReader.{plain_text, other_text}
use Rattle.line_reader.proofs.name.first_octet.Goals as goal

pub returns-then-is_plain-clause-octet : goal.returns-then-is_plain-clause-octet
returns-then-is_plain-clause-octet c = plain_text c.args.text.now c.requires (sym c.is_plain.ensures ∙ c.if-is_plain.true)

pub returns-else-first-eq37-clause-octet : goal.returns-else-first-eq37-clause-octet
returns-else-first-eq37-clause-octet c = other_text c.args.text.now c.requires (sym c.is_plain.ensures ∙ c.if-is_plain.false) c.if-first-eq37.false
