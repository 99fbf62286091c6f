use Rattle.std.proofs.Common.{sym, ◌∙◌}
use Rattle.reading_model.proofs.NumberReader.{no_number, numeral_text, parsed}
use Rattle.line_reader.proofs.number.number_of.Goals as goal

pub returns-then-not-is_number : goal.returns-then-not-is_number
returns-then-not-is_number c = sym (no_number c.args.text.now (sym c.is_number.ensures ∙ c.if-not-is_number.true))

pub returns-in_default : goal.returns-in_default
returns-in_default c = absurd (c.in_default.ensures.cases.0 (numeral_text c.args.text.now (sym c.is_number.ensures ∙ c.if-not-is_number.false)))

pub returns : goal.returns
returns c =
    let same = c.in-Ok.ensures.cases.0 in
    let test = sym c.is_number.ensures ∙ c.if-not-is_number.false in
    c.ok.ensures.value ∙ parsed c.args.text.now c.parse.result test (rw same at c.parse.ensures.value.0)
