use Rattle.std.proofs.Common.{ℕ, ◌-◌, ◌^◌, min, Some, sym, ap, ◌∙◌}
use Rattle.std.specs.Option.{option_map}
use Rattle.reading_model.proofs.NumberReader.{no_number_of_any_size, numeral_text, saturates}
use Rattle.line_reader.proofs.number.read_saturated.Goals as goal

pub returns-then-not-is_number : goal.returns-then-not-is_number
returns-then-not-is_number c = ap (option_map (λ (n : ℕ). min n (2 ^ 64 - 1))) (sym (no_number_of_any_size c.args.text.now (sym c.is_number.ensures ∙ c.if-not-is_number.true)))

pub returns-in_default : goal.returns-in_default
returns-in_default c = absurd (c.in_default.ensures.cases.0 (numeral_text c.args.text.now (sym c.is_number.ensures ∙ c.if-not-is_number.false)))

pub returns : goal.returns
returns c =
    let same = c.in-Ok.ensures.cases.0 in
    let test = sym c.is_number.ensures ∙ c.if-not-is_number.false in
    ap Some c.unwrap_or.ensures ∙ saturates c.args.text.now c.parse.result test (rw same at c.parse.ensures.value.0)
