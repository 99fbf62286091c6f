use Rattle.std.proofs.Common.{sym}
use Rattle.reading_model.proofs.Cutting.{split_more, split_last}
use Rattle.script_text.proofs.fields.first_field.Goals as goal

pub returns-in-Some : goal.returns-in-Some
returns-in-Some c = sym (split_more 32 c.args.text.now c.in-Some.field.now c.in-Some.behind.now (sym c.in-Some.ensures.cut))

pub returns-in-None : goal.returns-in-None
returns-in-None c = sym (split_last 32 c.args.text.now (sym c.in-None.ensures.cut))
