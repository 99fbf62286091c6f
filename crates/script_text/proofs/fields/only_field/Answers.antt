use Rattle.std.proofs.Common.{List, ℕ, Option, sym, ap, ◌∙◌}
use Rattle.std.specs.Option.{option_copied}
use Rattle.reading_model.specs.OpReading.{fields_behind, only_field}
use Rattle.reading_model.proofs.FieldReaders.{not_alone}
use Rattle.script_text.proofs.fields.only_field.Goals as goal

pub returns-in_default-Some : goal.returns-in_default-Some
returns-in_default-Some c =
    let none = not_alone c.in_ok-text.field-0.now c.first_field.result.0.now (option_copied c.first_field.result.1) _ (ap option_copied c.in_default-Some.is-1) c.first_field.ensures in
    sym (ap (λ (o : Option (List ℕ)). only_field (fields_behind o)) (ap option_copied c.in_ok-text.was) ∙ none)
