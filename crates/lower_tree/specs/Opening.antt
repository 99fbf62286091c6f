-- What the opening of a file answers.
use Rattle.std.specs.Prelude.{ℕ, ◌≡◌, List, Option, Result, Ok, Err}
use Rattle.answer_model.specs.Answer.{◌>>=◌}
use Rattle.packet_model.specs.declared.cause.BadCause.{BadCause}
use Rattle.body_model.specs.declared.opened.Opened.{Opened}
use Rattle.body_model.specs.Format.{Format, meta_place_of, metadata_of, with_data}
use Rattle.lower_tree.specs.declared.format.OpenFault.{OpenFault}
use Rattle.lower_tree.specs.declared.format.OpenFault.TheVariants.{Bad, Memory}

-- what is opened of a file, by the head of its body, its attribute and the length of its body
abbrev pub opening_of : {K : Type 0} → Format K → List ℕ → Option (List ℕ) → ℕ → Result (Opened K) BadCause
opening_of format head attribute len = format.reads (meta_place_of attribute) (metadata_of head attribute) >>= with_data len

abbrev pub AnswersOpening : {K : Type 0} → Result (Opened K) OpenFault → Result (Opened K) BadCause → Type 0
AnswersOpening (Ok o) opening = opening ≡ Ok o
AnswersOpening (Err (Bad cause)) opening = opening ≡ Err cause
AnswersOpening (Err Memory) opening = Unit {0}
