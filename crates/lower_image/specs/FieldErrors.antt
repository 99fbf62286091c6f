-- What the functions that read parts of an image answer, against the reading of those parts.
use Rattle.std.specs.Prelude.{List, ◌++◌, Option, Some, None, Result, Ok}
use Rattle.answer_model.specs.Answer.{◌>>=◌, GivesAs}
use Rattle.lower_model.specs.declared.node.LowerNode.{LowerNode}
use Rattle.image_model.specs.ImageReading.{FieldFault, Field}
use Rattle.lower_image.specs.declared.error.FieldError.{FieldError}
use Rattle.lower_image.specs.declared.error.FieldError.TheVariants.{Fault, Memory}

-- the wrong field that an error tells; none for want of memory
abbrev pub wrong_field : FieldError → Option FieldFault
wrong_field (Fault left kind) = Some (record { left = left; kind = kind })
wrong_field Memory = None

-- what the reading gives, seen by view, unless memory ran out
abbrev pub Gives : {X Y : Type 0} → (X → Y) → Result X FieldError → Result Y FieldFault → Type 0
Gives view answer read = GivesAs view wrong_field (Unit {0}) answer read

-- what is read, behind these nodes
abbrev pub behind : List LowerNode → Field (List LowerNode) → Field (List LowerNode)
behind front read = read >>= λ x. Ok (front ++ x.0, x.1)
