use Rattle.std.proofs.Common.{◌≡◌, ◌-◌, ◌+◌, ◌∷◌, []}
use Rattle.lower_model.specs.LowerTree.{root_path}
use Rattle.image_model.specs.ImageText.{root}
use Rattle.image_model.specs.ImageReading.{entries_at}
use Rattle.lower_image.specs.FieldErrors.{behind}
use Rattle.lower_image.proofs.image_reader.entries_of.Given as goal

abbrev pub invariant-loop-number : goal.invariant-loop-number
invariant-loop-number l = behind l.nodes.items (entries_at (l.count - l.number) l.path.items (l.number + 1) l.rest) ≡ behind (root ∷ []) (entries_at l.count root_path 1 l.octets)
