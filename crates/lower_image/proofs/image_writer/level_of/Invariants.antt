use Rattle.std.proofs.Common.{◌≡◌, ◌+◌, drop}
use Rattle.lower_model.specs.LowerTree.{level_in}
use Rattle.lower_image.proofs.image_writer.level_of.Given as goal

abbrev pub invariant-loop-level : goal.invariant-loop-level
invariant-loop-level l = l.level + level_in (drop l.level l.path) l.parent ≡ level_in l.path l.parent
