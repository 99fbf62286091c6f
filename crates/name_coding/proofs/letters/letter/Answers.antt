use Rattle.std.proofs.Common.{rules}
use Rattle.coding_model.specs.NameCoding.{letter}
use Rattle.name_coding.proofs.letters.letter.Goals as goal

pub returns : goal.returns
unfolding letter
returns c = search rules
