use Rattle.std.proofs.Common.{ap, ◌∙◌}
use Rattle.tree_model.specs.Path.{slashed}
use Rattle.tree_model.proofs.PathLemmas.{slashed_again}
use Rattle.tree_model.proofs.path.Parts.octets.Goals as goal

pub returns-clause-octets : goal.returns-clause-octets
returns-clause-octets c = slashed_again c.self.inside.octets.now c.self.invariant ∙ ap slashed c.self.view_is
