use Rattle.std.proofs.Common.{◌≡◌}
use Rattle.names_model.specs.declared.limits.TheConstants.{LONGEST_PLAIN_NAME}
use Rattle.lower_mem.proofs.ShownPlaces.{entered_places}
use Rattle.lower_mem.proofs.shown.shown_tree.Given as goal

abbrev pub invariant-loop-number : goal.invariant-loop-number
invariant-loop-number l = l.tree ≡ record { limit = LONGEST_PLAIN_NAME; places = entered_places l.number l.nodes }
