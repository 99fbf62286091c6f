use Rattle.std.proofs.Common.{◌≡◌, ◌++◌, take}
use Rattle.tree_model.specs.Listing.{foreign_items}
use Rattle.tree_listing.specs.Adding.{path_at}
use Rattle.tree_listing.proofs.adding.add_foreign.Given as goal

abbrev pub invariant-loop-entry : goal.invariant-loop-entry
invariant-loop-entry l = l.items.items ≡ l.initial.items.items ++ foreign_items (path_at l.initial.items.items l.directory) (take l.entry-index l.foreign)
