use Rattle.std.proofs.Common.{◌-◌, length}
use Rattle.tree_listing.specs.Adding.{path_at}
use Rattle.tree_listing.proofs.Items.{ListsUpTo}
use Rattle.tree_listing.proofs.adding.+add_directory.Given as goal

abbrev pub decreases-add_directory : goal.decreases-add_directory
decreases-add_directory l = length l.places.now - l.number

abbrev pub invariant-loop-entry : goal.invariant-loop-entry
invariant-loop-entry l = ListsUpTo l.places (path_at l.initial.items.items l.directory) l.dir l.entry-index l.initial.items.items l.items.items
