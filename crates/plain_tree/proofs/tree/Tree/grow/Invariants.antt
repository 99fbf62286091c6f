use Rattle.std.proofs.Common.{◌≡◌, ◌≤◌, ◌++◌, replicate}
use Rattle.std.specs.Prelude.{vec_capacity}
use Rattle.tree_model.specs.declared.place.Place.TheVariants.{Nothing}
use Rattle.tree_model.specs.PlainTree.{most_nodes}
use Rattle.plain_tree.proofs.tree.Tree.grow.Given as goal

abbrev pub invariant-loop : goal.invariant-loop
invariant-loop l = (l.self-inside.places.items ≡ l.initial.self-inside.places.items ++ replicate l.counter Nothing) × (most_nodes ≤ vec_capacity l.self-inside.places) × (l.self-inside.limit ≡ l.initial.self-inside.limit)
