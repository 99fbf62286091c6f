use Rattle.opening_model.proofs.ByPath.{store_tree}
use Rattle.namespace.proofs.names.Names.end.Goals as goal

pub returns-clause-store : goal.returns-clause-store
returns-clause-store g c = rw (← c.self.view_is) (λ t. store_tree _ c.self.inside.state.tree c.self.inside.state.kept.items _ (c.self.invariant.keeps t) c.places-places.ensures.lawful)
