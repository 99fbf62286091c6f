use Rattle.std.proofs.Common.{List, map, subst, sym}
use Rattle.lower_tree.specs.Held.{file_at}
use Rattle.lower_mem.specs.Bodies.{BodiesInMemory, bodies_held, AllFit}
use Rattle.lower_mem.proofs.Parts.{tell_all}
use Rattle.lower_mem.proofs.maker.MemMakerLowerMaker.unite.Goals as goal

pub united_tree-requires-clause-fit : goal.united_tree-requires-clause-fit
united_tree-requires-clause-fit c =
    subst (λ (bodies : List BodiesInMemory). AllFit (file_at (map bodies_held bodies))) (sym c.deref_mut.ensures.value)
    (c.requires.allowed (tell_all c.args.parts.names c.args.parts.bodies.items c.requires.stores)).files
