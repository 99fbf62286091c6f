use Rattle.std.proofs.Common.{◌∷◌, ◌++◌, [], ap, ◌∙◌, arith, length-append}
use Rattle.lower_mem.specs.Files.{FileInMemory}
use Rattle.lower_mem.specs.Bodies.{with_files}
use Rattle.lower_mem.proofs.Storing.{stored_next}
use Rattle.lower_mem.proofs.split.stores_of.Goals as goal

pub loop-node-preserved : goal.loop-node-preserved
loop-node-preserved c =
    let b = c.index_mut.result.now in (
      omega (arith, c.loop-node.invariant.0, length-append c.loop-node.yielded (c.in-Some.node ∷ [])),
      stored_next c.args.changes.now c.args.reads.now c.loop-node.yielded c.loop-node.bodies.items c.loop-node.invariant.1 c.in-Some.node c.loop-node.number c.loop-node.invariant.0 b c.push.new.self c.index_mut.ensures.value
          (c.in_ok-push.ensures.ok ∙ ap (λ (f : FileInMemory). with_files (b.files ++ f ∷ []) b) c.new-file.ensures),
    )
