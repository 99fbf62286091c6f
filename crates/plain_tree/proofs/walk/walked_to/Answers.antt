use Rattle.std.proofs.Common.{rules, Ok, Err, refl, ap, sym, ◌∙◌}
use Rattle.tree_model.specs.Walk.{◌>>=◌, walk, entry_of}
use Rattle.tree_model.proofs.Walks.{walk_last}
use Rattle.plain_tree.proofs.walk.walked_to.Goals as goal

pub returns-in_err-dir-clause-err : goal.returns-in_err-dir-clause-err
returns-in_err-dir-clause-err c = let e = walk_last c.args.places.now 0 c.args.above c.args.name.now in rw e (search rules)

pub returns-in_err-node-clause-err : goal.returns-in_err-node-clause-err
returns-in_err-node-clause-err c = let e = walk_last c.args.places.now 0 c.args.above c.args.name.now in rw e (search rules)

pub returns-clause-ok : goal.returns-clause-ok
returns-clause-ok c = let e = walk_last c.args.places.now 0 c.args.above c.args.name.now in rw e (search rules)
