use Rattle.std.proofs.Common.{arith, ap}
use Rattle.std.proofs.lemmas.List.{drop_all}
use Rattle.lower_model.specs.LowerTree.{root_path}
use Rattle.lower_image.proofs.EntryLengths.{octets_of, AllByRecursion-entries, length-entries}
use Rattle.lower_image.proofs.lengths.entries_length.Goals as goal

pub loop-node-init : goal.loop-node-init
loop-node-init c = record { fit = AllByRecursion-entries root_path 1 c.args.nodes.now c.requires.entries; total = omega arith; bound = omega arith }

pub returns-clause-length : goal.returns-clause-length
returns-clause-length c =
    let none = ap octets_of (drop_all c.loop-node.node-index c.args.nodes.now c.loop-node-test.false) in
    omega (arith, c.loop-node.invariant.total, none, length-entries root_path 1 c.args.nodes.now)
