use Rattle.std.proofs.Common.{◌≡◌, ◌++◌, ◌+◌, ◌≤◌, length, drop}
use Rattle.lower_model.specs.LowerTree.{AreEntries, root_path}
use Rattle.image_model.specs.ImageText.{entries}
use Rattle.lower_image.proofs.image_writer.put_entries.Given as goal

abbrev pub invariant-loop-node : goal.invariant-loop-node
invariant-loop-node l = record {
  count : l.number ≡ l.node-index + 1;
  deep : length l.path.items ≤ l.number;
  are : AreEntries l.path.items l.number (drop l.node-index l.nodes);
  out : l.out.items ++ entries l.path.items l.number (drop l.node-index l.nodes) ≡ l.fn.out.items ++ entries root_path 1 l.nodes;
}
