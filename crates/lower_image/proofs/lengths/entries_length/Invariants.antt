use Rattle.std.proofs.Common.{◌≡◌, ◌+◌, ◌*◌, ◌≤◌, drop}
use Rattle.std.specs.List.{AllByRecursion}
use Rattle.lower_image.proofs.EntryLengths.{FitsImage, octets_of}
use Rattle.lower_image.proofs.lengths.entries_length.Given as goal

abbrev pub invariant-loop-node : goal.invariant-loop-node
invariant-loop-node l = record {
  fit : AllByRecursion FitsImage (drop l.node-index l.nodes);
  total : l.total + octets_of (drop l.node-index l.nodes) ≡ octets_of l.nodes;
  bound : l.total ≤ l.node-index * 8589934592;
}
