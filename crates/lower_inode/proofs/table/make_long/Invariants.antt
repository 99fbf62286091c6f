use Rattle.std.proofs.Common.{◌≡◌, ◌≤◌, ◌-◌, ℕ, length, max, slice_get}
use Rattle.lower_inode.specs.Shards.{flat}
use Rattle.lower_inode.proofs.table.make_long.Given as goal

-- the table is no shorter, and no longer than it has to be, and no more files are open
abbrev pub invariant-loop-nodes : goal.invariant-loop-nodes
invariant-loop-nodes g l = record {
  least : length l.fn.nodes.items ≤ length l.nodes.items;
  most : length l.nodes.items ≤ max (length l.fn.nodes.items) l.len;
  same : (i : ℕ) → flat (slice_get l.nodes.items i) ≡ flat (slice_get l.fn.nodes.items i);
}

abbrev pub decreases-loop-nodes : goal.decreases-loop-nodes
decreases-loop-nodes g l = l.len - length l.nodes.items
