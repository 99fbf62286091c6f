use Rattle.std.proofs.Common.{◌≡◌, ◌+◌, ◌≤◌, ◌++◌, length, vec_capacity}
use Rattle.std.specs.Prelude.{map, reverse}
use Rattle.mounted_files.proofs.shards.end_shards.Given as goal

-- the stores and logs of the shards behind, which have their room
abbrev pub invariant-loop-shard : goal.invariant-loop-shard
invariant-loop-shard g l = record {
  bodies : l.bodies.items ++ map (λ s. s.bodies) (reverse l.shards.items) ≡ map (λ s. s.bodies) (reverse l.fn.shards.items);
  logs : l.logs.items ++ map (λ s. s.log) (reverse l.shards.items) ≡ map (λ s. s.log) (reverse l.fn.shards.items);
  bodies_room : length l.bodies.items + length l.shards.items ≤ vec_capacity l.bodies;
  logs_room : length l.logs.items + length l.shards.items ≤ vec_capacity l.logs;
}

abbrev pub decreases-loop-shard : goal.decreases-loop-shard
decreases-loop-shard g l = length l.shards.items
