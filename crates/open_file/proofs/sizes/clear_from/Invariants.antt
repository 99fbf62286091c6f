use Rattle.std.proofs.Common.{◌≡◌, ℕ, ◌<◌, ◌≤◌, get_or}
use Rattle.open_file.proofs.sizes.clear_from.Given as goal

abbrev pub invariant-loop-at : goal.invariant-loop-at
invariant-loop-at l = record {
  same : (i : ℕ) → i < l.from → get_or l.buffer i 0 ≡ get_or l.fn.buffer i 0;
  zeros : (i : ℕ) → l.from ≤ i → i < l.at → get_or l.buffer i 0 ≡ 0;
}
