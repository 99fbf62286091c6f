use Rattle.std.proofs.Common.{◌≡◌, ℕ, ◌<◌, ◌≤◌, true}
use Rattle.open_file.specs.Buffered.{is_dirty}
use Rattle.open_file.proofs.buffers.mark.Given as goal

abbrev pub invariant-loop-n : goal.invariant-loop-n
invariant-loop-n l = record {
  marked : (j : ℕ) → l.first ≤ j → j < l.n → is_dirty l.dirty j ≡ true;
  below : (j : ℕ) → j < l.first → is_dirty l.dirty j ≡ is_dirty l.fn.dirty j;
  behind : (j : ℕ) → l.n ≤ j → is_dirty l.dirty j ≡ is_dirty l.fn.dirty j;
}
