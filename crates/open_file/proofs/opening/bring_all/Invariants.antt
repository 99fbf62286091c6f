use Rattle.std.proofs.Common.{ℕ, ◌≡◌, ◌+◌, ◌*◌, ◌<◌, ◌≤◌, true, false, length}
use Rattle.body_model.specs.Format.{joined, plain_at}
use Rattle.open_file.specs.Calling.{AreReads}
use Rattle.open_file.proofs.opening.bring_all.Given as goal

abbrev pub invariant-loop-number : goal.invariant-loop-number
invariant-loop-number g l =
    let held = g.B.LowerBodies.held in
    record {
      reads : AreReads false (held l.fn.bodies) (held l.bodies);
      len : length l.buffer.items ≡ 4096 * l.number;
      pages : (held l.fn.bodies).told ≡ true → l.buffer.items
          ≡ joined (plain_at (g.F.BodyFormat.rules l.format) l.opened.key l.opened.data_start ((held l.fn.bodies).files l.node).body) l.number;
      long : (held l.fn.bodies).told ≡ true → (n : ℕ) → n < l.number
          → length (plain_at (g.F.BodyFormat.rules l.format) l.opened.key l.opened.data_start ((held l.fn.bodies).files l.node).body n) ≡ 4096;
      steps : l.steps ≤ l.initial.steps + 256 * l.number;
    }
