use Rattle.std.proofs.Common.{◌≡◌, ℕ, ◌+◌, ◌*◌, ◌<◌, ◌≤◌, Bool, false, drop, length}
use Rattle.file_model.specs.declared.mark.MetadataMark.{MetadataMark}
use Rattle.file_model.specs.LaidOut.{Origin}
use Rattle.open_file.specs.Buffered.{dirty_count, is_dirty}
use Rattle.open_file.specs.Calling.{AreWrites}
use Rattle.open_file.specs.Standing.{AllClean, StandsOn}
use Rattle.open_file.proofs.writing.write_dirty.Given as goal

abbrev pub invariant-loop-number : goal.invariant-loop-number
invariant-loop-number g l =
    let held = g.B.LowerBodies.held in
    record {
      marks : length l.dirty.items ≡ length l.fn.dirty.items;
      writes : AreWrites false l.node (held l.fn.bodies) (held l.bodies);
      stands : (origin : Origin) (mark : MetadataMark) (len : Bool) → StandsOn (g.F.BodyFormat.rules l.format) origin l.node (held l.fn.bodies) (held l.bodies) l.opened l.buffer
          (record { pages = l.fn.dirty.items; metadata = mark; len = len }) (record { pages = l.dirty.items; metadata = mark; len = len });
      clean : (j : ℕ) → j < l.number → is_dirty l.dirty.items j ≡ false;
      rest : (j : ℕ) → l.number ≤ j → is_dirty l.dirty.items j ≡ is_dirty l.fn.dirty.items j;
      quiet : AllClean l.fn.dirty.items → held l.bodies ≡ held l.fn.bodies;
      steps : l.steps + 256 * dirty_count (drop l.number l.fn.dirty.items) ≤ l.initial.steps + 256 * dirty_count l.fn.dirty.items;
    }
