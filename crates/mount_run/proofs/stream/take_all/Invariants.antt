use Rattle.std.proofs.Common.{◌≡◌, ◌+◌, ◌-◌, ◌≤◌, length}
use Rattle.job_model.specs.declared.limits.TheConstants.{MOST_OCTETS}
use Rattle.std.specs.Io.KnownBytes.{Consumes}
use Rattle.mount_run.proofs.stream.take_all.Given as goal

abbrev pub invariant-loop-buffer : goal.invariant-loop-buffer
invariant-loop-buffer g l =
    let s = g.S.Source in record {
      calm : s.count l.input ≡ s.count l.fn.input;
      taken : Consumes (s.left l.fn.input) (s.left l.input) l.taken.items;
      most : length l.taken.items ≤ MOST_OCTETS + 1;
    }

abbrev pub decreases-loop-buffer : goal.decreases-loop-buffer
decreases-loop-buffer g l = MOST_OCTETS + 1 - length l.taken.items
