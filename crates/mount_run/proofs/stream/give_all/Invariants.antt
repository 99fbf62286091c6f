use Rattle.std.proofs.Common.{◌≡◌, ◌≤◌, ◌-◌, length, take}
use Rattle.std.specs.Io.KnownBytes.{Appends}
use Rattle.mount_run.proofs.stream.give_all.Given as goal

abbrev pub invariant-loop-at : goal.invariant-loop-at
invariant-loop-at g l =
    let k = g.K.Sink in record {
      calm : k.count l.output ≡ k.count l.fn.output;
      given : Appends (k.written l.fn.output) (k.written l.output) (take l.at l.octets);
      within : l.at ≤ length l.octets;
    }

abbrev pub decreases-loop-at : goal.decreases-loop-at
decreases-loop-at g l = length l.octets - l.at
