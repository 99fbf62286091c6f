use Rattle.std.proofs.Common.{◌≡◌, ◌-◌}
use Rattle.job_text.specs.JobReading.{op_at, times_at}
use Rattle.job_text.proofs.PartsInARow.{with_front}
use Rattle.job_text.proofs.script.ops_of.Given as goal

abbrev pub invariant-loop : goal.invariant-loop
invariant-loop l = with_front l.ops (times_at op_at (l.count - l.counter) l.rest) ≡ times_at op_at l.count l.octets
