use Rattle.std.proofs.Common.{◌≡◌, ◌-◌, length}
use Rattle.job_text.specs.JobReading.{script_at, times_at}
use Rattle.job_text.proofs.PartsInARow.{with_front}
use Rattle.job_text.proofs.script.sessions_of.Given as goal

abbrev pub invariant-loop : goal.invariant-loop
invariant-loop l = record {
  read : with_front l.scripts (times_at script_at (l.count - l.counter) l.rest) ≡ times_at script_at l.count l.octets;
  count : length l.scripts ≡ l.counter;
}
