use Rattle.std.proofs.Common.{◌≡◌, take, map, flat_map}
use Rattle.report_text.proofs.files.entries_of_all.Given as goal

abbrev pub invariant-loop-log : goal.invariant-loop-log
invariant-loop-log l = map (λ e. e.now) l.entries.items ≡ flat_map (λ log. log) (take l.log-index l.logs)
