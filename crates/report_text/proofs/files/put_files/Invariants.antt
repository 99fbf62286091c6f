use Rattle.std.proofs.Common.{◌≡◌, ◌-◌, ◌≤◌, ◌++◌, length, drop, map}
use Rattle.served_model.specs.ReportText.{files_text}
use Rattle.report_text.proofs.files.put_files.Given as goal

abbrev pub invariant-loop-start : goal.invariant-loop-start
invariant-loop-start l = record {
  within : l.start ≤ length l.entries;
  text : l.out.items ++ files_text (map (λ e. e.now) (drop l.start l.entries)) ≡ l.fn.out.items ++ files_text (map (λ e. e.now) l.entries);
}

abbrev pub decreases-loop-start : goal.decreases-loop-start
decreases-loop-start l = length l.entries - l.start
