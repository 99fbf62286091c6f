use Rattle.std.proofs.Common.{◌≡◌, ◌++◌, take, map}
use Rattle.std.specs.List.{flat_map}
use Rattle.served_model.specs.ReportText.{file_entry_line}
use Rattle.report_text.proofs.files.put_file_entries.Given as goal

abbrev pub invariant-loop-entry : goal.invariant-loop-entry
invariant-loop-entry l = l.out.items ≡ l.fn.out.items ++ flat_map file_entry_line (map (λ e. e.now) (take l.entry-index l.log))
