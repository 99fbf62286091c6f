use Rattle.std.proofs.Common.{◌≡◌, ◌++◌, drop, map}
use Rattle.served_model.specs.ReportText.{sessions_text}
use Rattle.report_text.proofs.report.put_sessions.Given as goal

abbrev pub invariant-loop-number : goal.invariant-loop-number
invariant-loop-number l = l.out.items ++ sessions_text l.number (map (λ s. s.replies) (drop l.number l.sessions)) ≡ l.fn.out.items ++ sessions_text 0 (map (λ s. s.replies) l.sessions)
