-- How a replay is reported.
use Rattle.std.specs.Prelude.{ℕ, ◌≡◌, List, map}
use Rattle.body_model.specs.Bodies.{HeldBodies}
use Rattle.lower_tree.specs.Held.{HeldNames}
use Rattle.lower_tree.specs.Making.{held_parts}
use Rattle.session_model.specs.declared.entry.FileEntry.{FileEntry}
use Rattle.file_model.specs.FileLog.{AreShardLogs}
use Rattle.served_model.specs.declared.end.ReportEnd.{ReportEnd}
use Rattle.served_model.specs.declared.end.ReportEnd.TheVariants as ends
use Rattle.served_model.specs.ReportText.{report_text}
use Rattle.served_model.specs.Served.{Maker}
use Rattle.turn_order.specs.declared.replaying.Replayed.{Replayed}
use Rattle.mount_run.specs.declared.replay_output.ReplayOutput.{ReplayOutput}
use Rattle.mount_run.specs.declared.replay_output.ReplayOutput.TheVariants.{Report, Stuck}
use Rattle.mount_run.specs.Mounted.{IsTakenDown}

-- This is the text of a report that ends so, with the image that it ends with, if it does.
abbrev pub IsReport : ReportEnd → List ℕ → ReplayOutput → Type 0
IsReport (ends.Image image) report (Report out text) = (text.items ≡ report) × (out ≡ image)
IsReport (ends.Stuck part first last) report (Stuck text) = text.items ≡ report
IsReport end report output = ⊥

-- The parts of a replay were given back to the maker, and the report tells the replies of its sessions, its logs, and how that ended.
pub record IsReported {N U B : Type 0} (held_names : N → HeldNames) (held : B → HeldBodies) (before after : Maker) (replayed : Replayed N U B) (output : ReplayOutput) : Type 0 where
  pub end : ReportEnd
  pub taken_down : IsTakenDown before after (held_parts held_names held replayed.names replayed.bodies.items) replayed.out end
  pub is_report : (log : List FileEntry) → AreShardLogs replayed.file_logs.items log
      → IsReport end (report_text (record { sessions = map (λ s. s.replies) replayed.sessions.items; histories = record { tree = replayed.tree_log; file = log }; end = end })) output
