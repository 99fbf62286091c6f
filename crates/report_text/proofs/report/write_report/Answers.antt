use Rattle.std.proofs.Common.{◌≡◌, ◌∙◌, ◌++◌, List, ap, ap₂, map}
use Rattle.session_model.specs.declared.entry.FileEntry.{FileEntry}
use Rattle.served_model.specs.ReportText.{sessions_text, tree_text, files_text, end_text, report_head}
use Rattle.served_model.proofs.FileNodes.{files_text-same}
use Rattle.report_text.proofs.ShardLogs.{entries_at-shard_logs}
use Rattle.report_text.proofs.report.write_report.Goals as goal

pub returns : goal.returns
returns c =
    λ log shards.
    let entries : List FileEntry = map (λ e. e.now) c.in_ok-file_entries.file_entries.items in
    let same : files_text entries ≡ files_text log =
    files_text-same entries log (λ node. c.in_ok-file_entries.ensures.same node ∙ entries_at-shard_logs c.args.file_logs.now log shards node) in
    let head = ap (λ out. out ++ report_head) c.in_ok-out.ensures.items in
    let sessions = ap (λ out. out ++ sessions_text 0 (map (λ s. s.replies) c.args.sessions.now)) (c.in_ok-put_report_head.ensures ∙ head) in
    let tree = ap₂ (λ out log. out ++ tree_text log) (c.in_ok-put_sessions.ensures ∙ sessions) (ap (map (λ e. e.now)) c.deref-3.ensures.value ∙ c.in_ok-tree_entries.ensures) in
    let files = ap₂ (λ out text. out ++ text) (c.in_ok-put_tree.ensures ∙ tree) (ap (λ entries. files_text (map (λ e. e.now) entries)) c.deref-4.ensures.value ∙ same) in
    c.in_ok-put_end.ensures ∙ ap (λ out. out ++ end_text c.args.end.now) (c.in_ok-put_files.ensures ∙ files)
