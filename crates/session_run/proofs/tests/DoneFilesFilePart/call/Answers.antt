use Rattle.std.proofs.Common.{subst}
use Rattle.session_model.specs.declared.file.FileReply.{FileReply}
use Rattle.session_model.specs.declared.entry.FileEntry.{FileEntry}
use Rattle.file_model.specs.FileLog.{entries_in}
use Rattle.session_run.specs.Turn.{AddsFileTurn}
use Rattle.session_run.proofs.OneLog.{adds_in_one}
use Rattle.session_run.proofs.tests.DoneFilesFilePart.call.Goals as goal

pub returns-clause-turn : goal.returns-clause-turn
returns-clause-turn c =
    let e : FileEntry = record { session = c.args.session; op = c.args.op; node = c.args.node; call = c.args.call; reply = c.file_answers-logged.result.0; before = 0; after = 0 } in
    subst (λ (reply : FileReply). AddsFileTurn c.args.session c.args.op c.args.node c.args.call reply (λ shard. entries_in shard c.args.self.now.log) (λ shard. entries_in shard c.push.new.self)) c.file_answers-logged.ensures (adds_in_one e c.args.self.now.log c.push.new.self c.push.ensures)
