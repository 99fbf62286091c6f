use Rattle.report_text.proofs.EntryFields.{file_entry_line-parts}
use Rattle.report_text.proofs.file_entry.put_file_entry_line.Goals as goal

pub returns : goal.returns
returns c =
    rw (
      file_entry_line-parts c.args.out.now.items c.args.entry.now,
      ← c.in_ok-put_turn.ensures {u = tt},
      ← c.in_ok-put_file_call.ensures {u = tt},
      ← c.in_ok-put_word.ensures.ok,
      ← c.in_ok-put_file_reply.ensures {u = tt},
    ) c.put_line_end.ensures.ok
