use Rattle.report_text.proofs.EntryFields.{entry_line-parts}
use Rattle.report_text.proofs.entry.put_entry_line.Goals as goal

pub returns : goal.returns
returns c =
    rw (
      entry_line-parts c.args.out.now.items c.args.entry.now,
      ← c.in_ok-put_turn.ensures {u = tt},
      ← c.in_ok-put_tree_call.ensures {u = tt},
      ← c.in_ok-put_word.ensures.ok,
      ← c.in_ok-put_tree_reply.ensures {u = tt},
    ) c.put_line_end.ensures.ok
