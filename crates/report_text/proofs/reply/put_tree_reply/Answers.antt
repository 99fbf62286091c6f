use Rattle.std.proofs.Common.{map, append_assoc}
use Rattle.std.specs.Prelude.{codes}
use Rattle.line_writer.proofs.FieldLemmas.{join_with_byte-cons}
use Rattle.served_model.specs.ReportText.{shown_field}
use Rattle.report_text.proofs.reply.put_tree_reply.Goals as goal

pub returns-in_ok-put_word-in-Names : goal.returns-in_ok-put_word-in-Names
returns-in_ok-put_word-in-Names c =
    let word = c.in_ok-put_word-in-Names.ensures.ok in
    rw (c.in-Names.is, join_with_byte-cons (codes "names") (map shown_field c.in-Names.names), ← append_assoc, ← word, ← c.entries.ensures) c.put_names.ensures
