use Rattle.report_text.proofs.ItemFields.{item_line-parts}
use Rattle.report_text.proofs.show.put_show_item.Goals as goal

pub returns-clause-ok : goal.returns-clause-ok
returns-clause-ok c =
    rw (
      item_line-parts c.args.out.now.items c.args.item.now,
      ← c.kind_letter.ensures,
      ← c.in_ok-put_word.ensures.ok,
      ← c.in_ok-put_number_field.ensures.ok,
      ← c.in_ok-put_space.ensures.ok,
      ← c.in_ok-put_path_to.ensures.ok,
      ← c.in_ok-put_what.ensures.ok,
    ) c.put_line_end.ensures.ok
