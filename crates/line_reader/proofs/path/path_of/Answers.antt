use Rattle.std.proofs.Common.{◌≡◌, get_or, sym, ◌∙◌}
use Rattle.std.proofs.lemmas.Result.{IfOk-weaker}
use Rattle.reading_model.proofs.PlainPaths.{plain_path}
use Rattle.line_reader.proofs.path.path_of.Goals as goal

pub returns-then-are_plain : goal.returns-then-are_plain
returns-then-are_plain c =
    let slash : get_or c.args.text.now 0 0 ≡ 47 = c.if-not-first.false in
    let some = sym c.is_empty.ensures ∙ c.if-is_empty.false in
    let plain = sym c.are_plain.ensures ∙ c.if-are_plain.true in
    IfOk-weaker c.from_octets.result _ _ (λ found is. plain_path c.args.text.now found c.in-len1-up.len_at_least slash some plain is) c.from_octets.ensures
