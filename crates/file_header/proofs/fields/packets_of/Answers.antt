use Rattle.std.proofs.Common.{drop, sym, ◌∙◌, arith}
use Rattle.std.proofs.lemmas.List.{take_rest, take_all, length-drop}
use Rattle.file_header.proofs.fields.packets_of.Goals as goal

pub returns-then-octets-lt-SET_END : goal.returns-then-octets-lt-SET_END
returns-then-octets-lt-SET_END c =
    let octets = c.args.octets.now in
    take_rest octets 26 ∙ sym (take_all 4070 (drop 26 octets) (omega (arith, length-drop 26 octets, c.if-octets-lt-SET_END.true)))
