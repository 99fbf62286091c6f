use Rattle.std.proofs.Common.{◌≡◌, true, false, sym}
use Rattle.std.specs.List.{list_all}
use Rattle.reading_model.specs.Fields.{is_no_capital}
use Rattle.reading_model.proofs.HexReader.{hex_in_none, hex_in_value}
use Rattle.line_reader.proofs.hexadecimal.octets_of.Goals as goal

pub returns-then-not-has_no_capital : goal.returns-then-not-has_no_capital
returns-then-not-has_no_capital c =
    let none : list_all is_no_capital c.args.text.now ≡ false = cc in
    sym (hex_in_none c.args.text.now none)

pub returns-in-Ok : goal.returns-in-Ok
returns-in-Ok c =
    let none : list_all is_no_capital c.args.text.now ≡ true = cc in
    rw (hex_in_value c.args.text.now none, c.in-Ok.ensures.ok) cc
