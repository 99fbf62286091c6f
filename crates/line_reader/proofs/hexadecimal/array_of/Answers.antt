use Rattle.std.proofs.Common.{◌≡◌, true, false, sym}
use Rattle.std.specs.List.{list_all}
use Rattle.reading_model.specs.Fields.{is_no_capital}
use Rattle.reading_model.proofs.HexReader.{sized_hex_in_none, sized_hex_in_value}
use Rattle.line_reader.proofs.hexadecimal.array_of.Goals as goal

pub returns-then-not-has_no_capital : goal.returns-then-not-has_no_capital
returns-then-not-has_no_capital g c =
    let none : list_all is_no_capital c.args.text.now ≡ false = cc in
    sym (sized_hex_in_none g.row.N c.args.text.now none)

pub returns : goal.returns
returns g c =
    let none : list_all is_no_capital c.args.text.now ≡ true = cc in
    rw (sized_hex_in_value g.row.N c.args.text.now none) cc
