use Rattle.std.proofs.Common.{◌≡◌, ◌*◌, ◌++◌, take, drop}
use Rattle.text_model.specs.Line.{hex}
use Rattle.line_writer.proofs.field.write_digits.Given as goal

abbrev pub invariant-loop-i : goal.invariant-loop-i
invariant-loop-i l = take (2 * l.i) l.digits ++ hex (drop l.i l.octets) ≡ hex l.octets
