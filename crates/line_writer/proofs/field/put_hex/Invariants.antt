use Rattle.std.proofs.Common.{◌≡◌, ◌++◌}
use Rattle.octet_model.specs.Octets.{BeginsWith}
use Rattle.text_model.specs.Line.{hex}
use Rattle.line_writer.proofs.field.put_hex.Given as goal

abbrev pub invariant-loop-piece : goal.invariant-loop-piece
invariant-loop-piece l = record {
  digits : l.out.items ++ hex l.piece-iterator.rest.now ≡ l.fn.out.items ++ hex l.octets;
  size : l.piece-iterator.size ≡ 1024;
  front : BeginsWith l.out.items l.fn.out.items;
}
