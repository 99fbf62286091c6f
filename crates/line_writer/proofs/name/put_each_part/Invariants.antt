use Rattle.std.proofs.Common.{◌≡◌, ◌++◌, length}
use Rattle.std.specs.List.{flat_map}
use Rattle.octet_model.specs.Octets.{BeginsWith}
use Rattle.text_model.specs.Line.{slash_name}
use Rattle.line_writer.proofs.name.put_each_part.Given as goal

abbrev pub invariant-loop-name : goal.invariant-loop-name
invariant-loop-name l = record {
  names : l.out.items ++ flat_map slash_name l.rest ≡ l.fn.out.items ++ flat_map slash_name l.fn.parts;
  front : BeginsWith l.out.items l.fn.out.items;
}

abbrev pub decreases-loop-name : goal.decreases-loop-name
decreases-loop-name l = length l.rest
