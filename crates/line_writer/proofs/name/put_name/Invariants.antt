use Rattle.std.proofs.Common.{◌≡◌, ◌++◌, take}
use Rattle.text_model.specs.Line.{name}
use Rattle.line_writer.proofs.name.put_name.Given as goal

abbrev pub invariant-loop-c : goal.invariant-loop-c
invariant-loop-c l = l.out.items ≡ l.fn.out.items ++ name (take l.c-index l.octets)
