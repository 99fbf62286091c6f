use Rattle.line_reader.proofs.Searching.{first_place}
use Rattle.line_reader.proofs.cut.index_of.Goals as goal

pub returns : goal.returns
returns c = record { value = first_place c.args.octet c.args.text.now c.memchr.result c.memchr.ensures }
