use Rattle.reading_model.proofs.Readers.{reads}
use Rattle.reading_model.proofs.HexReader.{sized_hex_reader}
use Rattle.line_reader.proofs.hexadecimal.read_hex_array.Goals as goal

pub returns-clause-reads : goal.returns-clause-reads
returns-clause-reads g c = reads (sized_hex_reader g.row.N) c.args.text.now c.array_of.result c.array_of.ensures
