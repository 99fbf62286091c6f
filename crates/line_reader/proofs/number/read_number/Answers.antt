use Rattle.reading_model.proofs.Readers.{reads}
use Rattle.reading_model.proofs.NumberReader.{number_reader}
use Rattle.line_reader.proofs.number.read_number.Goals as goal

pub returns-clause-reads : goal.returns-clause-reads
returns-clause-reads c = reads number_reader c.args.text.now c.number_of.result c.number_of.ensures
