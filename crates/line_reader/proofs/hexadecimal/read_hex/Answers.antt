use Rattle.std.proofs.lemmas.Result.{IfOk-weaker}
use Rattle.reading_model.proofs.Readers.{reads}
use Rattle.reading_model.proofs.HexReader.{hex_reader}
use Rattle.line_reader.proofs.hexadecimal.read_hex.Goals as goal

pub returns-clause-reads : goal.returns-clause-reads
returns-clause-reads c = IfOk-weaker c.octets_of.result _ _ (λ found e. reads hex_reader c.args.text.now found e) c.octets_of.ensures
