use Rattle.std.proofs.lemmas.Result.{IfOk-weaker}
use Rattle.reading_model.proofs.Readers.{reads}
use Rattle.reading_model.proofs.PathReader.{path_reader}
use Rattle.line_reader.proofs.path.read_path.Goals as goal

pub returns-clause-reads : goal.returns-clause-reads
returns-clause-reads c = IfOk-weaker c.path_of.result _ _ (λ found e. reads path_reader c.args.text.now found e) c.path_of.ensures
