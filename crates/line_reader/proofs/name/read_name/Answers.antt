use Rattle.std.proofs.lemmas.Result.{IfOk-weaker}
use Rattle.reading_model.proofs.Readers.{reads}
use Rattle.reading_model.proofs.NameReader.{name_reader}
use Rattle.line_reader.proofs.name.read_name.Goals as goal

pub returns-clause-reads : goal.returns-clause-reads
returns-clause-reads c = IfOk-weaker c.name_of.result _ _ (λ found e. reads name_reader c.args.text.now found e) c.name_of.ensures
