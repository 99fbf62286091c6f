use Rattle.coding_model.proofs.CodedNames.{coded_name_again, written_is_coded}
use Rattle.coding_model.proofs.ReadNames.{read_is_coded}
use Rattle.name_tag70.proofs.read_again.coded_names_are_read_again.Goals as goal

pub returns-clause-again : goal.returns-clause-again
returns-clause-again c = coded_name_again

pub returns-clause-only : goal.returns-clause-only
returns-clause-only c = read_is_coded

pub returns-clause-written : goal.returns-clause-written
returns-clause-written c = written_is_coded
