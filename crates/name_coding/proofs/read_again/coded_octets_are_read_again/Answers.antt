use Rattle.std.proofs.Common.{arith}
use Rattle.coding_model.proofs.Decoding.{decoded-coded}
use Rattle.coding_model.proofs.ReadNames.{coded-decoded}
use Rattle.name_coding.proofs.read_again.coded_octets_are_read_again.Goals as goal

pub returns-clause-again : goal.returns-clause-again
returns-clause-again c = decoded-coded

pub returns-clause-only : goal.returns-clause-only
returns-clause-only c = coded-decoded

pub returns-clause-few : goal.returns-clause-few
returns-clause-few c = λ n. omega arith
