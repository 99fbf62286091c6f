use Rattle.std.proofs.Common.{length, arith}
use Rattle.packet_model.proofs.Sets.{pairs_again, pairs_take}
use Rattle.packet_set.proofs.spelled_sets.sets_are_read_as_spelled.Goals as goal

pub returns-clause-again : goal.returns-clause-again
returns-clause-again c = λ pairs offset octets is. pairs_again pairs (length octets) offset octets is (omega arith)

pub returns-clause-found : goal.returns-clause-found
returns-clause-found c = λ pairs offset octets fits e. pairs_take (length octets) offset octets pairs fits (omega arith) e
