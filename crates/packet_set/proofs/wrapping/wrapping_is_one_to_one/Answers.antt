use Rattle.packet_model.proofs.FileKeys.{one_key, one_wrapping}
use Rattle.packet_set.proofs.wrapping.wrapping_is_one_to_one.Goals as goal

pub returns-clause-one_key : goal.returns-clause-one_key
returns-clause-one_key c = one_key

pub returns-clause-one_wrapping : goal.returns-clause-one_wrapping
returns-clause-one_wrapping c = one_wrapping
