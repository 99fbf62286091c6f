use Rattle.tree_model.proofs.PathLemmas.{tested}
use Rattle.tree_model.proofs.path.keeps_names.Goals as goal

pub returns-then-first-eq47 : goal.returns-then-first-eq47
returns-then-first-eq47 c = tested c.args.octets.now c.are_names.result c.in-len1-up.len_at_least c.if-first-eq47.true c.are_names.ensures
