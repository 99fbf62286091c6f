use Rattle.std.proofs.Common.{sym, ◌∙◌}
use Rattle.lower_mem.proofs.Conditions.{MayRemove, may_remove, is_there}
use Rattle.lower_mem.proofs.Calls.{store_gone, foreign_gone}
use Rattle.lower_mem.proofs.changes.remove.Goals.{In-Some}
use Rattle.lower_mem.proofs.changes.remove.Goals as goal

pub unreachable-requires : goal.unreachable-requires
unreachable-requires c = is_there c.args.tree.now.places c.args.dir c.args.name.now c.requires.can (sym (rw c.places.ensures.places at c.node_in.ensures) ∙ c.in_default.is)

may : (c : In-Some) → MayRemove c.args.tree.now.places c.args.dir c.args.name.now c.in-Some.node
may c =
    may_remove c.args.tree.now.places c.args.dir c.args.name.now c.in-Some.node c.places.ensures.lawful c.requires.foreign c.requires.can
    (sym (rw c.places.ensures.places at c.node_in.ensures) ∙ c.in-Some.is)

pub from_slice-requires : goal.from_slice-requires
from_slice-requires c = (may (goal.at.from_slice-requires c).In-Some).lawful

pub change-requires-clause-may : goal.change-requires-clause-may
change-requires-clause-may c = (let m = may (goal.at.change-requires-clause-may c).In-Some in rw c.in_ok-name.ensures (record { there = m.there; bare = m.bare }))

pub returns-clause-ok : goal.returns-clause-ok
returns-clause-ok c = rw (c.change.ensures.tree, c.in_ok-name.ensures) (store_gone c.args.tree.now.places c.args.dir c.args.name.now c.in-Some.node c.places.ensures.lawful (may (goal.at.returns-clause-ok c).In-Some))

pub returns-clause-foreign : goal.returns-clause-foreign
returns-clause-foreign c = rw (c.change.ensures.tree, c.in_ok-name.ensures) (foreign_gone c.args.tree.now.places c.args.dir c.args.name.now c.in-Some.node c.places.ensures.lawful (may (goal.at.returns-clause-foreign c).In-Some) c.requires.foreign)
