use Rattle.std.proofs.Common.{◌≡◌, Some, sym, ◌∙◌}
use Rattle.std.specs.Prelude.{slice_get}
use Rattle.tree_model.specs.declared.change.Moving.{Moving}
use Rattle.tree_model.specs.IsTree.{node_in}
use Rattle.plain_tree.specs.Prepared.{CanMove}
use Rattle.lower_mem.proofs.Conditions.{may_move, was_there, shown_lawful}
use Rattle.lower_mem.proofs.Moved.{store_moved, foreign_moved}
use Rattle.lower_mem.proofs.changes.rename.Goals.{After-node_in-target}
use Rattle.lower_mem.proofs.changes.rename.Goals as goal

pub unreachable-requires : goal.unreachable-requires
unreachable-requires c =
    was_there c.args.tree.now.places c.args.from c.args.was.now c.args.to c.args.name.now c.requires.can (sym (rw c.places-places.ensures.places at c.node_in.ensures) ∙ c.in_default.is)

abbrev moving : After-node_in-target → Moving
moving c = record { from = c.args.from; was = c.args.was.now; node = c.in-Some.node; to = c.args.to; name = c.args.name.now; target = c.node_in-target.result }

shown : (c : After-node_in-target) → node_in (slice_get c.args.tree.now.places c.args.from) c.args.was.now ≡ Some c.in-Some.node
shown c = sym (rw c.places-places.ensures.places at c.node_in.ensures) ∙ c.in-Some.is

can : (c : After-node_in-target) → CanMove c.args.tree.now (moving c)
can c = may_move c.args.tree.now (moving c) c.places-places.ensures.lawful c.requires.foreign c.requires.limit c.requires.can (shown c) (sym (rw c.places-places.ensures.places at c.node_in-target.ensures))

pub from_slice-requires : goal.from_slice-requires
from_slice-requires c = shown_lawful c.args.tree.now.places c.places-places.ensures.lawful c.args.from c.args.was.now c.in-Some.node (shown (goal.at.from_slice-requires c).After-node_in-target)

pub change-requires-clause-may : goal.change-requires-clause-may
change-requires-clause-may c = rw (c.in_ok-was.ensures, c.in_ok-name.ensures, c.in_ok-from_slice.ensures) (can (goal.at.change-requires-clause-may c).After-node_in-target)

pub returns-clause-ok : goal.returns-clause-ok
returns-clause-ok c =
    let a = (goal.at.returns-clause-ok c).After-node_in-target in
    rw (c.change.ensures.tree, c.in_ok-was.ensures, c.in_ok-name.ensures, c.in_ok-from_slice.ensures) (store_moved c.args.tree.now (moving a) c.places-places.ensures.lawful (can a))

pub returns-clause-foreign : goal.returns-clause-foreign
returns-clause-foreign c =
    let a = (goal.at.returns-clause-foreign c).After-node_in-target in
    rw (c.change.ensures.tree, c.in_ok-was.ensures, c.in_ok-name.ensures, c.in_ok-from_slice.ensures) (foreign_moved c.args.tree.now (moving a) c.places-places.ensures.lawful (can a) c.requires.foreign)
