use Rattle.std.proofs.Common.{refl, subst}
use Rattle.lower_inode.specs.NodeTurn.{IsNode}
use Rattle.lower_inode.proofs.Attaching.{turn_attach_slot}
use Rattle.lower_inode.proofs.node.attach.Goals as goal

pub returns-in-Some-clause-turn : goal.returns-in-Some-clause-turn
returns-in-Some-clause-turn g c = rw c.in-Some.is (turn_attach_slot _ _ _ c.in-Some.opened (record { file = c.in-Some.opened.file; slots = c.add_slot.new.slots }) _ _ c.add_slot.result (subst (IsNode _ _) c.in-Some.is c.requires) refl c.add_slot.ensures)
