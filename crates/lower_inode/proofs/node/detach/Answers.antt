use Rattle.std.proofs.Common.{Some, ap, refl, subst, sym, ◌∙◌}
use Rattle.session_model.specs.declared.file.FileCall.TheVariants.{Detach}
use Rattle.std.specs.Prelude.{not}
use Rattle.std.specs.List.{list_any}
use Rattle.file_model.specs.ByteFile.{is_attached, is_open_slot}
use Rattle.lower_inode.specs.Shards.{slots_at}
use Rattle.lower_inode.specs.NodeTurn.{IsNode}
use Rattle.lower_inode.proofs.Refusals.{refused_not_open}
use Rattle.lower_inode.proofs.Turns.{turn_detach_fault, turn_detach_last, turn_detach_one}
use Rattle.lower_inode.proofs.node.detach.Goals as goal

pub returns-in_default-clause-turn : goal.returns-in_default-clause-turn
returns-in_default-clause-turn g c = refused_not_open _ _ _ c.args.entry.now c.args.session (Detach c.args.slot) c.requires tt (ap (λ e. is_attached (slots_at e) c.args.session c.args.slot) c.in_default.is)

pub returns-then-not-is_open-clause-turn : goal.returns-then-not-is_open-clause-turn
returns-then-not-is_open-clause-turn g c = rw c.in-Some.is (refused_not_open _ _ _ (Some c.in-Some.opened) c.args.session (Detach c.args.slot) (subst (IsNode _ _) c.in-Some.is c.requires) tt
    (ap (λ ps. is_attached ps c.args.session c.args.slot) (sym c.deref.ensures.value) ∙ sym c.is_open.ensures ∙ c.if-not-is_open.true))

pub returns-then-has_other-clause-turn : goal.returns-then-has_other-clause-turn
returns-then-has_other-clause-turn g c = rw c.in-Some.is (turn_detach_one _ _ _ c.in-Some.opened (record { file = c.in-Some.opened.file; slots = c.remove_slot.new.slots }) _ _ (subst (IsNode _ _) c.in-Some.is c.requires)
    (ap (λ ps. is_attached ps c.args.session c.args.slot) (sym c.deref.ensures.value) ∙ sym c.is_open.ensures ∙ c.if-not-is_open.false)
    (ap (λ ps. list_any (λ open_slot. not (is_open_slot c.args.session c.args.slot open_slot)) ps) (sym c.deref-2.ensures.value) ∙ sym c.has_other.ensures ∙ c.if-has_other.true)
    refl c.remove_slot.ensures)

pub returns-in-Err-clause-turn : goal.returns-in-Err-clause-turn
returns-in-Err-clause-turn g c = rw c.in-Some.is (turn_detach_fault _ _ _ _ c.in-Some.opened c.write_out.new.self _ _ (subst (IsNode _ _) c.in-Some.is c.requires).1
    (ap (λ ps. is_attached ps c.args.session c.args.slot) (sym c.deref.ensures.value) ∙ sym c.is_open.ensures ∙ c.if-not-is_open.false)
    c.in-Err.ensures.writes c.in-Err.ensures.room c.in-Err.ensures.laid)

pub returns-clause-turn : goal.returns-clause-turn
returns-clause-turn g c = rw (c.in-Some.is, c.end.ensures) (turn_detach_last _ _ _ _ c.in-Some.opened c.write_out.new.self _ _
    (ap (λ ps. is_attached ps c.args.session c.args.slot) (sym c.deref.ensures.value) ∙ sym c.is_open.ensures ∙ c.if-not-is_open.false)
    (ap (λ ps. list_any (λ open_slot. not (is_open_slot c.args.session c.args.slot open_slot)) ps) (sym c.deref-2.ensures.value) ∙ sym c.has_other.ensures ∙ c.if-has_other.false)
    c.in-Ok.ensures.writes c.in-Ok.ensures.out)
