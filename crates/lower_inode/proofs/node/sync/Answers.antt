use Rattle.std.proofs.Common.{Some, ap, subst, sym, ◌∙◌}
use Rattle.body_model.specs.Bodies.{HeldBodies}
use Rattle.session_model.specs.declared.file.FileCall.TheVariants.{Sync}
use Rattle.file_model.specs.ByteFile.{is_attached}
use Rattle.lower_inode.specs.Shards.{slots_at}
use Rattle.lower_inode.specs.NodeTurn.{IsNode}
use Rattle.lower_inode.proofs.Refusals.{refused_not_open}
use Rattle.lower_inode.proofs.Turns.{turn_sync, turn_sync_fault}
use Rattle.lower_inode.proofs.node.sync.Goals as goal

pub returns-in_default-clause-turn : goal.returns-in_default-clause-turn
returns-in_default-clause-turn g c = refused_not_open _ _ _ c.args.entry.now c.args.session (Sync c.args.slot) c.requires tt (ap (λ e. is_attached (slots_at e) c.args.session c.args.slot) c.in_default.is)

pub returns-then-not-is_open-clause-turn : goal.returns-then-not-is_open-clause-turn
returns-then-not-is_open-clause-turn g c = rw c.in-Some.is (refused_not_open _ _ _ (Some c.in-Some.opened) c.args.session (Sync c.args.slot) (subst (IsNode _ _) c.in-Some.is c.requires) tt
    (ap (λ ps. is_attached ps c.args.session c.args.slot) (sym c.deref.ensures.value) ∙ sym c.is_open.ensures ∙ c.if-not-is_open.true))

pub returns-in-Ok-clause-turn : goal.returns-in-Ok-clause-turn
returns-in-Ok-clause-turn g c = rw c.in-Some.is (turn_sync _ _ _ _ c.in-Some.opened c.write_out.new.self _ _ (subst (IsNode _ _) c.in-Some.is c.requires).1
    (ap (λ ps. is_attached ps c.args.session c.args.slot) (sym c.deref.ensures.value) ∙ sym c.is_open.ensures ∙ c.if-not-is_open.false)
    c.in-Ok.ensures.writes c.in-Ok.ensures.room c.in-Ok.ensures.laid c.in-Ok.ensures.out c.in-Ok.ensures.unmarked (λ clean. ap (λ (h : HeldBodies). h.calls) (c.in-Ok.ensures.quiet clean).0))

pub returns-in-Err-clause-turn : goal.returns-in-Err-clause-turn
returns-in-Err-clause-turn g c = rw c.in-Some.is (turn_sync_fault _ _ _ _ c.in-Some.opened c.write_out.new.self _ _ (subst (IsNode _ _) c.in-Some.is c.requires).1
    (ap (λ ps. is_attached ps c.args.session c.args.slot) (sym c.deref.ensures.value) ∙ sym c.is_open.ensures ∙ c.if-not-is_open.false)
    c.in-Err.ensures.writes c.in-Err.ensures.room c.in-Err.ensures.laid (λ clean. ap (λ (h : HeldBodies). h.calls) (c.in-Err.ensures.quiet clean).0))
