use Rattle.std.proofs.Common.{Some, ap, subst, sym, ◌∙◌}
use Rattle.session_model.specs.declared.file.FileCall.TheVariants.{Truncate}
use Rattle.file_model.specs.ByteFile.{is_attached}
use Rattle.lower_inode.specs.Shards.{slots_at}
use Rattle.lower_inode.specs.NodeTurn.{IsNode}
use Rattle.lower_inode.proofs.Refusals.{refused_not_open}
use Rattle.lower_inode.proofs.Turns.{refused_too_big_truncate, turn_truncate_by}
use Rattle.lower_inode.proofs.node.truncate.Goals as goal

pub returns-in_default : goal.returns-in_default
returns-in_default g c = λ format lawful. refused_not_open format _ _ c.args.entry.now c.args.session (Truncate c.args.slot c.args.size) c.requires tt (ap (λ e. is_attached (slots_at e) c.args.session c.args.slot) c.in_default.is)

pub returns-then-not-is_open : goal.returns-then-not-is_open
returns-then-not-is_open g c = λ format lawful. rw c.in-Some.is (refused_not_open format _ _ (Some c.in-Some.opened) c.args.session (Truncate c.args.slot c.args.size) (subst (IsNode _ _) c.in-Some.is c.requires) tt
    (ap (λ ps. is_attached ps c.args.session c.args.slot) (sym c.deref.ensures.value) ∙ sym c.is_open.ensures ∙ c.if-not-is_open.true))

pub returns-then-size-gt-MAX_SIZE : goal.returns-then-size-gt-MAX_SIZE
returns-then-size-gt-MAX_SIZE g c = λ format lawful. rw c.in-Some.is (refused_too_big_truncate format _ _ c.in-Some.opened _ _ _ (subst (IsNode _ _) c.in-Some.is c.requires)
    (ap (λ ps. is_attached ps c.args.session c.args.slot) (sym c.deref.ensures.value) ∙ sym c.is_open.ensures ∙ c.if-not-is_open.false) c.if-size-gt-MAX_SIZE.true)

pub returns : goal.returns
returns g c = λ format lawful. rw (c.in-Some.is, c.change_reply.ensures) (turn_truncate_by format _ _ _ c.in-Some.opened c.truncate.new.self _ _ _ c.truncate.result lawful (subst (IsNode _ _) c.in-Some.is c.requires).1
    (ap (λ ps. is_attached ps c.args.session c.args.slot) (sym c.deref.ensures.value) ∙ sym c.is_open.ensures ∙ c.if-not-is_open.false)
    c.if-size-gt-MAX_SIZE.false c.truncate.ensures.room (c.truncate.ensures.reads, c.truncate.ensures.octets, c.truncate.ensures.err))
