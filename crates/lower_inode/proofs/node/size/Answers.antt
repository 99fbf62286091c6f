use Rattle.std.proofs.Common.{ap, subst, sym, ◌∙◌}
use Rattle.session_model.specs.declared.file.FileCall.TheVariants.{Size}
use Rattle.file_model.specs.ByteFile.{is_attached}
use Rattle.lower_inode.specs.Shards.{slots_at}
use Rattle.lower_inode.specs.NodeTurn.{IsNode}
use Rattle.lower_inode.proofs.Refusals.{refused_not_open}
use Rattle.lower_inode.proofs.Turns.{turn_size}
use Rattle.lower_inode.proofs.node.size.Goals as goal

pub returns-in_default : goal.returns-in_default
returns-in_default g c = λ format held node shape. refused_not_open format held node c.args.entry.now c.args.session (Size c.args.slot) shape tt (ap (λ e. is_attached (slots_at e) c.args.session c.args.slot) c.in_default.is)

pub returns-then-not-is_open : goal.returns-then-not-is_open
returns-then-not-is_open g c = λ format held node shape. refused_not_open format held node c.args.entry.now c.args.session (Size c.args.slot) shape tt
    (ap (λ e. is_attached (slots_at e) c.args.session c.args.slot) c.in-Some.is ∙ ap (λ ps. is_attached ps c.args.session c.args.slot) (sym c.deref.ensures.value) ∙ sym c.is_open.ensures ∙ c.if-not-is_open.true)

pub returns : goal.returns
returns g c = λ format held node shape. rw (c.in-Some.is, c.size.ensures.size) (turn_size format held node c.in-Some.opened c.args.session c.args.slot (subst (IsNode held node) c.in-Some.is shape)
    (ap (λ ps. is_attached ps c.args.session c.args.slot) (sym c.deref.ensures.value) ∙ sym c.is_open.ensures ∙ c.if-not-is_open.false) (rw (sym c.size.ensures.size) c.size.ensures.most))
