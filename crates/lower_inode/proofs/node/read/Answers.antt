use Rattle.std.proofs.Common.{rules, ◌++◌, length, take, drop, ap, subst, sym, ◌∙◌, arith}
use Rattle.std.proofs.lemmas.List.{length-take}
use Rattle.session_model.specs.declared.file.FileCall.TheVariants.{Read}
use Rattle.file_model.specs.ByteFile.{is_attached}
use Rattle.lower_inode.specs.Shards.{slots_at}
use Rattle.lower_inode.specs.NodeTurn.{IsNode}
use Rattle.lower_inode.proofs.Refusals.{refused_not_open}
use Rattle.lower_inode.proofs.Turns.{front_of, turn_read}
use Rattle.lower_inode.proofs.node.read.Goals as goal

pub returns-in_default : goal.returns-in_default
returns-in_default g c = λ format held node shape. refused_not_open format held node c.args.entry.now c.args.session (Read c.args.slot c.args.at c.args.len) shape tt (ap (λ e. is_attached (slots_at e) c.args.session c.args.slot) c.in_default.is)

pub returns-then-not-is_open : goal.returns-then-not-is_open
returns-then-not-is_open g c = λ format held node shape. refused_not_open format held node c.args.entry.now c.args.session (Read c.args.slot c.args.at c.args.len) shape tt
    (ap (λ e. is_attached (slots_at e) c.args.session c.args.slot) c.in-Some.is ∙ ap (λ ps. is_attached ps c.args.session c.args.slot) (sym c.deref.ensures.value) ∙ sym c.is_open.ensures ∙ c.if-not-is_open.true)

pub returns : goal.returns
returns g c = λ format held node shape. rw c.in-Some.is (turn_read format held node c.in-Some.opened c.args.session c.args.slot c.args.at c.args.len c.from_vec.result (subst (IsNode held node) c.in-Some.is shape)
    (ap (λ ps. is_attached ps c.args.session c.args.slot) (sym c.deref.ensures.value) ∙ sym c.is_open.ensures ∙ c.if-not-is_open.false)
    (omega (arith, ap length (c.from_vec.ensures ∙ c.truncate.ensures.items), length-take c.read_front-count.result (take c.args.told.len (c.read_front-count.new.room ++ drop (length c.read_front-count.new.room) c.args.told.items)), c.read_front-count.ensures.most))
    (λ origin octets laid. c.from_vec.ensures ∙ c.truncate.ensures.items ∙ front_of c.read_front-count.result c.args.told.len c.read_front-count.new.room _ (search rules) (search rules) ∙ c.read_front-count.ensures.octets format origin held node octets laid))
