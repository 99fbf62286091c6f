use Rattle.std.proofs.Common.{rules, length, take, ap, sym, ◌∙◌}
use Rattle.session_model.specs.declared.file.FileReply.TheVariants.{Octets}
use Rattle.lower_inode.proofs.Turns.{front_of}
use Rattle.lower_inode.proofs.shard.logged_reply.Goals as goal

pub returns-in-Octets : goal.returns-in-Octets
returns-in-Octets c =
    ap Octets (c.from_vec.ensures ∙ c.truncate.ensures.items ∙ front_of c.len.result c.args.room.len c.copy_front.new.room _ (search rules) (search rules)
    ∙ ap (λ n. take n c.copy_front.new.room) (c.len.ensures ∙ ap length (sym c.as_slice.ensures)) ∙ c.copy_front.ensures.front ∙ c.as_slice.ensures)
    ∙ sym c.in-Octets.is
