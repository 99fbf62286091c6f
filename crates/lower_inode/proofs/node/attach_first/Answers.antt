use Rattle.std.proofs.Common.{refl, ◌∙◌}
use Rattle.open_file.specs.Buffered.{octets_of}
use Rattle.lower_inode.proofs.Attaching.{turn_attach_cause, turn_attach_first}
use Rattle.lower_inode.proofs.node.attach_first.Goals as goal

pub returns-in-Ok-open-clause-turn : goal.returns-in-Ok-open-clause-turn
returns-in-Ok-open-clause-turn g c = rw (c.requires, c.put.ensures) (turn_attach_first _ _ _ _ (record { file = c.in-Ok-open.file; slots = c.push.new.self }) (octets_of c.in-Ok-open.file) _ _ (g.met.F.BodyFormat.lawful c.args.format.now)
    c.in-Ok-open.ensures.reads c.in-Ok-open.ensures.room (c.in-Ok.ensures.items ∙ rw c.new-slots.ensures.items refl)
    c.in-Ok-open.ensures.state c.in-Ok-open.ensures.origin c.in-Ok-open.ensures.laid c.in-Ok-open.ensures.unmarked)

pub returns-in-Err-Bad-clause-turn : goal.returns-in-Err-Bad-clause-turn
returns-in-Err-Bad-clause-turn g c = rw c.requires (turn_attach_cause _ _ _ _ c.in-Err-Bad.field-0 c.in-Err-Bad.cause _ _ c.in-Err-Bad.field-0-is c.in-Err-Bad.ensures.reads c.in-Err-Bad.ensures.cause)
