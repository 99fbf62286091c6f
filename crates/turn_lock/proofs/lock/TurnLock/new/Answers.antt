use Rattle.std.proofs.Common.{[], ◌∷◌, ◌++◌, Some, ap, ◌∙◌}
use Rattle.turn_lock.proofs.Seating.{opens_at}
use Rattle.turn_lock.proofs.lock.TurnLock.new.Goals as goal

pub new-requires : goal.new-requires
new-requires g c = opens_at g.T.Logged.log g.T.Logged.session_of g.T.Logged.lawful c.args.state c.of-opening.result.value c.push_reserved.new.self.items c.of-opening.ensures
    (c.push_reserved.ensures.items ∙ ap (λ l. l ++ Some c.args.state ∷ []) c.in-Ok-with_capacity.ensures.items) c.requires.empty c.requires.lawful
