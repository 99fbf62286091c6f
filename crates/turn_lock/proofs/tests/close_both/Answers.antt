use Rattle.std.proofs.Common.{[], ◌∷◌, ◌++◌, ap, sym, ◌∙◌, subst}
use Rattle.turn_lock.specs.Turns.{HasEachSession}
use Rattle.turn_lock.proofs.Sessions.{both_sessions}
use Rattle.turn_lock.proofs.tests.close_both.Goals as goal

pub close-requires-clause-each_session : goal.close-requires-clause-each_session
close-requires-clause-each_session c =
    let second = c.args.second in
    let first = c.args.first in
    let is = c.in_ok-push-2.ensures.items ∙ ap (λ l. l ++ first ∷ []) (c.in_ok-push.ensures.items ∙ ap (λ l. l ++ second ∷ []) c.new-seats.ensures.items) in
    subst (λ n. HasEachSession n c.push-2.new.self.items) (sym c.requires.sessions) (both_sessions c.push-2.new.self.items second first is c.requires.second.1 c.requires.first.1)
