use Rattle.std.proofs.Common.{◌<◌, All, ap, sym, ◌∙◌, subst, arith}
use Rattle.turn_lock.specs.Steps.{HasAll, IsEndLog}
use Rattle.turn_lock.proofs.Holders.{some_is}
use Rattle.turn_lock.proofs.Seating.{ends}
use Rattle.turn_lock.proofs.lock.TurnLock.finish.Goals as goal

pub unreachable-requires : goal.unreachable-requires
unreachable-requires g c =
    let v = c.args.leader.me.0 in
    let some_session = c.self.invariant.2 in
    let sessions = ap (λ l. l.sessions) c.self.view_is in
    let count = c.requires.sessions.0 in
    let last = ends g.T.Logged.log g.T.Logged.session_of g.T.Logged.lawful c.self.inside.table.shared.key.value c.args.leader.id v _ _ c.take-last.result c.close_with-closed.ensures.values.2 c.requires.leader.2 (λ e. omega arith)
    (subst (λ n. HasAll n v) (sym count) c.requires.sessions.1) c.take-last.ensures.value in
    cc (last.there, c.in-None.is)

pub returns-clause-log : goal.returns-clause-log
returns-clause-log g c =
    let v = c.args.leader.me.0 in
    let some_session = c.self.invariant.2 in
    let sessions = ap (λ l. l.sessions) c.self.view_is in
    let count = c.requires.sessions.0 in
    let last = ends g.T.Logged.log g.T.Logged.session_of g.T.Logged.lawful c.self.inside.table.shared.key.value c.args.leader.id v _ _ c.take-last.result c.close_with-closed.ensures.values.2 c.requires.leader.2 (λ e. omega arith)
    (subst (λ n. HasAll n v) (sym count) c.requires.sessions.1) c.take-last.ensures.value in
    let same = some_is last.state c.in-Some.state (sym last.there ∙ c.in-Some.is) in
    subst (λ x. IsEndLog g.T.Logged.session_of v (g.T.Logged.log x)) same last.log

pub returns-clause-sessions : goal.returns-clause-sessions
returns-clause-sessions g c =
    let v = c.args.leader.me.0 in
    let some_session = c.self.invariant.2 in
    let sessions = ap (λ l. l.sessions) c.self.view_is in
    let count = c.requires.sessions.0 in
    let last = ends g.T.Logged.log g.T.Logged.session_of g.T.Logged.lawful c.self.inside.table.shared.key.value c.args.leader.id v _ _ c.take-last.result c.close_with-closed.ensures.values.2 c.requires.leader.2 (λ e. omega arith)
    (subst (λ n. HasAll n v) (sym count) c.requires.sessions.1) c.take-last.ensures.value in
    let same = some_is last.state c.in-Some.state (sym last.there ∙ c.in-Some.is) in
    subst (λ x. All (λ e. g.T.Logged.session_of e < c.args.self.sessions) (g.T.Logged.log x)) same
    (subst (λ n. All (λ e. g.T.Logged.session_of e < n) (g.T.Logged.log last.state)) count last.sessions)

pub returns-clause-lawful : goal.returns-clause-lawful
returns-clause-lawful g c =
    let v = c.args.leader.me.0 in
    let some_session = c.self.invariant.2 in
    let sessions = ap (λ l. l.sessions) c.self.view_is in
    let count = c.requires.sessions.0 in
    let last = ends g.T.Logged.log g.T.Logged.session_of g.T.Logged.lawful c.self.inside.table.shared.key.value c.args.leader.id v _ _ c.take-last.result c.close_with-closed.ensures.values.2 c.requires.leader.2 (λ e. omega arith)
    (subst (λ n. HasAll n v) (sym count) c.requires.sessions.1) c.take-last.ensures.value in
    let same = some_is last.state c.in-Some.state (sym last.there ∙ c.in-Some.is) in
    let opening = ap (λ l. l.opening) c.self.view_is in
    subst (λ o. g.T.Logged.lawful o c.in-Some.state) opening (subst (λ x. g.T.Logged.lawful c.self.inside.table.shared.key.value x) same last.lawful_state)
