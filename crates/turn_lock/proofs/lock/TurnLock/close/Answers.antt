use Rattle.turn_lock.proofs.lock.TurnLock.close.Goals as goal

pub returns-clause-seats : goal.returns-clause-seats
returns-clause-seats g c = c.gather-leader.ensures.seats _ c.finish.ensures.log
