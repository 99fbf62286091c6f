use Rattle.std.proofs.Common.{◌≡◌, []}
use Rattle.turn_lock.specs.declared.holder.Phase.TheVariants.{Waiting}
use Rattle.turn_lock.proofs.steps.wait_turn.Given as goal

abbrev pub invariant-loop : goal.invariant-loop
invariant-loop g l = (l.place.table_id ≡ l.fn.place.table_id) × (l.place.me ≡ (record l.fn.place.me.0 { phase = Waiting l.ticket }, []))
