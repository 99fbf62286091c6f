use Rattle.std.proofs.Common.{◌≡◌, drop}
use Rattle.session_model.specs.Session.{first_open}
use Rattle.session.proofs.begin.first_open.Given as goal

abbrev pub invariant-loop-number : goal.invariant-loop-number
invariant-loop-number l = first_open l.number (drop l.number l.slots) ≡ first_open l.fn.from (drop l.fn.from l.slots)
