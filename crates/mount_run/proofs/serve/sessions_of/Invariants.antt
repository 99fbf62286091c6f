use Rattle.std.proofs.Common.{◌≡◌}
use Rattle.session_model.specs.Walks.{members}
use Rattle.mount_run.proofs.serve.sessions_of.Given as goal

abbrev pub invariant-loop-script : goal.invariant-loop-script
invariant-loop-script l = l.sessions.items ≡ members 0 l.yielded
