-- What a replay of a job writes.
use Rattle.std.specs.Prelude.{◌≡◌}
use Rattle.job_model.specs.declared.job.Job.{Job}
use Rattle.served_model.specs.Served.{Maker, ServedInOrder, IsStuckInOrder}
use Rattle.mount_run.specs.declared.replay_output.ReplayOutput.{ReplayOutput}
use Rattle.mount_run.specs.declared.replay_output.ReplayOutput.TheVariants.{Report, Stuck}

-- the report that serves the job in the order of its schedule, with the image that came out; or the output of a run that a failure of the lower parts ended
abbrev pub Replays : Job → Maker → Maker → ReplayOutput → Type 0
Replays job before after (Report image text) = (served : ServedInOrder job before after text.items) × (image ≡ served.served.image)
Replays job before after (Stuck text) = IsStuckInOrder job before after text.items
