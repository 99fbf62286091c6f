use Rattle.std.proofs.Common.{inl, inr, refl, subst}
use Rattle.mount_run.specs.Replays.{Replays}
use Rattle.mount_run.proofs.Making.{first_lawful, second_lawful, sums_up, stuck_at_second}
use Rattle.mount_run.proofs.make.make.Goals as goal

pub replay_job-requires : goal.replay_job-requires
replay_job-requires g c = record { lawful = first_lawful c.args.number (c.in_ok-job.job, c.in_ok-job.draws) c.in_ok-job.ensures }

pub replay_job-requires-2 : goal.replay_job-requires-2
replay_job-requires-2 g c =
    let first = subst (Replays c.in_ok-job.job _ _) c.in-Report.is c.in_ok-image.ensures in
    record { lawful = second_lawful c.args.number _ _ c.in-Report.text.items c.in-Report.image (c.in_ok-job.job, c.in_ok-job.draws) c.in_ok-job-2.job first c.in_ok-job-2.ensures }

pub returns-in-Report-2 : goal.returns-in-Report-2
returns-in-Report-2 g c =
    let first = subst (Replays c.in_ok-job.job _ _) c.in-Report.is c.in_ok-image.ensures in
    let second = subst (Replays c.in_ok-job-2.job _ _) c.in-Report-2.is c.in_ok-text.ensures in
    inl (
      refl,
      sums_up c.args.number _ _ c.in-Report.text.items c.in-Report.image _ _ c.in-Report-2.text.items (c.in_ok-job.job, c.in_ok-job.draws) c.in_ok-job-2.job c.in_ok-job.ensures first
          c.in_ok-job-2.ensures second.0 (rw (← c.image_length-length.ensures, ← c.deref.ensures.value) c.in_ok-write_summary-in-Report-2.ensures),
    )

pub returns : goal.returns
returns g c =
    let first = subst (Replays c.in_ok-job.job _ _) c.in-Report.is c.in_ok-image.ensures in
    let second = subst (Replays c.in_ok-job-2.job _ _) c.in-Stuck-2.is c.in_ok-text.ensures in
    inr (
      refl,
      inr (stuck_at_second c.args.number _ _ c.in-Report.text.items c.in-Report.image _ _ (c.in_ok-job.job, c.in_ok-job.draws) c.in_ok-job-2.job c.in_ok-job.ensures first
          c.in_ok-job-2.ensures second),
    )
