use Rattle.std.proofs.Common.{◌≡◌, length}
use Rattle.std.specs.List.{slice_split}
use Rattle.reading_model.specs.Fields.{each_in}
use Rattle.reading_model.proofs.Cutting.{is_at}
use Rattle.reading_model.proofs.FieldsInARow.{with_front}
use Rattle.job_text.specs.JobReading.{item_in}
use Rattle.job_text.proofs.schedule.items_of.Given as goal

abbrev pub invariant-items : goal.invariant-items
invariant-items l = with_front l.items (each_in (item_in l.sessions) (slice_split (is_at 32) l.rest)) ≡ each_in (item_in l.sessions) (slice_split (is_at 32) l.text)

abbrev pub decreases-items : goal.decreases-items
decreases-items l = length l.rest
