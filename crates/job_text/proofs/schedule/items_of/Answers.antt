use Rattle.std.proofs.Common.{sym}
use Rattle.std.specs.List.{slice_split}
use Rattle.reading_model.specs.Fields.{each_in}
use Rattle.reading_model.proofs.Cutting.{is_at}
use Rattle.reading_model.proofs.FieldsInARow.{field_goes_on, field_stops, field_ends, last_stops}
use Rattle.job_text.specs.JobReading.{item_in}
use Rattle.job_text.proofs.schedule.items_of.Goals as goal

pub returns-in_default-read_item : goal.returns-in_default-read_item
returns-in_default-read_item c =
    sym (field_stops 32 (item_in c.args.sessions) c.items.items c.items.rest.now c.in-Some.part.now c.in-Some.behind.now (each_in (item_in c.args.sessions) (slice_split (is_at 32) c.args.text.now))
    (sym c.in-Some.ensures.cut) (sym c.in_default-read_item.ensures) c.items.invariant)

pub items-preserved : goal.items-preserved
items-preserved c =
    rw c.in_ok-push.ensures.ok (field_goes_on 32 (item_in c.args.sessions) c.items.items c.items.rest.now c.in-Some.part.now c.in-Some.behind.now c.in-Some-read_item.item (each_in (item_in c.args.sessions) (slice_split (is_at 32) c.args.text.now))
    (sym c.in-Some.ensures.cut) (sym c.in-Some-read_item.ensures) c.items.invariant)

pub returns-in_default-read_item-2 : goal.returns-in_default-read_item-2
returns-in_default-read_item-2 c =
    sym (last_stops 32 (item_in c.args.sessions) c.items.items c.items.rest.now (each_in (item_in c.args.sessions) (slice_split (is_at 32) c.args.text.now))
    (sym c.in_default.ensures.cut) (sym c.in_default-read_item-2.ensures) c.items.invariant)

pub returns : goal.returns
returns c =
    rw c.in_ok-push-2.ensures.ok (sym (field_ends 32 (item_in c.args.sessions) c.items.items c.items.rest.now c.in-Some-read_item-2.item (each_in (item_in c.args.sessions) (slice_split (is_at 32) c.args.text.now))
    (sym c.in_default.ensures.cut) (sym c.in-Some-read_item-2.ensures) c.items.invariant))
