use Rattle.std.proofs.Common.{sym, ◌∙◌}
use Rattle.std.specs.List.{slice_split}
use Rattle.reading_model.specs.Fields.{name_in, each_in}
use Rattle.reading_model.proofs.Cutting.{is_at}
use Rattle.reading_model.proofs.FieldsInARow.{field_goes_on, field_stops, field_ends, last_stops}
use Rattle.line_reader.proofs.path.names_of.Goals as goal

pub returns-in_default-2 : goal.returns-in_default-2
returns-in_default-2 c =
    sym (field_stops 47 name_in c.parts.path c.parts.rest.now c.in-Some.part.now c.in-Some.behind.now (each_in name_in (slice_split (is_at 47) c.args.text.now))
    (sym c.in-Some.ensures.cut) (sym c.in_ok-name.ensures ∙ c.in_default-2.is) c.parts.invariant.names)

pub parts-preserved : goal.parts-preserved
parts-preserved c = record {
  names =
      rw c.in_ok-push.ensures.ok (field_goes_on 47 name_in c.parts.path c.parts.rest.now c.in-Some.part.now c.in-Some.behind.now c.in-Some-2.name (each_in name_in (slice_split (is_at 47) c.args.text.now))
      (sym c.in-Some.ensures.cut) (sym c.in_ok-name.ensures ∙ c.in-Some-2.is) c.parts.invariant.names);
  room = c.clear.ensures.items;
}

pub returns-in_default-3 : goal.returns-in_default-3
returns-in_default-3 c =
    sym (last_stops 47 name_in c.parts.path c.parts.rest.now (each_in name_in (slice_split (is_at 47) c.args.text.now))
    (sym c.in_default.ensures.cut) (sym c.in_ok-name-2.ensures ∙ c.in_default-3.is) c.parts.invariant.names)

pub returns : goal.returns
returns c =
    rw c.in_ok-push-2.ensures.ok (sym (field_ends 47 name_in c.parts.path c.parts.rest.now c.in-Some-3.name (each_in name_in (slice_split (is_at 47) c.args.text.now))
    (sym c.in_default.ensures.cut) (sym c.in_ok-name-2.ensures ∙ c.in-Some-3.is) c.parts.invariant.names))
