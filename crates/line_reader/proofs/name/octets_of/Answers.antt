use Rattle.std.proofs.Common.{sym, ◌∙◌}
use Rattle.std.proofs.lemmas.Bool.{eqb-true}
use Rattle.reading_model.specs.Fields.{octets_in}
use Rattle.reading_model.proofs.Words.{is_some}
use Rattle.reading_model.proofs.FieldsInARow.{octet_goes_on, octet_stops, octets_done}
use Rattle.line_reader.proofs.name.octets_of.Goals as goal

pub first_octet-requires : goal.first_octet-requires
first_octet-requires c = is_some _ (sym c.is_empty.ensures ∙ c.loop-rest-test.true)

pub returns-in_default : goal.returns-in_default
returns-in_default c = sym (octet_stops c.loop-rest.octets.items c.loop-rest.rest.now (octets_in c.args.text.now) c.in_default.ensures.octet c.loop-rest.invariant)

pub loop-rest-preserved : goal.loop-rest-preserved
loop-rest-preserved c =
    rw c.in_ok-push.ensures.items (octet_goes_on c.loop-rest.octets.items c.loop-rest.rest.now c.in-Some.octet c.in-Some.behind.now (octets_in c.args.text.now) c.in-Some.ensures.octet c.loop-rest.invariant)

pub returns : goal.returns
returns c = sym (octets_done c.loop-rest.octets.items c.loop-rest.rest.now (octets_in c.args.text.now) (eqb-true _ 0 (sym c.is_empty.ensures ∙ c.loop-rest-test.false)) c.loop-rest.invariant)
