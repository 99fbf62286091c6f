use Rattle.std.proofs.Common.{◌+◌, ◌^◌, ◌<◌, length, rules}
use Rattle.std.proofs.lemmas.Result.{err_from_is_err_and}
use Rattle.job_text.proofs.ImageCounts.{no_line, no_count, image_cut, image_sized}
use Rattle.job_text.proofs.image.image_of.Goals as goal

pub returns-in_err-text : goal.returns-in_err-text
returns-in_err-text c =
    let p = err_from_is_err_and c.from_residual.result c.from_residual.ensures.1 in
    rw (p.1, p.2) (no_line c.args.octets.now c.in_err-text.field-0.0 c.in_err-text.ensures)

pub returns-in_default : goal.returns-in_default
returns-in_default c = no_count c.args.octets.now c.in_ok-text.text.now c.in_ok-text.rest.now c.in_ok-text.ensures c.in_default.ensures

pub returns-then-rest-count : goal.returns-then-rest-count
returns-then-rest-count c = image_cut c.args.octets.now c.in_ok-text.text.now c.in_ok-text.rest.now c.in-Some.count c.in_ok-text.ensures c.in-Some.ensures c.if-rest-count.true

pub returns : goal.returns
returns c =
    let short : length c.in_ok-text.rest.now + 1 < 2 ^ 64 = search rules in
    rw (image_sized c.args.octets.now c.in_ok-text.text.now c.in_ok-text.rest.now c.in-Some.count c.in_ok-text.ensures c.in-Some.ensures c.if-rest-count.false short) c.sized_image_of.ensures
