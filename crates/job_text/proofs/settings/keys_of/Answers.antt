use Rattle.std.proofs.lemmas.Result.{err_from_is_err_and}
use Rattle.job_text.proofs.KeysRead.{keys_read, namesalt_fails}
use Rattle.job_text.proofs.settings.keys_of.Goals as goal

pub returns-in_err-namesalt : goal.returns-in_err-namesalt
returns-in_err-namesalt c =
    let p = err_from_is_err_and c.from_residual-in_err-namesalt.result c.from_residual-in_err-namesalt.ensures.1 in
    rw (p.1, p.2) (namesalt_fails c.args.octets.now c.in_ok-passphrase.passphrase c.in_ok-passphrase.rest.now c.in_ok-salt.salt c.in_ok-salt.rest.now c.in_err-namesalt.field-0.0 c.in_ok-passphrase.ensures c.in_ok-salt.ensures c.in_err-namesalt.ensures)

pub returns : goal.returns
returns c =
    keys_read c.args.octets.now c.in_ok-passphrase.passphrase c.in_ok-passphrase.rest.now c.in_ok-salt.salt c.in_ok-salt.rest.now c.in_ok-namesalt.namesalt c.in_ok-namesalt.rest.now c.in_ok-passphrase.ensures c.in_ok-salt.ensures c.in_ok-namesalt.ensures
