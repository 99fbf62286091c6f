use Rattle.std.proofs.Common.{Err, inl, ap, sym, ◌∙◌}
use Rattle.mount_run.specs.declared.words.Command.TheVariants.{ForJob, Make}
use Rattle.mount_run.proofs.Commands.{told_job, told_make}
use Rattle.mount_run.proofs.Faultless.{done}
use Rattle.mount_run.proofs.run.run_alone.Goals as goal

pub returns-in_default-clause-job_is_done : goal.returns-in_default-clause-job_is_done
returns-in_default-clause-job_is_done g c = λ command octets job has text told calm quiet none. absurd (c.in_default.ensures (ForJob command) tt told)

pub returns-in_default-clause-make_is_done : goal.returns-in_default-clause-make_is_done
returns-in_default-clause-make_is_done g c = λ number lawful told quiet none. absurd (c.in_default.ensures (Make number) lawful told)

pub returns-in_default-clause-bad_job_is_refused : goal.returns-in_default-clause-bad_job_is_refused
returns-in_default-clause-bad_job_is_refused g c = λ command octets place has bad told calm quiet. absurd (c.in_default.ensures (ForJob command) tt told)

pub returns-in_default-clause-long_input_is_refused : goal.returns-in_default-clause-long_input_is_refused
returns-in_default-clause-long_input_is_refused g c = λ command octets has long told calm quiet. absurd (c.in_default.ensures (ForJob command) tt told)

pub returns-in-Err-Failed-clause-make_is_done : goal.returns-in-Err-Failed-clause-make_is_done
returns-in-Err-Failed-clause-make_is_done g c = λ number lawful told quiet none.
    let is = told_make c.in-Some.command number (sym c.in-Some.ensures.1 ∙ told) in
    absurd ((c.output_of.ensures.makes is.0 is.1).1 (c.in-Err-Failed.is ∙ ap Err c.in-Err-Failed.field-0-is))

pub returns-in-Ok-give_all-clause-job_is_done : goal.returns-in-Ok-give_all-clause-job_is_done
returns-in-Ok-give_all-clause-job_is_done g c = λ command octets job has text told calm quiet none.
    let is = told_job c.in-Some.command command (sym c.in-Some.ensures.1 ∙ told) in
    inl (done c.in-Some.command _ _ _ _ _ _ none c.in-Ok.ensures.does (c.in-Ok.ensures.every_job command octets job is has text))

pub returns-in-Ok-give_all-clause-make_is_done : goal.returns-in-Ok-give_all-clause-make_is_done
returns-in-Ok-give_all-clause-make_is_done g c = λ number lawful told quiet none.
    let is = told_make c.in-Some.command number (sym c.in-Some.ensures.1 ∙ told) in
    inl (done c.in-Some.command _ _ _ _ _ _ none c.in-Ok.ensures.does (c.in-Ok.ensures.every_make is.0 is.1))

pub returns-in-Ok-give_all-clause-bad_job_is_refused : goal.returns-in-Ok-give_all-clause-bad_job_is_refused
returns-in-Ok-give_all-clause-bad_job_is_refused g c = λ command octets place has bad told calm quiet.
    let is = told_job c.in-Some.command command (sym c.in-Some.ensures.1 ∙ told) in
    inl (c.in-Ok.ensures.every_bad command octets place is has bad)
