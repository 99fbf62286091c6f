-- What the exit statuses are called.
use Rattle.std.specs.Prelude.{ℕ, List, codes, ◌==◌, if◌then◌else◌}
use Rattle.mount_run.specs.declared.status.TheConstants.{OK, MEMORY, USAGE, BAD_JOB, READ_FAULT, WRITE_FAULT, LOWER_FAULT, TOO_LONG}

abbrev pub status_word : ℕ → List ℕ
status_word status =
    if status == OK then codes "ok" else
    if status == MEMORY then codes "memory" else
    if status == USAGE then codes "usage" else
    if status == BAD_JOB then codes "bad job" else
    if status == READ_FAULT then codes "read fault" else
    if status == WRITE_FAULT then codes "write fault" else
    if status == LOWER_FAULT then codes "lower fault" else
    if status == TOO_LONG then codes "too long" else codes "unknown"
