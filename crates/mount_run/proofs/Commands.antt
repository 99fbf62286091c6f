-- The words of one command are those of no other, but for the number of a `make`.
use Rattle.std.proofs.Common.{◌≡◌, ℕ, refl}
use Rattle.mount_run.specs.declared.words.Command.{Command}
use Rattle.mount_run.specs.declared.words.Command.TheVariants.{ForJob, Make}
use Rattle.mount_run.specs.declared.words.JobCommand.{JobCommand}
use Rattle.mount_run.specs.declared.words.JobCommand.TheVariants.{Replay, Show}
use Rattle.mount_run.specs.Words.{words_of}

pub told_job : (command : Command) (for_job : JobCommand) → words_of command ≡ words_of (ForJob for_job) → command ≡ ForJob for_job
told_job (ForJob Replay) Replay told = refl
told_job (ForJob Show) Show told = refl
told_job (ForJob Replay) Show told = absurd cc
told_job (ForJob Show) Replay told = absurd cc
told_job (Make m) Replay told = absurd cc
told_job (Make m) Show told = absurd cc

pub told_make : (command : Command) (n : ℕ) → words_of command ≡ words_of (Make n) → (m : ℕ) × (command ≡ Make m)
told_make (ForJob Replay) n told = absurd cc
told_make (ForJob Show) n told = absurd cc
told_make (Make m) n told = (m, refl)
