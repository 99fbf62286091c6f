-- What a job may hold.
use Rattle.std.specs.Prelude.{ℕ, ◌<◌, ◌≤◌, List, length}
use Rattle.std.specs.List.{AllByRecursion}
use Rattle.octet_model.specs.Octets.{AreOctets, HasOctets}
use Rattle.lower_model.specs.LowerTree.{IsLowerTree}
use Rattle.script_model.specs.Script.{IsScript}
use Rattle.job_model.specs.declared.limits.TheConstants.{LONGEST_PASSPHRASE, MOST_SESSIONS, MOST_ITEMS}
use Rattle.job_model.specs.declared.job.Job.{Job}

pub record IsPassphrase (passphrase : List ℕ) : Type 0 where
  pub some : 1 ≤ length passphrase
  pub few : length passphrase ≤ LONGEST_PASSPHRASE
  pub octets : AreOctets passphrase

pub record IsSchedule (sessions : ℕ) (schedule : List ℕ) : Type 0 where
  pub few : length schedule ≤ MOST_ITEMS
  pub items : AllByRecursion (λ s. s < sessions) schedule

pub record IsJob (job : Job) : Type 0 where
  pub passphrase : IsPassphrase job.passphrase
  pub salt : HasOctets 8 job.salt
  pub namesalt : HasOctets 8 job.namesalt
  pub random : HasOctets 32 job.random
  pub image : IsLowerTree job.image
  pub some_session : 1 ≤ length job.scripts
  pub few_sessions : length job.scripts ≤ MOST_SESSIONS
  pub scripts : AllByRecursion IsScript job.scripts
  pub schedule : IsSchedule (length job.scripts) job.schedule
