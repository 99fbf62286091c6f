-- How a job's mount reads and writes names and files.
use Rattle.std.specs.Prelude.{ℕ, Bool, true, false, List}
use Rattle.key_model.specs.PassphraseKey.{passphrase_key, key_signature}
use Rattle.key_model.specs.SignedKey.{SignedKey}
use Rattle.names_model.specs.NameForm.{NameForm, plain}
use Rattle.coding_model.specs.CodedForm.{coded_form}
use Rattle.body_model.specs.Format.{Format}
use Rattle.content_model.specs.Ecryptfs.{EcryptfsMount, ecryptfs}
use Rattle.job_model.specs.declared.job.Job.{Job}
use Rattle.job_model.specs.declared.job.NameCoding.{NameCoding}
use Rattle.job_model.specs.declared.job.NameCoding.TheVariants.{Plain, Tag70}

-- the key of a passphrase under a salt, with its signature
abbrev pub key_of : List ℕ → List ℕ → SignedKey
key_of salt passphrase = record { signature = key_signature (passphrase_key salt passphrase); key = passphrase_key salt passphrase }

abbrev pub form_by : NameCoding → SignedKey → NameForm
form_by Plain key = plain
form_by Tag70 key = coded_form key

-- The name key is that of the passphrase under the name salt.
abbrev pub form_of_job : Job → NameForm
form_of_job job = form_by job.names (key_of job.namesalt job.passphrase)

-- ---- files

abbrev pub is_coded : NameCoding → Bool
is_coded Plain = false
is_coded Tag70 = true

-- The file key-encryption key is that of the passphrase under the job's salt.
abbrev pub mount_of_job : Job → EcryptfsMount
mount_of_job job = record { key = key_of job.salt job.passphrase; salt = job.salt; random = job.random; names_coded = is_coded job.names; meta_place = job.meta_place }

abbrev pub format_of_job : Job → Format (List ℕ)
format_of_job job = ecryptfs (mount_of_job job)
