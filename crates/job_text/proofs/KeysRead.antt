-- The reading of the keys, from the readings of its lines.
use Rattle.std.proofs.Common.{◌≡◌, ℕ, List, Result, Ok, refl, codes}
use Rattle.answer_model.specs.Answer.{◌>>=◌, FailsAs}
use Rattle.reading_model.specs.Fields.{sized_hex_in}
use Rattle.job_text.specs.declared.fault.LineError.{LineError}
use Rattle.job_text.specs.declared.fault.LineError.TheVariants as errors
use Rattle.job_text.specs.JobReading.{Part, left_of, field_at, passphrase_in, keys_at, keys_of}

abbrev part_of : {A : Type 0} → A → List ℕ → Part A
part_of value rest = Ok (value, rest)

pub keys_read : (octets passphrase first salt second namesalt third : List ℕ) → field_at (codes "passphrase ") passphrase_in octets ≡ part_of passphrase first → field_at (codes "salt ") (sized_hex_in 8) first ≡ part_of salt second
    → field_at (codes "namesalt ") (sized_hex_in 8) second ≡ part_of namesalt third → keys_at octets ≡ part_of (keys_of passphrase salt namesalt) third
unfolding keys_at
keys_read octets passphrase first salt second namesalt third p s n = rw (p, s, n) refl

fails : {A B : Type 0} (e : LineError) (r : Result A ℕ) (f : A → Result B ℕ) → FailsAs (left_of e) (Unit {0}) r → FailsAs (left_of e) (Unit {0}) (r >>= f)
fails errors.Memory r f h = tt
fails (errors.Wrong left) r f h = rw h refl

pub namesalt_fails : (octets passphrase first salt second : List ℕ) (e : LineError) → field_at (codes "passphrase ") passphrase_in octets ≡ part_of passphrase first → field_at (codes "salt ") (sized_hex_in 8) first ≡ part_of salt second
    → FailsAs (left_of e) (Unit {0}) (field_at (codes "namesalt ") (sized_hex_in 8) second) → FailsAs (left_of e) (Unit {0}) (keys_at octets)
unfolding keys_at
namesalt_fails octets passphrase first salt second e p s h = rw (p, s) (fails e (field_at (codes "namesalt ") (sized_hex_in 8) second) _ h)
