-- An image's length, read as a number that stands still at the last u64.
use Rattle.std.proofs.Common.{◌≡◌, ℕ, ◌+◌, ◌-◌, ◌^◌, ◌<◌, ◌≤◌, min, List, length, Option, Some, None, Ok, Err, codes, refl, sym, arith}
use Rattle.std.specs.Option.{option_map}
use Rattle.std.proofs.lemmas.Bool.{lt-ltb}
use Rattle.std.proofs.lemmas.Option.{none-some, same_Some}
use Rattle.reading_model.specs.Fields.{any_number_in}
use Rattle.answer_model.specs.Answer.{FailsAs}
use Rattle.job_text.specs.declared.fault.LineError.{LineError}
use Rattle.job_text.specs.declared.fault.LineError.TheVariants as errors
use Rattle.job_text.specs.JobReading.{Part, left_of, word_at, sized_image_at, image_at}

abbrev part_of : {A : Type 0} → A → List ℕ → Part A
part_of value rest = Ok (value, rest)

abbrev saturated : ℕ → ℕ
saturated n = min n (2 ^ 64 - 1)

read_as : (o : Option ℕ) (count : ℕ) → Some count ≡ option_map saturated o → (n : ℕ) × (o ≡ Some n) × (count ≡ saturated n)
read_as None count e = absurd (none-some count (sym e))
read_as (Some n) count e = (n, refl, same_Some count (saturated n) e)

-- no such line stands there
pub no_line : (octets : List ℕ) (e : LineError) → FailsAs (left_of e) (Unit {0}) (word_at (codes "image ") octets) → FailsAs (left_of e) (Unit {0}) (image_at octets)
unfolding image_at
no_line octets errors.Memory h = tt
no_line octets (errors.Wrong left) h = rw h refl

nothing : (o : Option ℕ) → None ≡ option_map saturated o → o ≡ None
nothing None e = refl
nothing (Some n) e = absurd (none-some (saturated n) e)

-- no number stands there
pub no_count : (octets text rest : List ℕ) → word_at (codes "image ") octets ≡ part_of text rest → None ≡ option_map saturated (any_number_in text) → image_at octets ≡ Err (length octets)
unfolding image_at
no_count octets text rest line none = let n = nothing (any_number_in text) none in rw (line, n) refl

-- fewer octets are left
pub image_cut : (octets text rest : List ℕ) (count : ℕ) → word_at (codes "image ") octets ≡ part_of text rest → Some count ≡ option_map saturated (any_number_in text) → length rest < count → image_at octets ≡ Err (length rest)
unfolding image_at
image_cut octets text rest count line e few =
    let n = read_as (any_number_in text) count e in
    rw (line, n.1, lt-ltb (length rest) n.0 (omega (arith, n.2))) refl

-- so many are there
pub image_sized : (octets text rest : List ℕ) (count : ℕ) → word_at (codes "image ") octets ≡ part_of text rest → Some count ≡ option_map saturated (any_number_in text) → count ≤ length rest → length rest + 1 < 2 ^ 64 → image_at octets ≡ sized_image_at count rest
unfolding image_at
image_sized octets text rest count line e most short =
    let n = read_as (any_number_in text) count e in
    let is : n.0 ≡ count = omega (arith, n.2) in
    rw (line, n.1, is) refl
