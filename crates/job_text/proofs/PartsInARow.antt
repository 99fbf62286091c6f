-- Parts that are read one behind another.
use Rattle.std.proofs.Common.{◌≡◌, ℕ, suc, ◌-◌, ◌+◌, ◌≤◌, ◌<◌, List, [], ◌∷◌, ◌++◌, Ok, Err, refl, sym, ap, ◌∙◌, append_assoc, arith}
use Rattle.std.proofs.lemmas.List.{append-nil}
use Rattle.answer_model.specs.Answer.{◌>>=◌, FailsAs}
use Rattle.job_text.specs.declared.fault.LineError.{LineError}
use Rattle.job_text.specs.declared.fault.LineError.TheVariants as errors
use Rattle.job_text.specs.JobReading.{Part, left_of, times_at}

abbrev part_of : {A : Type 0} → A → List ℕ → Part A
part_of value rest = Ok (value, rest)

-- what was read before, and what is still read
abbrev pub with_front : {A : Type 0} → List A → Part (List A) → Part (List A)
with_front front read = read >>= λ x. part_of (front ++ x.0) x.1

regroup : {A : Type 0} (front : List A) (value : A) (read : Part (List A)) → with_front front (read >>= λ x. part_of (value ∷ x.0) x.1) ≡ with_front (front ++ value ∷ []) read
regroup {A} front value (Ok x) = ap (λ (values : List A). part_of values x.1) (sym (append_assoc front (value ∷ []) x.0))
regroup {A} front value (Err left) = refl

pub goes_on : {A : Type 0} (at : List ℕ → Part A) (front : List A) (count i : ℕ) (octets : List ℕ) (value : A) (after : List ℕ) (total : Part (List A)) → i < count → at octets ≡ part_of value after
    → with_front front (times_at at (count - i) octets) ≡ total → with_front (front ++ value ∷ []) (times_at at (count - (i + 1)) after) ≡ total
unfolding times_at
goes_on {A} at front count i octets value after total lt h so_far =
    let k : count - i ≡ suc (count - (i + 1)) = omega arith in
    let one : with_front front (times_at at (count - i) octets) ≡ with_front (front ++ value ∷ []) (times_at at (count - (i + 1)) after) = rw (k, h) (regroup front value (times_at at (count - (i + 1)) after)) in
    sym one ∙ so_far

pub stops : {A : Type 0} (at : List ℕ → Part A) (e : LineError) (front : List A) (count i : ℕ) (octets : List ℕ) (total : Part (List A)) → i < count → FailsAs (left_of e) (Unit {0}) (at octets)
    → with_front front (times_at at (count - i) octets) ≡ total → FailsAs (left_of e) (Unit {0}) total
unfolding times_at
stops at errors.Memory front count i octets total lt h so_far = tt
stops at (errors.Wrong left) front count i octets total lt h so_far =
    let k : count - i ≡ suc (count - (i + 1)) = omega arith in
    let one : with_front front (times_at at (count - i) octets) ≡ Err left = rw (k, h) refl in
    sym so_far ∙ one

pub is_done : {A : Type 0} (at : List ℕ → Part A) (front : List A) (count i : ℕ) (octets : List ℕ) (total : Part (List A)) → count ≤ i → with_front front (times_at at (count - i) octets) ≡ total → total ≡ part_of front octets
unfolding times_at
is_done {A} at front count i octets total le so_far =
    let k : count - i ≡ 0 = omega arith in
    let one : with_front front (times_at at (count - i) octets) ≡ part_of front octets = rw k (ap (λ (values : List A). part_of values octets) (append-nil front)) in
    sym so_far ∙ one
