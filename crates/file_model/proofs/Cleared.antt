-- Octets that are cleared from a place on.
use Rattle.std.proofs.Common.{ℕ, ◌≡◌, ◌-◌, ◌<◌, ◌≤◌, List, length, get_or, take, replicate, sym, ◌∙◌, arith, inl, inr}
use Rattle.std.proofs.lemmas.List.{ext_get_or, length-take, length-append, length-replicate, get_or-take, get_or_append_left, get_or-append_right, get_or-replicate, get_or_past}
use Rattle.std.proofs.lemmas.Bool.{cases_lt}
use Rattle.file_model.specs.LaidOut.{cleared}

pub length-cleared : (n : ℕ) (page : List ℕ) → length (cleared n page) ≡ length page
length-cleared n page = omega (arith, length-append (take n page) (replicate (length page - n) 0), length-take n page, length-replicate {A = ℕ} (length page - n) 0)

front_of_cleared : (n : ℕ) (page : List ℕ) (i : ℕ) → i < length page → i < n → get_or (cleared n page) i 0 ≡ get_or page i 0
front_of_cleared n page i h below =
    get_or_append_left (take n page) (replicate (length page - n) 0) 0 i (omega (arith, length-take n page)) ∙ get_or-take n page i 0 below

-- what stands before the place stays
pub get_or-cleared : (n : ℕ) (page : List ℕ) (i : ℕ) → i < n → get_or (cleared n page) i 0 ≡ get_or page i 0
get_or-cleared n page i below = elim (cases_lt i (length page)) [
  | inl h ↦ front_of_cleared n page i h below
  | inr h ↦ get_or_past (cleared n page) i 0 (omega (arith, length-cleared n page)) ∙ sym (get_or_past page i 0 h)
]

-- zeros behind it
pub get_or-cleared_behind : (n : ℕ) (page : List ℕ) (i : ℕ) → n ≤ i → get_or (cleared n page) i 0 ≡ 0
get_or-cleared_behind n page i h = elim (cases_lt i (length page)) [
  | inl within ↦ get_or-append_right (take n page) (replicate (length page - n) 0) n i 0 (omega (arith, length-take n page)) h
      ∙ get_or-replicate (length page - n) (i - n) 0 0 (omega arith)
  | inr past ↦ get_or_past (cleared n page) i 0 (omega (arith, length-cleared n page))
]

-- where there are zeros already nothing changes
pub cleared_is : (n : ℕ) (page : List ℕ) → ((i : ℕ) → n ≤ i → get_or page i 0 ≡ 0) → cleared n page ≡ page
cleared_is n page zeros = ext_get_or 0 (cleared n page) page (length-cleared n page) (λ i h. elim (cases_lt i n) [
  | inl below ↦ get_or-cleared n page i below
  | inr behind ↦ get_or-cleared_behind n page i behind ∙ sym (zeros i behind)
])

-- what lies below the place stays whole
pub cleared_whole : (n : ℕ) (page : List ℕ) → length page ≤ n → cleared n page ≡ page
cleared_whole n page fits = cleared_is n page (λ i h. get_or_past page i 0 (omega arith))
