-- Which words spell the number of a `make`.
use Rattle.std.proofs.Common.{◌≡◌, ℕ, ◌<◌, ◌≤◌, ◌^◌, List, sym, ◌∙◌, arith}
use Rattle.std.proofs.lemmas.Fmt.{decimal_injective}
use Rattle.text_model.specs.Line.{number}
use Rattle.make_model.specs.MakeJobs.{IsMakeNumber}

-- a word of a number past the greatest, or of one below the least, spells none
pub spells_none : (word : List ℕ) (m : ℕ) → (word ≡ number m) × (m < 2 ^ 64) → (IsMakeNumber m → ⊥) → (n : ℕ) → IsMakeNumber n → word ≡ number n → ⊥
spells_none word m spelled other n is same =
    let greatest : n ≤ 1000 = is.greatest in
    let equal : m ≡ n = decimal_injective m n spelled.1 (omega arith) (sym spelled.0 ∙ same) in
    other (record { least = omega (arith, is.least); greatest = omega arith })
