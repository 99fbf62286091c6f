-- An array of states that is filled from the front.
use Rattle.std.proofs.Common.{◌≡◌, ℕ, ◌<◌, ◌+◌, List, [], ◌∷◌, length, get_or, replicate, refl, ap, subst, ◌∙◌, inl, inr, arith}
use Rattle.std.proofs.lemmas.Bool.{cases_lt}
use Rattle.std.proofs.lemmas.List.{get_or-set_same, get_or-set_other}
use Rattle.std.proofs.Math.ListN.{set}
use Rattle.aes_planes.specs.declared.planes.Planes.{Planes}
use Rattle.aes_planes.specs.Planes.{block_in, first_block}

pub keys_more : (xs : List Planes) (x : Planes) (f : ℕ → List ℕ) (n : ℕ) → n < length xs
    → ((r : ℕ) → r < n → (d : Planes) → (m : ℕ) → m < 8 → block_in (get_or xs r d) m ≡ f r)
    → ((m : ℕ) → m < 8 → block_in x m ≡ f n)
    → (r : ℕ) → r < n + 1 → (d : Planes) → (m : ℕ) → m < 8 → block_in (get_or (set xs n x) r d) m ≡ f r
keys_more xs x f n room below here r h d m hm = elim (cases_lt r n) [
  | inl less ↦ ap (λ (y : Planes). block_in y m) (get_or-set_other xs n r x d (λ e. absurd (omega arith))) ∙ below r less d m hm
  | inr more ↦
      let e : n ≡ r = omega arith in
      subst (λ (r : ℕ). block_in (get_or (set xs n x) r d) m ≡ f r) e
      (ap (λ (y : Planes). block_in y m) (get_or-set_same xs n x d room) ∙ here m hm)
]

pub length-first_block : (rounds : List Planes) → length rounds ≡ 11 → length (first_block rounds) ≡ 16
length-first_block [] long = absurd (omega arith)
length-first_block (q ∷ rounds) long = refl

-- the first block of round keys that have been filled in
pub first_block_at : (rounds : List Planes) (f : ℕ → List ℕ) (n : ℕ) → length rounds ≡ 11 → 0 < n
    → ((r : ℕ) → r < n → (d : Planes) → (m : ℕ) → m < 8 → block_in (get_or rounds r d) m ≡ f r) → first_block rounds ≡ f 0
first_block_at [] f n long some below = absurd (omega arith)
first_block_at (q ∷ rounds) f n long some below = below 0 some q 0 (omega arith)

-- an array of one state, of which the first is right
pub keys_none : (x : Planes) (f : ℕ → List ℕ) → ((m : ℕ) → m < 8 → block_in x m ≡ f 0)
    → (r : ℕ) → r < 1 → (d : Planes) → (m : ℕ) → m < 8 → block_in (get_or (replicate 11 x) r d) m ≡ f r
keys_none x f here r h d m hm =
    let e : 0 ≡ r = omega arith in
    subst (λ (r : ℕ). block_in (get_or (replicate 11 x) r d) m ≡ f r) e (here m hm)
