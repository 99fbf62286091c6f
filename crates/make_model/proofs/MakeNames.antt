-- The names of the 64 files and of their directories are names.
use Rattle.std.proofs.Common.{◌≡◌, ℕ, zero, suc, ◌<◌, ◌%◌, Bool, true, ◌&&◌, refl, sym, subst, inl, inr, arith}
use Rattle.std.specs.Prelude.{IsTrue}
use Rattle.std.specs.Fmt.{digits}
use Rattle.std.proofs.lemmas.Bool.{cases_eq, and_parts}
use Rattle.lower_model.specs.Name.{is_name}
use Rattle.tree_model.specs.Path.{IsPath}
use Rattle.make_model.specs.MakeJobs.{directory_name, file_name, file_path}

-- whether each number below this one passes
passes_below : (ℕ → Bool) → ℕ → Bool
passes_below test zero = true
passes_below test (suc n) = test n && passes_below test n

passes : (test : ℕ → Bool) (n i : ℕ) → passes_below test n ≡ true → i < n → test i ≡ true
unfolding passes_below
passes test zero i all lt = absurd (omega arith)
passes test (suc n) i all lt =
    let parts : (test n ≡ true) × (passes_below test n ≡ true) = and_parts (test n) (passes_below test n) all in
    elim (cases_eq i n) [
      | inl same ↦ subst (λ (k : ℕ). test k ≡ true) (sym same) parts.0
      | inr other ↦ passes test n i parts.1 (omega arith)
    ]

pub is_directory_name : (d : ℕ) → d < 8 → IsTrue (is_name (directory_name d))
unfolding digits passes_below
is_directory_name d lt = passes (λ d. is_name (directory_name d)) 8 d refl lt

pub is_file_name : (i : ℕ) → i < 64 → IsTrue (is_name (file_name i))
unfolding digits passes_below
is_file_name i lt = passes (λ i. is_name (file_name i)) 64 i refl lt

pub is_file_path : (i : ℕ) → i < 64 → IsPath (file_path i)
is_file_path i lt = (is_directory_name (i % 8) (omega arith), (is_file_name i lt, tt))
