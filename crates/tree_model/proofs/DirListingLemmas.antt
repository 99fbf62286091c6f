-- The entries of kinds and names.
use Rattle.std.proofs.Common.{◌≡◌, ℕ, List, [], ◌∷◌, ◌++◌, length, refl, ap, arith}
use Rattle.lower_model.specs.declared.kind.Kind.{Kind}
use Rattle.tree_model.specs.DirListing.{Shown, listed}

-- a further kind and a further name make a further entry
pub listed-push : (kinds : List Kind) (names : List (List ℕ)) (kind : Kind) (name : List ℕ) → length kinds ≡ length names
    → listed (kinds ++ kind ∷ []) (names ++ name ∷ []) ≡ listed kinds names ++ record { kind = kind; name = name } ∷ []
listed-push [] [] kind name same = refl
listed-push [] (n ∷ ns) kind name same = absurd (omega (arith, same))
listed-push (k ∷ ks) [] kind name same = absurd (omega (arith, same))
listed-push (k ∷ ks) (n ∷ ns) kind name same = ap (λ (entries : List Shown). record { kind = k; name = n } ∷ entries) (listed-push ks ns kind name (omega (arith, same)))
