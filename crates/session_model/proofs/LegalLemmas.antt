-- Histories one behind another.
use Rattle.std.proofs.Common.{◌≡◌, ℕ, List, [], ◌∷◌, ◌++◌, refl, sym, subst, ◌∙◌}
use Rattle.session_model.specs.Legal.{Counts, IsLegal, CountsFrom}

-- what leads to b and from b on leads to c
pub IsLegal-append : {S E : Type 0} → (IsTurn : S → E → S → Type 0) (a b c : S) (xs ys : List E) → IsLegal IsTurn a xs b → IsLegal IsTurn b ys c → IsLegal IsTurn a (xs ++ ys) c
IsLegal-append {S} IsTurn a b c [] ys first rest = subst (λ (s : S). IsLegal IsTurn s ys c) first rest
IsLegal-append IsTurn a b c (x ∷ xs) ys first rest = (first.0, first.1, IsLegal-append IsTurn first.0 b c xs ys first.2 rest)

-- one turn more
pub IsLegal-push : {S E : Type 0} → (IsTurn : S → E → S → Type 0) (a b c : S) (log : List E) (e : E) → IsLegal IsTurn a log b → IsTurn b e c → IsLegal IsTurn a (log ++ e ∷ []) c
IsLegal-push IsTurn a b c log e first turn = IsLegal-append IsTurn a b c log (e ∷ []) first (c, turn, refl)

-- one turn more, whose count begins where the last one's ended
pub CountsFrom-push : {E : Type 0} → (counts : E → Counts) (first mid last : ℕ) (log : List E) (e : E) → CountsFrom counts first log mid → (counts e).before ≡ mid → (counts e).after ≡ last
    → CountsFrom counts first (log ++ e ∷ []) last
CountsFrom-push counts first mid last [] e so_far begins ends = (begins ∙ so_far, sym ends)
CountsFrom-push counts first mid last (x ∷ log) e so_far begins ends = (so_far.0, CountsFrom-push counts (counts x).after mid last log e so_far.1 begins ends)
