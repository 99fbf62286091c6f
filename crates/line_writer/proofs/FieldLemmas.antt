-- Fields, written one behind another.
use Rattle.std.proofs.Common.{◌≡◌, ℕ, List, [], ◌∷◌, ◌++◌, sym, ap, append-nil, append_assoc}
use Rattle.std.specs.Prelude.{Result, Ok, Err, OnErr}
use Rattle.std.specs.List.{join_with_byte}
use Rattle.line_writer.specs.Fields.{spaced}

-- the first, and each further one behind a space
pub join_with_byte-cons : (first : List ℕ) (others : List (List ℕ)) → join_with_byte 32 (first ∷ others) ≡ first ++ spaced others
join_with_byte-cons first [] = sym (append-nil first)
join_with_byte-cons first (second ∷ others) = ap (λ rest. first ++ 32 ∷ rest) (join_with_byte-cons second others)

pub pieces : (out s a b : List ℕ) → ((out ++ s) ++ a) ++ b ≡ out ++ ((s ++ a) ++ b)
pieces out s a b = simp append_assoc

-- what holds anyway holds after an error
pub after_error : {T E : Type 0} (result : Result T E) (P : Type 0) → P → OnErr result P
after_error (Ok x) P p = tt
after_error (Err e) P p = p
