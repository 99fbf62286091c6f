-- Shards that are ended, the last one first.
use Rattle.std.proofs.Common.{◌≡◌, List, [], ◌∷◌, refl, ◌∙◌, ap}
use Rattle.std.specs.Prelude.{map, reverse}
use Rattle.std.proofs.lemmas.List.{map-append, reverse-append}

-- what was collected from the last one on, in order again
pub in_order : {X Y : Type 0} (f : X → Y) (xs : List X) → reverse (map f (reverse xs)) ≡ map f xs
in_order f [] = refl
in_order f (x ∷ xs) =
    ap (λ (ys : List _). reverse (map f ys)) (reverse-append (x ∷ []) xs)
    ∙ ap reverse (map-append f (reverse xs) (x ∷ []))
    ∙ reverse-append (map f (reverse xs)) (f x ∷ [])
    ∙ ap (λ (ys : List _). f x ∷ ys) (in_order f xs)
