-- Worked values of what is kept of an open file.
use Rattle.std.proofs.Common.{◌≡◌, [], ◌∷◌, true, false, None, refl}
use Rattle.open_file.specs.Buffered.{dirty_count, is_dirty, page_below}

marked : is_dirty (false ∷ true ∷ []) 1 ≡ true
marked = refl

past_the_marks : is_dirty (true ∷ []) 1 ≡ false
past_the_marks = refl

two_marked : dirty_count (true ∷ false ∷ true ∷ []) ≡ 2
two_marked = refl

past_the_size : page_below 5 (1 ∷ 2 ∷ 3 ∷ 4 ∷ 5 ∷ []) 1 ≡ None
past_the_size = refl
