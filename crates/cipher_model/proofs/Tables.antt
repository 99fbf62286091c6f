-- A function that is computed at each number below some bound.
use Rattle.std.proofs.Common.{◌≡◌, ℕ, zero, suc, ◌<◌, true, ltb, get_or, refl, sym, map, ap, ◌∙◌, List, [], ◌∷◌, replicate, zero-add, subst, arith}
use Rattle.std.specs.List.{range_with_len, list_all}
use Rattle.std.proofs.lemmas.Bool.{ltb-true, and_parts}
use Rattle.std.proofs.lemmas.List.FromFn.{get_or-map-range_with_len, get_or-range_with_len}
use Rattle.std.proofs.lemmas.Simd.{get_or-replicate}

-- a table that is f at each number below n gives f there
pub table_at : (f : ℕ → ℕ) (t : List ℕ) (n : ℕ) → map f (range_with_len 0 n) ≡ t → (x : ℕ) → x < n → get_or t x 0 ≡ f x
table_at f t n is x h = ap (λ (t : List ℕ). get_or t x 0) (sym is) ∙ get_or-map-range_with_len f 0 n x x 0 h (zero-add x)

-- two functions with one table are one on the bytes
pub same_at : (f g : ℕ → ℕ) → map f (range_with_len 0 256) ≡ map g (range_with_len 0 256) → (x : ℕ) → x < 256 → f x ≡ g x
same_at f g e x h = sym (table_at f (map g (range_with_len 0 256)) 256 e x h) ∙ table_at g (map g (range_with_len 0 256)) 256 refl x h

-- a function whose table is the bytes in order gives each byte back
pub itself_at : (f : ℕ → ℕ) → map f (range_with_len 0 256) ≡ range_with_len 0 256 → (x : ℕ) → x < 256 → f x ≡ x
itself_at f h x lt = sym (table_at f (range_with_len 0 256) 256 h x lt) ∙ get_or-range_with_len 0 256 x 0 lt ∙ zero-add x

pub zero_at : (f : ℕ → ℕ) → map f (range_with_len 0 256) ≡ replicate 256 0 → (x : ℕ) → x < 256 → f x ≡ 0
zero_at f h x lt = sym (table_at f (replicate 256 0) 256 h x lt) ∙ get_or-replicate 256 x 0 0 lt

-- a list whose elements all pass the test has bytes
bytes_in : (t : List ℕ) → list_all (λ (y : ℕ). ltb y 256) t ≡ true → (x : ℕ) → get_or t x 0 < 256
bytes_in [] h x = omega arith
bytes_in (y ∷ t) h zero = ltb-true y 256 (and_parts (ltb y 256) (list_all (λ (y : ℕ). ltb y 256) t) h).0
bytes_in (y ∷ t) h (suc x) = bytes_in t (and_parts (ltb y 256) (list_all (λ (y : ℕ). ltb y 256) t) h).1 x

pub byte_at : (f : ℕ → ℕ) → list_all (λ (y : ℕ). ltb y 256) (map f (range_with_len 0 256)) ≡ true → (x : ℕ) → x < 256 → f x < 256
byte_at f h x lt =
    subst (λ (y : ℕ). y < 256) (table_at f (map f (range_with_len 0 256)) 256 refl x lt) (bytes_in (map f (range_with_len 0 256)) h x)
