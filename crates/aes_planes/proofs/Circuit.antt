-- A circuit of gates as data, and the values that it computes on bits.
use Rattle.std.proofs.Common.{◌≡◌, ℕ, List, [], ◌∷◌, get_or, bit_and, bit_xor, refl, sym, ap, ◌∙◌}

-- a gate names earlier values, counted back from the latest
pub data Gate : Type 0 where
  xor : ℕ → ℕ → Gate
  and : ℕ → ℕ → Gate
  flip : ℕ → Gate

abbrev pub value : Gate → List ℕ → ℕ
value (xor i j) vs = bit_xor (get_or vs i 0) (get_or vs j 0)
value (and i j) vs = bit_and (get_or vs i 0) (get_or vs j 0)
value (flip i) vs = bit_xor (get_or vs i 0) 1

-- all values, the latest first
unfoldable pub run : List Gate → List ℕ → List ℕ
run [] vs = vs
run (g ∷ gs) vs = let v = value g vs in run gs (v ∷ vs)

-- ts are the values of the gates gs after vs, in order
abbrev pub Trace : List Gate → List ℕ → List ℕ → Type 0
Trace [] vs ts = Unit {0}
Trace (g ∷ gs) vs [] = Unit {0}
Trace (g ∷ gs) vs (t ∷ ts) = (t ≡ value g vs) × Trace gs (t ∷ vs) ts

-- a gate's value, and the values of the gates after it
infixr 4 ◌⨾◌
abbrev pub ◌⨾◌ : {A B : Type 0} → A → B → A × B
a ⨾ b = (a, b)

abbrev pub pushed : List Gate → List ℕ → List ℕ → List ℕ
pushed [] vs ts = vs
pushed (g ∷ gs) vs [] = run (g ∷ gs) vs
pushed (g ∷ gs) vs (t ∷ ts) = pushed gs (t ∷ vs) ts

-- a run is its trace
pub traced : (gs : List Gate) (vs ts : List ℕ) → Trace gs vs ts → run gs vs ≡ pushed gs vs ts
unfolding run
traced [] vs ts h = refl
traced (g ∷ gs) vs [] h = refl
traced (g ∷ gs) vs (t ∷ ts) h = ap (λ (v : ℕ). run gs (v ∷ vs)) (sym h.0) ∙ traced gs (t ∷ vs) ts h.1
