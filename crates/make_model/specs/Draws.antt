-- Numbers that are drawn one after another, and what is made of them.
use Rattle.std.specs.Prelude.{ℕ, zero, suc, ◌+◌, ◌*◌, ◌/◌, ◌%◌, List, [], ◌∷◌, ◌++◌}

-- A value that is made by draws: from the state of the draws, the value and the state behind it.
abbrev pub Making : Type 0 → Type 0
Making A = ℕ → A × ℕ

-- the state behind a draw
unfoldable pub next_state : ℕ → ℕ
next_state x = (x * 1103515245 + 12345) % 2147483648

-- one draw, a number up to 32,767
abbrev pub draw : Making ℕ
draw x = (next_state x / 65536, next_state x)

-- a value that no draw makes
abbrev pub give : {A : Type 0} → A → Making A
give a x = (a, x)

abbrev pub handed_on : {A B : Type 0} → (A → Making B) → A × ℕ → B × ℕ
handed_on more made = more made.0 made.1

-- what is made first is handed on, and the draws go on
infixl 10 ◌>>=◌
abbrev pub ◌>>=◌ : {A B : Type 0} → Making A → (A → Making B) → Making B
(first >>= more) x = handed_on more (first x)

-- one draw mod n
abbrev pub draw_mod : ℕ → Making ℕ
draw_mod n = draw >>= λ d. give (d % n)

-- a list of one value
abbrev pub one : {A : Type 0} → Making A → Making (List A)
one make = make >>= λ a. give (a ∷ [])

-- a list that is made, behind one that is there
abbrev pub behind : {A : Type 0} → List A → List A × ℕ → List A × ℕ
behind front made = (front ++ made.0, made.1)

-- for as many numbers from the first on, one after another: what is made for each, in one list
unfoldable pub for_each_from : {A : Type 0} → ℕ → ℕ → (ℕ → Making (List A)) → Making (List A)
for_each_from first zero make = give []
for_each_from first (suc count) make = make first >>= λ front. for_each_from (first + 1) count make >>= λ behind. give (front ++ behind)

-- for each number below this one
abbrev pub for_each : {A : Type 0} → ℕ → (ℕ → Making (List A)) → Making (List A)
for_each count make = for_each_from 0 count make

-- so many times
abbrev pub repeat : {A : Type 0} → ℕ → Making (List A) → Making (List A)
repeat count make = for_each count (λ i. make)
