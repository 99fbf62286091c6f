-- Walks: by their first and their last name, and in places that have the same entries but for those that lead to one node.
use Rattle.std.proofs.Common.{◌≡◌, ◌≢◌, ℕ, ◌-◌, ◌⊎◌, inl, inr, Bool, true, false, List, [], ◌∷◌, ◌++◌, length, take, Option, Some, None, Result, Ok, Err, refl, sym, ap, ◌∙◌, arith, length-append}
use Rattle.std.specs.Prelude.{◌==◌, ◌||◌, slice_get}
use Rattle.std.proofs.Math.Seq.{take-append_seam}
use Rattle.std.proofs.lemmas.Bool.{true≢false}
use Rattle.std.proofs.lemmas.Bool.Decides.{eqb_tells}
use Rattle.tree_model.specs.declared.call.TreeRefusal.{TreeRefusal}
use Rattle.tree_model.specs.declared.place.Place.{Place}
use Rattle.tree_model.specs.declared.place.Place.TheVariants.{Dir, File, Nothing}
use Rattle.tree_model.specs.Names.{node_of}
use Rattle.tree_model.specs.Walk.{◌>>=◌, found, entry_of, holds_then, walk, comes_by, front, last}
use Rattle.tree_model.specs.IsTree.{IsDirectory, IsNode, node_in}

-- ---- one step

found_node : (node : Option ℕ) (n : ℕ) → found node ≡ Ok n → node ≡ Some n
found_node (Some m) n is = cc
found_node None n is = absurd cc

-- a name that is found is shown
pub entry_node : (place : Option Place) (x : List ℕ) (n : ℕ) → entry_of place x ≡ Ok n → node_in place x ≡ Some n
entry_node (Some (Dir d)) x n is = found_node (node_of x d.shown) n is
entry_node (Some File) x n is = absurd cc
entry_node (Some Nothing) x n is = absurd cc
entry_node None x n is = absurd cc

-- a name that is shown is found
pub node_entry : (place : Option Place) (x : List ℕ) (n : ℕ) → node_in place x ≡ Some n → entry_of place x ≡ Ok n
node_entry (Some (Dir d)) x n is = ap found is
node_entry (Some File) x n is = absurd cc
node_entry (Some Nothing) x n is = absurd cc
node_entry None x n is = absurd cc

-- only a directory shows a name
pub shows_in_directory : (place : Option Place) (x : List ℕ) (n : ℕ) → node_in place x ≡ Some n → IsDirectory place
shows_in_directory (Some (Dir d)) x n is = tt
shows_in_directory (Some File) x n is = absurd cc
shows_in_directory (Some Nothing) x n is = absurd cc
shows_in_directory None x n is = absurd cc

-- a directory is a node
pub node_from_directory : (place : Option Place) → IsDirectory place → IsNode place
node_from_directory (Some (Dir d)) h = tt
node_from_directory (Some File) h = absurd h
node_from_directory (Some Nothing) h = absurd h
node_from_directory None h = absurd h

-- ---- where a test is passed, so is what stands before it

-- the test that was passed, and what was asked behind it
pub then_ok : {A B : Type 0} (r : Result A TreeRefusal) (f : A → Result B TreeRefusal) (x : B) → (r >>= f) ≡ Ok x → (a : A) × (r ≡ Ok a) × (f a ≡ Ok x)
then_ok (Ok a) f x h = (a, refl, h)
then_ok (Err e) f x h = absurd cc

-- the first step of a walk
pub first_step : (places : List Place) (at n : ℕ) (x : List ℕ) (path : List (List ℕ)) → walk places at (x ∷ path) ≡ Ok n → (m : ℕ) × (node_in (slice_get places at) x ≡ Some m) × (walk places m path ≡ Ok n)
first_step places at n x path is =
    let s = then_ok (entry_of (slice_get places at) x) (λ m. walk places m path) n is in
    (s.0, entry_node (slice_get places at) x s.0 s.1, s.2)

-- a walk begins with its first step
pub step_first : (places : List Place) (at m : ℕ) (x : List ℕ) (path : List (List ℕ)) → node_in (slice_get places at) x ≡ Some m → walk places at (x ∷ path) ≡ walk places m path
step_first places at m x path is = ap (λ (r : Result ℕ TreeRefusal). r >>= λ k. walk places k path) (node_entry (slice_get places at) x m is)

-- a walk that stops at once is at its end
pub ends_at : (places : List Place) (at n : ℕ) → walk places at [] ≡ Ok n → at ≡ n
ends_at places at n is = cc

-- a walk that goes on from where another ends
pub walk_on : (places : List Place) (at k n : ℕ) (path more : List (List ℕ)) → walk places at path ≡ Ok k → walk places k more ≡ Ok n → walk places at (path ++ more) ≡ Ok n
walk_on places at k n [] more is rest = ap (λ (j : ℕ). walk places j more) (ends_at places at k is) ∙ rest
walk_on places at k n (y ∷ path) more is rest =
    let s = first_step places at k y path is in
    step_first places at s.0 y (path ++ more) s.1 ∙ walk_on places s.0 k n path more s.2 rest

-- ---- the last name

pub last_pushed : (names : List (List ℕ)) (name : List ℕ) → last (names ++ name ∷ []) ≡ Some name
last_pushed names name =
    let at : length (names ++ name ∷ []) - 1 ≡ length names = omega (arith, length-append names (name ∷ [])) in
    ap (slice_get (names ++ name ∷ [])) at ∙ at_end names
  where
    at_end : (xs : List (List ℕ)) → slice_get (xs ++ name ∷ []) (length xs) ≡ Some name
    at_end [] = refl
    at_end (x ∷ xs) = at_end xs

pub front_pushed : (names : List (List ℕ)) (name : List ℕ) → front (names ++ name ∷ []) ≡ names
front_pushed names name =
    let at : length (names ++ name ∷ []) - 1 ≡ length names = omega (arith, length-append names (name ∷ [])) in
    ap (λ (n : ℕ). take n (names ++ name ∷ [])) at ∙ take-append_seam names (name ∷ [])

-- a path is empty, or has a last name
ends : (names : List (List ℕ)) → (names ≡ []) ⊎ ((above : List (List ℕ)) × (name : List ℕ) × (names ≡ above ++ name ∷ []))
ends [] = inl refl
ends (x ∷ xs) = elim (ends xs) [
  | inl e ↦ inr ([], x, ap (λ (l : List (List ℕ)). x ∷ l) e)
  | inr s ↦ inr (x ∷ s.0, s.1, ap (λ (l : List (List ℕ)). x ∷ l) s.2)
]

-- a path that has a last name is its front with this name behind
pub parted : (names : List (List ℕ)) (name : List ℕ) → last names ≡ Some name → names ≡ front names ++ name ∷ []
parted names name h = elim (ends names) [
  | inl e ↦ (let none : last names ≡ None = ap last e in absurd cc)
  | inr s ↦ (let is : last names ≡ Some s.1 = ap last s.2 ∙ last_pushed s.0 s.1 in let same : s.1 ≡ name = cc in
      s.2 ∙ ap (λ (l : List (List ℕ)). l ++ s.1 ∷ []) (sym (ap front s.2 ∙ front_pushed s.0 s.1)) ∙ ap (λ (x : List ℕ). front names ++ x ∷ []) same)
]

then_ok_right : (r : Result ℕ TreeRefusal) → r ≡ (r >>= λ n. Ok n)
then_ok_right (Ok n) = refl
then_ok_right (Err e) = refl

then_assoc : (r : Result ℕ TreeRefusal) (f g : ℕ → Result ℕ TreeRefusal) → (r >>= λ n. f n >>= g) ≡ ((r >>= f) >>= g)
then_assoc (Ok n) f g = refl
then_assoc (Err e) f g = refl

then_each : (r : Result ℕ TreeRefusal) (f g : ℕ → Result ℕ TreeRefusal) → ((n : ℕ) → f n ≡ g n) → (r >>= f) ≡ (r >>= g)
then_each (Ok n) f g h = h n
then_each (Err e) f g h = refl

-- a walk by its last name
pub walk_last : (places : List Place) (at : ℕ) (above : List (List ℕ)) (name : List ℕ) → walk places at (above ++ name ∷ []) ≡ (walk places at above >>= λ n. entry_of (slice_get places n) name)
walk_last places at [] name = sym (then_ok_right (entry_of (slice_get places at) name))
walk_last places at (x ∷ xs) name =
    then_each (entry_of (slice_get places at) x) (λ n. walk places n (xs ++ name ∷ [])) (λ n. walk places n xs >>= λ m. entry_of (slice_get places m) name) (λ n. walk_last places n xs name)
    ∙ then_assoc (entry_of (slice_get places at) x) (λ n. walk places n xs) (λ m. entry_of (slice_get places m) name)

-- ---- a walk that comes by a node

or_parts : (x y : Bool) → (x || y) ≡ false → (x ≡ false) × (y ≡ false)
or_parts true y h = absurd (true≢false h)
or_parts false y h = (refl, h)

-- a walk goes on from each node that it comes by
pub walk_from : (places : List Place) (node at n : ℕ) (path : List (List ℕ)) → walk places at path ≡ Ok n → comes_by places node at path ≡ true → (rest : List (List ℕ)) × (walk places node rest ≡ Ok n)
walk_from places node at n [] is by = elim (eqb_tells at node) [
  | inl e ↦ ([], ap (λ (k : ℕ). walk places k []) (sym e.1) ∙ is)
  | inr e ↦ absurd (true≢false (sym by ∙ e.0))
]
walk_from places node at n (x ∷ path) is by = elim (eqb_tells at node) [
  | inl e ↦ (x ∷ path, ap (λ (k : ℕ). walk places k (x ∷ path)) (sym e.1) ∙ is)
  | inr e ↦ (let s = first_step places at n x path is in
      let later : comes_by places node at (x ∷ path) ≡ comes_by places node s.0 path =
      ap (λ (b : Bool). b || holds_then (λ m. comes_by places node m path) (entry_of (slice_get places at) x)) e.0 ∙ ap (holds_then (λ m. comes_by places node m path)) (node_entry (slice_get places at) x s.0 s.1) in
      walk_from places node s.0 n path s.2 (sym later ∙ by))
]

-- ---- places that have the entries of others

-- where each entry stays, each walk does
pub walk_stays : (old new : List Place) → ((k : ℕ) (x : List ℕ) (m : ℕ) → node_in (slice_get old k) x ≡ Some m → node_in (slice_get new k) x ≡ Some m)
    → (at n : ℕ) (path : List (List ℕ)) → walk old at path ≡ Ok n → walk new at path ≡ Ok n
walk_stays old new stays at n [] is = is
walk_stays old new stays at n (x ∷ path) is =
    let s = first_step old at n x path is in
    step_first new at s.0 x path (stays at x s.0 s.1) ∙ walk_stays old new stays s.0 n path s.2

-- ---- places that have the entries of others, but for those that lead to one node

-- Each entry of the old places is one of the new ones, unless it leads to this node.
pub record KeepsOthers (old new : List Place) (node : ℕ) : Type 0 where
  pub kept : (k : ℕ) (x : List ℕ) (m : ℕ) → node_in (slice_get old k) x ≡ Some m → m ≢ node → node_in (slice_get new k) x ≡ Some m

-- a walk is kept, or what is left of it from the node on
pub walk_kept : (old new : List Place) (node : ℕ) → KeepsOthers old new node → (at n : ℕ) (path : List (List ℕ)) → walk old at path ≡ Ok n
    → (walk new at path ≡ Ok n) ⊎ ((rest : List (List ℕ)) × (walk new node rest ≡ Ok n))
walk_kept old new node keeps at n [] is = inl is
walk_kept old new node keeps at n (x ∷ path) is =
    let s = first_step old at n x path is in
    elim (walk_kept old new node keeps s.0 n path s.2) [
      | inr rest ↦ inr rest
      | inl later ↦ elim (eqb_tells s.0 node) [
        | inl e ↦ inr (path, ap (λ (k : ℕ). walk new k path) (sym e.1) ∙ later)
        | inr e ↦ inl (step_first new at s.0 x path (keeps.kept at x s.0 s.1 e.1) ∙ later)
      ]
    ]

-- a walk that doesn't come by the node is kept
pub walk_around : (old new : List Place) (node : ℕ) → KeepsOthers old new node → (at n : ℕ) (path : List (List ℕ)) → walk old at path ≡ Ok n → comes_by old node at path ≡ false → walk new at path ≡ Ok n
walk_around old new node keeps at n [] is apart = is
walk_around old new node keeps at n (x ∷ path) is apart =
    let s = first_step old at n x path is in
    let later : comes_by old node s.0 path ≡ false = sym (ap (holds_then (λ m. comes_by old node m path)) (node_entry (slice_get old at) x s.0 s.1)) ∙ (or_parts (at == node) _ apart).1 in
    step_first new at s.0 x path (keeps.kept at x s.0 s.1 (other s.0 path later)) ∙ walk_around old new node keeps s.0 n path s.2 later
  where
    other : (m : ℕ) (path : List (List ℕ)) → comes_by old node m path ≡ false → m ≢ node
    other m [] h e = elim (eqb_tells m node) [
      | inl t ↦ true≢false (sym t.0 ∙ h)
      | inr f ↦ f.1 e
    ]
    other m (y ∷ path) h e = elim (eqb_tells m node) [
      | inl t ↦ true≢false (sym t.0 ∙ (or_parts (m == node) _ h).0)
      | inr f ↦ f.1 e
    ]

-- where the new places have no further entries, a walk that both make comes by the same nodes
pub comes_by_same : (old new : List Place) (node : ℕ) → ((k : ℕ) (x : List ℕ) (m : ℕ) → node_in (slice_get new k) x ≡ Some m → node_in (slice_get old k) x ≡ Some m)
    → (at n : ℕ) (path : List (List ℕ)) → walk new at path ≡ Ok n → comes_by new node at path ≡ comes_by old node at path
comes_by_same old new node older at n [] is = refl
comes_by_same old new node older at n (x ∷ path) is =
    let s = first_step new at n x path is in
    let in_new = ap (holds_then (λ m. comes_by new node m path)) (node_entry (slice_get new at) x s.0 s.1) in
    let in_old = ap (holds_then (λ m. comes_by old node m path)) (node_entry (slice_get old at) x s.0 (older at x s.0 s.1)) in
    ap (λ (b : Bool). (at == node) || b) (in_new ∙ comes_by_same old new node older s.0 n path s.2 ∙ sym in_old)
