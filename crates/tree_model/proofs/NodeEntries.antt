-- The entries of a directory among nodes, with one more node, and what is shown of a node.
use Rattle.std.proofs.Common.{◌≡◌, ℕ, zero, suc, ◌+◌, ◌<◌, ◌≤◌, ◌≢◌, true, false, cond, eqb, List, [], ◌∷◌, ◌++◌, length, Some, None, refl, ap, ◌∙◌, arith, eq-eqb}
use Rattle.std.specs.Prelude.{slice_get}
use Rattle.std.specs.List.{AllByRecursion}
use Rattle.std.proofs.lemmas.Bool.{ne_eqb}
use Rattle.std.proofs.lemmas.List.{append-nil}
use Rattle.lower_model.specs.declared.node.LowerNode.{LowerNode}
use Rattle.tree_model.specs.Shown.{entries_in, place_of, places_of}

entries_in-append : (k n : ℕ) (xs ys : List LowerNode) → entries_in k n (xs ++ ys) ≡ entries_in k n xs ++ entries_in k (n + length xs) ys
entries_in-append k n [] ys = let e : n ≡ n + 0 = omega arith in ap (λ (m : ℕ). entries_in k m ys) e
entries_in-append k n (x ∷ xs) ys =
    let e : n + 1 + length xs ≡ n + suc (length xs) = omega arith in
    let h = entries_in-append k (n + 1) xs ys in
    let next : entries_in k (n + 1) (xs ++ ys) ≡ entries_in k (n + 1) xs ++ entries_in k (n + suc (length xs)) ys = rw (← e) h in
    elim (eqb x.parent k) as (λ b. cond b ((x.name, n) ∷ entries_in k (n + 1) (xs ++ ys)) (entries_in k (n + 1) (xs ++ ys)) ≡ cond b ((x.name, n) ∷ entries_in k (n + 1) xs) (entries_in k (n + 1) xs) ++ entries_in k (n + suc (length xs)) ys) [
      | true ↦ ap (λ (t : List (List ℕ × ℕ)). (x.name, n) ∷ t) next
      | false ↦ next
    ]

-- one node more is the last entry of its own directory
pub entries_in-own : (n : ℕ) (nodes : List LowerNode) (x : LowerNode) → entries_in x.parent n (nodes ++ x ∷ []) ≡ entries_in x.parent n nodes ++ (x.name, n + length nodes) ∷ []
entries_in-own n nodes x =
    let one : entries_in x.parent (n + length nodes) (x ∷ []) ≡ (x.name, n + length nodes) ∷ [] = rw (eq-eqb x.parent x.parent refl) refl in
    entries_in-append x.parent n nodes (x ∷ []) ∙ ap (λ (t : List (List ℕ × ℕ)). entries_in x.parent n nodes ++ t) one

-- and no entry of another
pub entries_in-other : (k n : ℕ) (nodes : List LowerNode) (x : LowerNode) → x.parent ≢ k → entries_in k n (nodes ++ x ∷ []) ≡ entries_in k n nodes
entries_in-other k n nodes x ne =
    let none : entries_in k (n + length nodes) (x ∷ []) ≡ [] = rw (ne_eqb x.parent k ne) refl in
    entries_in-append k n nodes (x ∷ []) ∙ ap (λ (t : List (List ℕ × ℕ)). entries_in k n nodes ++ t) none ∙ append-nil (entries_in k n nodes)

-- each node stands in one with a lower number than this
abbrev pub AllIn : ℕ → List LowerNode → Type 0
AllIn k nodes = AllByRecursion (λ (x : LowerNode). x.parent < k) nodes

-- a directory behind all parents has no entries
pub entries_in-none : (k n : ℕ) (nodes : List LowerNode) → AllIn k nodes → entries_in k n nodes ≡ []
entries_in-none k n [] h = refl
entries_in-none k n (x ∷ xs) h =
    let ne : x.parent ≡ k → ⊥ = λ q. omega (arith, h.0) in
    rw (ne_eqb x.parent k ne) (entries_in-none k (n + 1) xs h.1)

-- one node more, below a greater number
pub AllIn-push : (k m : ℕ) (nodes : List LowerNode) (x : LowerNode) → AllIn k nodes → k < m → x.parent < m → AllIn m (nodes ++ x ∷ [])
AllIn-push k m [] x h lt p = (p, tt)
AllIn-push k m (y ∷ ys) x h lt p = (omega (arith, h.0), AllIn-push k m ys x h.1 lt p)

-- what stands in a list stands there with more behind it
pub slice_get-append : {X : Type 0} (xs ys : List X) (i : ℕ) (x : X) → slice_get xs i ≡ Some x → slice_get (xs ++ ys) i ≡ Some x
slice_get-append [] ys i x h = absurd cc
slice_get-append (y ∷ xs) ys zero x h = h
slice_get-append (y ∷ xs) ys (suc i) x h = slice_get-append xs ys i x h

-- what is pushed stands last
pub slice_get-push : {X : Type 0} (xs : List X) (x : X) → slice_get (xs ++ x ∷ []) (length xs) ≡ Some x
slice_get-push [] x = refl
slice_get-push (y ∷ xs) x = slice_get-push xs x

-- one node more, below the same number
pub AllIn-snoc : (k : ℕ) (nodes : List LowerNode) (x : LowerNode) → AllIn k nodes → x.parent < k → AllIn k (nodes ++ x ∷ [])
AllIn-snoc k [] x h p = (p, tt)
AllIn-snoc k (y ∷ ys) x h p = (h.0, AllIn-snoc k ys x h.1 p)

-- what stands behind a front stands at its length
pub slice_get-at : {X : Type 0} (xs : List X) (x : X) (ys : List X) → slice_get (xs ++ x ∷ ys) (length xs) ≡ Some x
slice_get-at [] x ys = refl
slice_get-at (y ∷ xs) x ys = slice_get-at xs x ys

-- more behind a list changes none of its own
pub get_append_left : {X : Type 0} (xs ys : List X) (i : ℕ) → i < length xs → slice_get (xs ++ ys) i ≡ slice_get xs i
get_append_left [] ys i lt = absurd (omega arith)
get_append_left (x ∷ xs) ys zero lt = refl
get_append_left (x ∷ xs) ys (suc i) lt = get_append_left xs ys i (omega arith)

-- an index at which nothing stands is past the end
pub slice_get-none : {X : Type 0} (xs : List X) (i : ℕ) → slice_get xs i ≡ None → length xs ≤ i
slice_get-none [] i h = omega arith
slice_get-none (x ∷ xs) zero h = absurd cc
slice_get-none (x ∷ xs) (suc i) h = (let r = slice_get-none xs i h in omega arith)

-- what is shown of a node, by its number
pub slice_get-places_of : (entries : List LowerNode) (from k : ℕ) (nodes : List LowerNode) (x : LowerNode) → slice_get nodes k ≡ Some x → slice_get (places_of entries from nodes) k ≡ Some (place_of entries (from + k) x.kind)
slice_get-places_of entries from k [] x h = absurd cc
slice_get-places_of entries from zero (y ∷ nodes) x h =
    let e : from ≡ from + 0 = omega arith in
    let same : y ≡ x = cc in
    rw (same, ← e) refl
slice_get-places_of entries from (suc k) (y ∷ nodes) x h =
    let e : from + suc k ≡ from + 1 + k = omega arith in
    rw e (slice_get-places_of entries (from + 1) k nodes x h)
