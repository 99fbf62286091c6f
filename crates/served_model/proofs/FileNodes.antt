-- The nodes that have entries in a log, and the histories of their files, which depend on the entries of each node alone.
use Rattle.std.proofs.Common.{◌≡◌, ◌≢◌, ℕ, ◌<◌, ◌≤◌, ◌==◌, Bool, true, false, cond, ◌||◌, List, [], ◌∷◌, ◌++◌, refl, sym, ◌∙◌, ap, ap₂, subst, inl, inr, arith, append-nil, lt_trans, All, flat_map, eq-eqb, ne_eqb, lt-ltb, le-ltb}
use Rattle.std.specs.List.{list_any}
use Rattle.std.proofs.lemmas.Bool.{cases_eq, cases_order, cond-true, cond-false, or_from, or_left, false≢true, true≢false}
use Rattle.std.proofs.lemmas.List.Elements.{All-head, All-tail, filter-append}
use Rattle.session_model.specs.declared.entry.FileEntry.{FileEntry}
use Rattle.file_model.specs.FileLog.{entries_at}
use Rattle.served_model.specs.ReportText.{with_node, nodes_of, file_text, files_text}

-- ---- rising numbers

-- each is above this one
abbrev pub AreAbove : ℕ → List ℕ → Type 0
AreAbove n [] = Unit {0}
AreAbove n (m ∷ ms) = (n < m) × AreAbove n ms

abbrev pub Rise : List ℕ → Type 0
Rise [] = Unit {0}
Rise (n ∷ ns) = AreAbove n ns × Rise ns

AreAbove-lower : (k n : ℕ) (ns : List ℕ) → k < n → AreAbove n ns → AreAbove k ns
AreAbove-lower k n [] below above = tt
AreAbove-lower k n (m ∷ ms) below above = (lt_trans below above.0, AreAbove-lower k n ms below above.1)

or_again : (a b : Bool) → (a || b) ≡ (a || (a || b))
or_again a b = elim a as (λ a. (a || b) ≡ (a || (a || b))) [ true ↦ refl | false ↦ refl ]

or_swap : (a b c : Bool) → (a || (b || c)) ≡ (b || (a || c))
or_swap a b c = elim a as (λ a. (a || (b || c)) ≡ (b || (a || c))) [ true ↦ elim b as (λ b. true ≡ (b || true)) [ true ↦ refl | false ↦ refl ] | false ↦ refl ]

or_skip : (a b : Bool) → a ≡ false → (a || b) ≡ b
or_skip a b h = ap (λ a. a || b) h

-- a number that isn't above another is not among those that are
any-above : (m n : ℕ) (ns : List ℕ) → m ≤ n → AreAbove n ns → list_any (λ k. k == m) ns ≡ false
any-above m n [] up above = refl
any-above m n (k ∷ ns) up above =
    let here : n < k = above.0 in
    let other : k ≢ m = λ e. absurd (omega arith) in
    or_from (k == m) (list_any (λ k. k == m) ns) (ne_eqb k m other) (any-above m n ns up above.1)

-- the first of rising numbers is not below the first of others that are the same
not_below : (x y : ℕ) (xs ys : List ℕ) → AreAbove y ys → list_any (λ k. k == x) (x ∷ xs) ≡ list_any (λ k. k == x) (y ∷ ys) → x < y → ⊥
not_below x y xs ys above same below =
    let other : y ≢ x = λ e. absurd (omega arith) in
    let le : x ≤ y = omega arith in
    let none : list_any (λ k. k == x) (y ∷ ys) ≡ false = or_from (y == x) (list_any (λ k. k == x) ys) (ne_eqb y x other) (any-above x y ys le above) in
    let some : list_any (λ k. k == x) (x ∷ xs) ≡ true = or_left (x == x) (list_any (λ k. k == x) xs) (eq-eqb x x refl) in
    true≢false (sym some ∙ same ∙ none)

same_first : (x y : ℕ) (xs ys : List ℕ) → AreAbove x xs → AreAbove y ys → ((m : ℕ) → list_any (λ k. k == m) (x ∷ xs) ≡ list_any (λ k. k == m) (y ∷ ys)) → x ≡ y
same_first x y xs ys above above' same =
    elim (cases_order x y) [
      | inl e ↦ e
      | inr order ↦ elim order [ inl below ↦ absurd (not_below x y xs ys above' (same x) below) | inr below ↦ absurd (not_below y x ys xs above (sym (same y)) below) ]
    ]

same_others : (x y m : ℕ) (xs ys : List ℕ) → x ≡ y → AreAbove x xs → AreAbove y ys → list_any (λ k. k == m) (x ∷ xs) ≡ list_any (λ k. k == m) (y ∷ ys) →
    list_any (λ k. k == m) xs ≡ list_any (λ k. k == m) ys
same_others x y m xs ys e above above' same =
    elim (cases_eq x m) [
      | inl here ↦
          let le : m ≤ x = omega arith in
          let le' : m ≤ y = omega arith in
          any-above m x xs le above ∙ sym (any-above m y ys le' above')
      | inr other ↦
          let other' : y ≢ m = λ h. other (e ∙ h) in
          sym (or_skip (x == m) (list_any (λ k. k == m) xs) (ne_eqb x m other)) ∙ same ∙ or_skip (y == m) (list_any (λ k. k == m) ys) (ne_eqb y m other')
    ]

-- rising numbers are known by which they are
pub Rise-same : (xs ys : List ℕ) → Rise xs → Rise ys → ((m : ℕ) → list_any (λ k. k == m) xs ≡ list_any (λ k. k == m) ys) → xs ≡ ys
Rise-same [] [] up up' same = refl
Rise-same [] (y ∷ ys) up up' same = absurd (false≢true (same y ∙ or_left (y == y) (list_any (λ k. k == y) ys) (eq-eqb y y refl)))
Rise-same (x ∷ xs) [] up up' same = absurd (true≢false (sym (or_left (x == x) (list_any (λ k. k == x) xs) (eq-eqb x x refl)) ∙ same x))
Rise-same (x ∷ xs) (y ∷ ys) up up' same =
    let first : x ≡ y = same_first x y xs ys up.0 up'.0 same in
    ap₂ (λ n ns. n ∷ ns) first (Rise-same xs ys up.1 up'.1 (λ m. same_others x y m xs ys first up.0 up'.0 (same m)))

-- ---- a node among rising ones

with_node-same : (n first : ℕ) (rest : List ℕ) → n ≡ first → with_node n (first ∷ rest) ≡ first ∷ rest
with_node-same n first rest e = cond-true (n == first) _ _ (eq-eqb n first e)

with_node-below : (n first : ℕ) (rest : List ℕ) → n < first → with_node n (first ∷ rest) ≡ n ∷ first ∷ rest
with_node-below n first rest below =
    let other : n ≢ first = λ e. absurd (omega arith) in
    cond-false (n == first) _ _ (ne_eqb n first other) ∙ cond-true _ _ _ (lt-ltb n first below)

with_node-above : (n first : ℕ) (rest : List ℕ) → first < n → with_node n (first ∷ rest) ≡ first ∷ with_node n rest
with_node-above n first rest above =
    let other : n ≢ first = λ e. absurd (omega arith) in
    let le : first ≤ n = omega arith in
    cond-false (n == first) _ _ (ne_eqb n first other) ∙ cond-false _ _ _ (le-ltb n first le)

-- where it comes to stand
with_node-cases : (P : List ℕ → Type 0) (n first : ℕ) (rest : List ℕ) →
    (n ≡ first → P (first ∷ rest)) → (n < first → P (n ∷ first ∷ rest)) → (first < n → P (first ∷ with_node n rest)) → P (with_node n (first ∷ rest))
with_node-cases P n first rest same below above =
    elim (cases_order n first) [
      | inl e ↦ subst P (sym (with_node-same n first rest e)) (same e)
      | inr order ↦
          elim order [
            | inl h ↦ subst P (sym (with_node-below n first rest h)) (below h)
            | inr h ↦ subst P (sym (with_node-above n first rest h)) (above h)
          ]
    ]

AreAbove-with_node : (k n : ℕ) (ns : List ℕ) → k < n → AreAbove k ns → AreAbove k (with_node n ns)
AreAbove-with_node k n [] below above = (below, tt)
AreAbove-with_node k n (first ∷ rest) below above =
    with_node-cases (AreAbove k) n first rest (λ e. above) (λ h. (below, above)) (λ h. (above.0, AreAbove-with_node k n rest below above.1))

Rise-with_node : (n : ℕ) (ns : List ℕ) → Rise ns → Rise (with_node n ns)
Rise-with_node n [] up = (tt, tt)
Rise-with_node n (first ∷ rest) up =
    with_node-cases Rise n first rest (λ e. up) (λ h. ((h, AreAbove-lower n first rest h up.0), up)) (λ h. (AreAbove-with_node first n rest h up.0, Rise-with_node n rest up.1))

any-with_node : (m n : ℕ) (ns : List ℕ) → list_any (λ k. k == m) (with_node n ns) ≡ ((n == m) || list_any (λ k. k == m) ns)
any-with_node m n [] = refl
any-with_node m n (first ∷ rest) =
    with_node-cases (λ ns. list_any (λ k. k == m) ns ≡ ((n == m) || list_any (λ k. k == m) (first ∷ rest))) n first rest
    (λ e. or_again (first == m) (list_any (λ k. k == m) rest) ∙ ap (λ k. (k == m) || list_any (λ k. k == m) (first ∷ rest)) (sym e))
    (λ h. refl)
    (λ h. ap (λ b. (first == m) || b) (any-with_node m n rest) ∙ or_swap (first == m) (n == m) (list_any (λ k. k == m) rest))

with_node-front : (n : ℕ) (ns : List ℕ) → AreAbove n ns → with_node n ns ≡ n ∷ ns
with_node-front n [] above = refl
with_node-front n (first ∷ rest) above = with_node-below n first rest above.0

-- ---- the nodes of a log

pub Rise-nodes_of : (log : List FileEntry) → Rise (nodes_of log)
Rise-nodes_of [] = tt
Rise-nodes_of (e ∷ log) = Rise-with_node e.node (nodes_of log) (Rise-nodes_of log)

abbrev has_some : List FileEntry → Bool
has_some [] = false
has_some (e ∷ log) = true

has_some-more : (b : Bool) (e : FileEntry) (log : List FileEntry) → (b || has_some log) ≡ has_some (cond b (e ∷ log) log)
has_some-more b e log = elim b as (λ b. (b || has_some log) ≡ has_some (cond b (e ∷ log) log)) [ true ↦ refl | false ↦ refl ]

any-nodes_of : (node : ℕ) (log : List FileEntry) → list_any (λ k. k == node) (nodes_of log) ≡ has_some (entries_at node log)
any-nodes_of node [] = refl
any-nodes_of node (e ∷ log) =
    any-with_node node e.node (nodes_of log) ∙ ap (λ b. (e.node == node) || b) (any-nodes_of node log) ∙ has_some-more (e.node == node) e (entries_at node log)

pub nodes_of-same : (xs ys : List FileEntry) → ((node : ℕ) → entries_at node xs ≡ entries_at node ys) → nodes_of xs ≡ nodes_of ys
nodes_of-same xs ys same =
    Rise-same (nodes_of xs) (nodes_of ys) (Rise-nodes_of xs) (Rise-nodes_of ys) (λ node. any-nodes_of node xs ∙ ap has_some (same node) ∙ sym (any-nodes_of node ys))

AreAbove-nodes_of : (n : ℕ) (log : List FileEntry) → All (λ e. n < e.node) log → AreAbove n (nodes_of log)
AreAbove-nodes_of n [] all = tt
AreAbove-nodes_of n (e ∷ log) all =
    AreAbove-with_node n e.node (nodes_of log) (All-head (λ e. n < e.node) e log all) (AreAbove-nodes_of n log (All-tail (λ e. n < e.node) e log all))

-- those of one node stand in front of others of higher nodes
nodes_of-run : (n : ℕ) (first : FileEntry) (run rest : List FileEntry) → All (λ e. e.node ≡ n) (first ∷ run) → AreAbove n (nodes_of rest) →
    nodes_of ((first ∷ run) ++ rest) ≡ n ∷ nodes_of rest
nodes_of-run n first [] rest all above = ap (λ k. with_node k (nodes_of rest)) (All-head (λ e. e.node ≡ n) first [] all) ∙ with_node-front n (nodes_of rest) above
nodes_of-run n first (second ∷ run) rest all above =
    ap₂ with_node (All-head (λ e. e.node ≡ n) first (second ∷ run) all) (nodes_of-run n second run rest (All-tail (λ e. e.node ≡ n) first (second ∷ run) all) above)
    ∙ with_node-same n n (nodes_of rest) refl

-- ---- the entries of a node

entries_at-all : (n : ℕ) (log : List FileEntry) → All (λ e. e.node ≡ n) log → entries_at n log ≡ log
entries_at-all n [] all = refl
entries_at-all n (e ∷ log) all =
    cond-true (e.node == n) _ _ (eq-eqb e.node n (All-head (λ e. e.node ≡ n) e log all)) ∙ ap (λ rest. e ∷ rest) (entries_at-all n log (All-tail (λ e. e.node ≡ n) e log all))

entries_at-none : (n : ℕ) (log : List FileEntry) → All (λ e. e.node ≢ n) log → entries_at n log ≡ []
entries_at-none n [] all = refl
entries_at-none n (e ∷ log) all =
    cond-false (e.node == n) _ _ (ne_eqb e.node n (All-head (λ e. e.node ≢ n) e log all)) ∙ entries_at-none n log (All-tail (λ e. e.node ≢ n) e log all)

entries_at-run : (n : ℕ) (run rest : List FileEntry) → All (λ e. e.node ≡ n) run → All (λ e. n < e.node) rest → entries_at n (run ++ rest) ≡ run
entries_at-run n run rest all behind =
    let others : All (λ e. e.node ≢ n) rest = λ k d h. λ e. let higher = behind k d h in absurd (omega (arith, higher, e)) in
    filter-append (λ e. e.node == n) run rest ∙ ap₂ (λ a b. a ++ b) (entries_at-all n run all) (entries_at-none n rest others) ∙ append-nil run

entries_at-behind : (m n : ℕ) (run rest : List FileEntry) → n < m → All (λ e. e.node ≡ n) run → entries_at m (run ++ rest) ≡ entries_at m rest
entries_at-behind m n run rest above all =
    let others : All (λ e. e.node ≢ m) run = λ k d h. λ e. let here = all k d h in absurd (omega (arith, here, e)) in
    filter-append (λ e. e.node == m) run rest ∙ ap (λ front. front ++ entries_at m rest) (entries_at-none m run others)

-- ---- the histories of all files

flat_map-agree : (f g : ℕ → List ℕ) → ((n : ℕ) → f n ≡ g n) → (ns : List ℕ) → flat_map f ns ≡ flat_map g ns
flat_map-agree f g same [] = refl
flat_map-agree f g same (n ∷ ns) = ap₂ (λ a b. a ++ b) (same n) (flat_map-agree f g same ns)

flat_map-above : (f g : ℕ → List ℕ) (n : ℕ) → ((m : ℕ) → n < m → f m ≡ g m) → (ns : List ℕ) → AreAbove n ns → flat_map f ns ≡ flat_map g ns
flat_map-above f g n same [] above = refl
flat_map-above f g n same (m ∷ ns) above = ap₂ (λ a b. a ++ b) (same m above.0) (flat_map-above f g n same ns above.1)

-- they depend on the entries of each node alone
pub files_text-same : (xs ys : List FileEntry) → ((node : ℕ) → entries_at node xs ≡ entries_at node ys) → files_text xs ≡ files_text ys
files_text-same xs ys same =
    ap (flat_map (λ node. file_text node (entries_at node xs))) (nodes_of-same xs ys same)
    ∙ flat_map-agree (λ node. file_text node (entries_at node xs)) (λ node. file_text node (entries_at node ys)) (λ node. ap (file_text node) (same node)) (nodes_of ys)

-- entries of one node in front of others of higher nodes are told first
pub files_text-run : (n : ℕ) (first : FileEntry) (run rest : List FileEntry) → All (λ e. e.node ≡ n) (first ∷ run) → All (λ e. n < e.node) rest →
    files_text ((first ∷ run) ++ rest) ≡ file_text n (first ∷ run) ++ files_text rest
files_text-run n first run rest all behind =
    let above : AreAbove n (nodes_of rest) = AreAbove-nodes_of n rest behind in
    ap (flat_map (λ node. file_text node (entries_at node ((first ∷ run) ++ rest)))) (nodes_of-run n first run rest all above)
    ∙ ap₂ (λ a b. a ++ b) (ap (file_text n) (entries_at-run n (first ∷ run) rest all behind))
    (flat_map-above (λ node. file_text node (entries_at node ((first ∷ run) ++ rest))) (λ node. file_text node (entries_at node rest)) n (λ m h. ap (file_text m) (entries_at-behind m n (first ∷ run) rest h all)) (nodes_of rest) above)
