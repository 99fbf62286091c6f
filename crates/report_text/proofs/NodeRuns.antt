-- Entries by rising nodes: those of one node stand in a row, in the order that they had.
use Rattle.std.proofs.Common.{◌≡◌, ℕ, zero, suc, ◌+◌, ◌<◌, ◌≤◌, ◌==◌, Bool, true, false, cond, not, ◌&&◌, List, [], ◌∷◌, ◌++◌, refl, sym, ◌∙◌, ap, arith, length, take, drop, get_or, map, filter, All, Bor, nat_cmp, is_lt, take-append-drop, length-take, length-take-le, length-drop, drop-drop, get_or-drop, le_antisymm, subst, leb, leb-true, leb-false}
use Rattle.std.specs.List.Sorted.{IsNonDecreasingBy, IsPartitionPoint, IsStableByKey, ties}
use Rattle.std.proofs.lemmas.Bool.Decides.{nat_tests}
use Rattle.std.proofs.lemmas.List.{map-append, get_or-take}
use Rattle.std.proofs.lemmas.List.Elements.{All-map, filter_agree}
use Rattle.std.proofs.lemmas.List.Sorted.{IsNonDecreasingBy-drop}
use Rattle.session_model.specs.declared.entry.FileEntry.{FileEntry}
use Rattle.session_model.specs.declared.file.FileCall.TheVariants.{Sync}
use Rattle.session_model.specs.declared.file.FileReply.TheVariants.{Done}
use Rattle.file_model.specs.FileLog.{entries_at}
use Rattle.served_model.specs.ReportText.{file_text, files_text}
use Rattle.served_model.proofs.FileNodes.{files_text-run}

-- ---- what a stable sort by nodes keeps

map-cond : {X Y : Type 0} (f : X → Y) (b : Bool) (x : X) (xs : List X) → cond b (f x ∷ map f xs) (map f xs) ≡ map f (cond b (x ∷ xs) xs)
map-cond f b x xs = elim b as (λ b. cond b (f x ∷ map f xs) (map f xs) ≡ map f (cond b (x ∷ xs) xs)) [ true ↦ refl | false ↦ refl ]

filter_of_map : {X Y : Type 0} (p : Y → Bool) (f : X → Y) (xs : List X) → filter p (map f xs) ≡ map f (filter (λ x. p (f x)) xs)
filter_of_map p f [] = refl
filter_of_map p f (x ∷ xs) = ap (λ rest. cond (p (f x)) (f x ∷ rest) rest) (filter_of_map p f xs) ∙ map-cond f (p (f x)) x (filter (λ x. p (f x)) xs)

-- nodes tie exactly where they are one
tie_is : (m n : ℕ) → (n == m) ≡ (not (is_lt (nat_cmp m n)) && not (is_lt (nat_cmp n m)))
tie_is m n = grind (arith, nat_tests)

abbrev some_entry : ℕ → FileEntry
some_entry node = record { session = 0; op = 0; node = node; call = Sync 0; reply = Done; before = 0; after = 0 }

abbrev some_reference : ℕ → Bor FileEntry
some_reference node = record { ref_ptr = (0, 0); now = some_entry node }

pub entries_at-stable : (xs ys : List (Bor FileEntry)) → IsStableByKey (λ (e : Bor FileEntry). e.now.node) nat_cmp xs ys →
    (node : ℕ) → entries_at node (map (λ e. e.now) ys) ≡ entries_at node (map (λ e. e.now) xs)
entries_at-stable xs ys stable node =
    let p : FileEntry → Bool = λ e. e.node == node in
    let q : Bor FileEntry → Bool = λ e. e.now.node == node in
    let tie : Bor FileEntry → Bool = ties (λ (x y : Bor FileEntry). is_lt (nat_cmp x.now.node y.now.node)) (some_reference node) in
    let agree : (e : Bor FileEntry) → q e ≡ tie e = λ e. tie_is node e.now.node in
    filter_of_map p (λ e. e.now) ys ∙ ap (map (λ e. e.now)) (filter_agree q tie agree ys ∙ stable (some_reference node) ∙ sym (filter_agree q tie agree xs))
    ∙ sym (filter_of_map p (λ e. e.now) xs)

-- ---- up to a node, and behind it

pub All-below_point : (xs : List (Bor FileEntry)) (node i : ℕ) → IsPartitionPoint (λ (e : Bor FileEntry). leb e.now.node node ≡ true) (λ (e : Bor FileEntry). leb e.now.node node ≡ false) xs i →
    All (λ (e : Bor FileEntry). e.now.node ≤ node) (take i xs)
All-below_point xs node i point k d lt =
    let within : k < i = omega (arith, length-take i xs) in
    let P : Bor FileEntry → Type 0 = λ e. e.now.node ≤ node in
    subst P (sym (get_or-take i xs k d within)) (leb-true _ _ (point.0 k d (omega arith) within))

pub All-behind_point : (xs : List (Bor FileEntry)) (node i : ℕ) → IsPartitionPoint (λ (e : Bor FileEntry). leb e.now.node node ≡ true) (λ (e : Bor FileEntry). leb e.now.node node ≡ false) xs i →
    All (λ (e : Bor FileEntry). node < e.now.node) (drop i xs)
All-behind_point xs node i point k d lt =
    let P : Bor FileEntry → Type 0 = λ e. node < e.now.node in
    subst P (sym (get_or-drop i xs k d)) (leb-false _ _ (point.1 (i + k) d (omega arith) (omega (arith, length-drop i xs))))

-- ---- the entries of the first node

first_node : (x : Bor FileEntry) (xs : List (Bor FileEntry)) (i : ℕ) → IsNonDecreasingBy (λ (e : Bor FileEntry). e.now.node) (x ∷ xs) → All (λ (e : Bor FileEntry). e.now.node ≤ x.now.node) (take i (x ∷ xs)) →
    All (λ (e : Bor FileEntry). e.now.node ≡ x.now.node) (take i (x ∷ xs))
first_node x xs i up inside k d lt =
    let within : k < i = omega (arith, length-take i (x ∷ xs)) in
    let below : k < length (x ∷ xs) = omega (arith, length-take i (x ∷ xs)) in
    let same : get_or (take i (x ∷ xs)) k d ≡ get_or (x ∷ xs) k d = get_or-take i (x ∷ xs) k d within in
    let P : Bor FileEntry → Type 0 = λ e. x.now.node ≤ e.now.node in
    le_antisymm (inside k d lt) (subst P (sym same) (up 0 k d (omega arith) below))

-- they are told first
files_text-first : (rest : List (Bor FileEntry)) (i : ℕ) (d : Bor FileEntry) → 0 < length rest → IsNonDecreasingBy (λ (e : Bor FileEntry). e.now.node) rest →
    All (λ (e : Bor FileEntry). e.now.node ≤ (get_or rest 0 d).now.node) (take i rest) → All (λ (e : Bor FileEntry). (get_or rest 0 d).now.node < e.now.node) (drop i rest) →
    files_text (map (λ e. e.now) rest) ≡ file_text (get_or rest 0 d).now.node (map (λ e. e.now) (take i rest)) ++ files_text (map (λ e. e.now) (drop i rest))
files_text-first [] i d some up inside behind = absurd (omega arith)
files_text-first (x ∷ xs) zero d some up inside behind = let higher : x.now.node < x.now.node = behind 0 x (omega arith) in absurd (omega arith)
files_text-first (x ∷ xs) (suc i) d some up inside behind =
    let now : Bor FileEntry → FileEntry = λ e. e.now in
    let node : ℕ = x.now.node in
    ap files_text (ap (λ rest. x.now ∷ rest) (ap (map now) (sym (take-append-drop i xs)) ∙ map-append now (take i xs) (drop i xs)))
    ∙ files_text-run node x.now (map now (take i xs)) (map now (drop i xs)) (All-map (λ e. e.node ≡ node) now (x ∷ take i xs) (first_node x xs (suc i) up inside))
    (All-map (λ e. node < e.node) now (drop i xs) behind)

-- and so at each place where entries of another node begin
pub files_text-from : (entries rest : List (Bor FileEntry)) (start i : ℕ) (d : Bor FileEntry) → rest ≡ drop start entries → start < length entries → i ≤ length rest →
    IsNonDecreasingBy (λ (e : Bor FileEntry). e.now.node) entries →
    All (λ (e : Bor FileEntry). e.now.node ≤ (get_or rest 0 d).now.node) (take i rest) → All (λ (e : Bor FileEntry). (get_or rest 0 d).now.node < e.now.node) (drop i rest) →
    files_text (map (λ e. e.now) (drop start entries))
    ≡ file_text (get_or rest 0 d).now.node (map (λ e. e.now) (take i rest)) ++ files_text (map (λ e. e.now) (drop (start + length (take i rest)) entries))
files_text-from entries rest start i d is below within up inside behind =
    let node : Bor FileEntry → ℕ = λ e. e.now.node in
    let rising : IsNonDecreasingBy node rest = subst (IsNonDecreasingBy node) (sym is) (IsNonDecreasingBy-drop node start entries up) in
    let some : 0 < length rest = omega (arith, ap length is, length-drop start entries) in
    let behind_it : drop i rest ≡ drop (start + length (take i rest)) entries =
    ap (drop i) is ∙ drop-drop i start entries ∙ ap (λ n. drop (start + n) entries) (sym (length-take-le i rest within)) in
    ap (λ xs. files_text (map (λ e. e.now) xs)) (sym is) ∙ files_text-first rest i d some rising inside behind
    ∙ ap (λ xs. file_text (get_or rest 0 d).now.node (map (λ e. e.now) (take i rest)) ++ files_text (map (λ e. e.now) xs)) behind_it
