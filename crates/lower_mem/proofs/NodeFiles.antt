-- The files of a store by the numbers of their nodes.
use Rattle.std.proofs.Common.{◌≡◌, ◌≢◌, ℕ, zero, suc, ◌<◌, ◌≤◌, ◌+◌, ◌-◌, ◌/◌, ◌%◌, inl, inr, List, [], ◌∷◌, ◌++◌, length, Option, Some, refl, sym, ap, subst, ◌∙◌, arith, replicate, eq-eqb, ne_eqb}
use Rattle.std.specs.Prelude.{slice_get, slice_set, unwrap_or}
use Rattle.std.proofs.lemmas.Bool.{cases_eq, cases_lt}
use Rattle.std.proofs.lemmas.List.{length-set, length-append, length-replicate, set_past}
use Rattle.std.proofs.lemmas.Option.{slice_get_past}
use Rattle.lower_tree.specs.Held.{stores}
use Rattle.lower_mem.specs.Files.{FileInMemory, nothing}
use Rattle.lower_mem.specs.Bodies.{BodiesInMemory, place_of, file_at_node, with_files, with_file, padded}

get_set_here : (xs : List FileInMemory) (i : ℕ) (v : FileInMemory) → i < length xs → slice_get (slice_set xs i v) i ≡ Some v
get_set_here [] i v lt = absurd (omega arith)
get_set_here (x ∷ xs) zero v lt = refl
get_set_here (x ∷ xs) (suc i) v lt = get_set_here xs i v (omega arith)

get_set_other : (xs : List FileInMemory) (i k : ℕ) (v : FileInMemory) → k ≢ i → slice_get (slice_set xs i v) k ≡ slice_get xs k
get_set_other [] i k v ne = refl
get_set_other (x ∷ xs) zero zero v ne = absurd (ne refl)
get_set_other (x ∷ xs) zero (suc k) v ne = refl
get_set_other (x ∷ xs) (suc i) zero v ne = refl
get_set_other (x ∷ xs) (suc i) (suc k) v ne = get_set_other xs i k v (λ e. ne (ap suc e))

abbrev or_nothing : Option FileInMemory → FileInMemory
or_nothing file = unwrap_or file nothing

-- where a node of the store has its place, and that another one has none
pub place_own : (b : BodiesInMemory) (node : ℕ) → node % stores ≡ b.number → place_of b node ≡ node / stores
place_own b node is = rw (eq-eqb (node % stores) b.number is) refl

place_else : (b : BodiesInMemory) (node : ℕ) → node % stores ≢ b.number → place_of b node ≡ length b.files
place_else b node ne = rw (ne_eqb (node % stores) b.number ne) refl

pub at_own : (b : BodiesInMemory) (node : ℕ) → node % stores ≡ b.number → file_at_node b node ≡ unwrap_or (slice_get b.files (node / stores)) nothing
at_own b node is = ap (λ (i : ℕ). or_nothing (slice_get b.files i)) (place_own b node is)

pub at_past : (b : BodiesInMemory) (node : ℕ) → length b.files ≤ place_of b node → file_at_node b node ≡ nothing
at_past b node le = ap or_nothing (slice_get_past b.files (place_of b node) le)

at_else : (b : BodiesInMemory) (node : ℕ) → node % stores ≢ b.number → file_at_node b node ≡ nothing
at_else b node ne = at_past b node (omega (arith, place_else b node ne))

module _ (b : BodiesInMemory) (node : ℕ) (f : FileInMemory) where
  abbrev after : BodiesInMemory
  after = with_file node f b

  long : length after.files ≡ length b.files
  long = length-set b.files (place_of b node) f

  -- the files of other nodes stay
  pub at_other : (k : ℕ) → k ≢ node → file_at_node after k ≡ file_at_node b k
  at_other k ne = elim (cases_eq (k % stores) b.number) [
    | inl own ↦
        let same : slice_get after.files (k / stores) ≡ slice_get b.files (k / stores) = elim (cases_eq (node % stores) b.number) [
          | inl is ↦ (let apart : k / stores ≢ place_of b node = (λ e. (let at : place_of b node ≡ node / stores = place_own b node is in ne (omega (arith, own, is, e, at)))) in
              get_set_other b.files (place_of b node) (k / stores) f apart)
          | inr is ↦ ap (λ (xs : List FileInMemory). slice_get xs (k / stores)) (set_past b.files (place_of b node) f (omega (arith, place_else b node is)))
        ] in
        at_own after k own ∙ ap or_nothing same ∙ sym (at_own b k own)
    | inr other ↦ at_else after k other ∙ sym (at_else b k other)
  ]

  -- its own is that, where it has a place
  pub at_placed : place_of b node < length b.files → file_at_node after node ≡ f
  at_placed lt = elim (cases_eq (node % stores) b.number) [
    | inl own ↦ (let at : place_of b node ≡ node / stores = place_own b node own in
        at_own after node own ∙ ap (λ (i : ℕ). or_nothing (slice_get after.files i)) (sym at) ∙ ap or_nothing (get_set_here b.files (place_of b node) f lt))
    | inr other ↦ (let at = place_else b node other in absurd (omega arith))
  ]

  at_missing : length b.files ≤ place_of b node → file_at_node after node ≡ nothing
  at_missing le = ap (λ (xs : List FileInMemory). file_at_node (with_files xs b) node) (set_past b.files (place_of b node) f le) ∙ at_past b node le

  -- what holds of it, and of nothing where it has no place
  pub at_node : (P : FileInMemory → Type 0) → (file_at_node b node ≡ nothing → P nothing) → P f → P (file_at_node after node)
  at_node P none some = elim (cases_lt (place_of b node) (length b.files)) [
    | inl lt ↦ subst P (sym (at_placed lt)) some
    | inr le ↦ subst P (sym (at_missing le)) (none (at_past b node le))
  ]

-- ---- more places

get_more : (xs : List FileInMemory) (n i : ℕ) → or_nothing (slice_get (xs ++ replicate n nothing) i) ≡ or_nothing (slice_get xs i)
get_more [] zero i = refl
get_more [] (suc n) zero = refl
get_more [] (suc n) (suc i) = get_more [] n i
get_more (x ∷ xs) n zero = refl
get_more (x ∷ xs) n (suc i) = get_more xs n i

pub length_padded : (count : ℕ) (files : List FileInMemory) → length (padded count files) ≡ length files + (count - length files)
length_padded count files = length-append files (replicate (count - length files) nothing) ∙ ap (λ (n : ℕ). length files + n) (length-replicate (count - length files) nothing)

-- files stay where more places are added
pub at_padded : (b : BodiesInMemory) (count node : ℕ) → file_at_node (with_files (padded count b.files) b) node ≡ file_at_node b node
at_padded b count node = elim (cases_eq (node % stores) b.number) [
  | inl own ↦ at_own (with_files (padded count b.files) b) node own ∙ get_more b.files (count - length b.files) (node / stores) ∙ sym (at_own b node own)
  | inr other ↦ at_else (with_files (padded count b.files) b) node other ∙ sym (at_else b node other)
]
