-- Tallies to which the faults of parts are added.
use Rattle.std.proofs.Common.{add-one, ◌≡◌, ◌≢◌, ℕ, zero, suc, ◌<◌, ◌≤◌, ◌+◌, inl, inr, List, [], ◌∷◌, length, map, get_or, Option, Some, None, refl, sym, ap, ◌∙◌, arith}
use Rattle.std.specs.Prelude.{slice_get, slice_index_or, slice_set, unwrap_or}
use Rattle.std.proofs.lemmas.Bool.{cases_eq, cases_lt}
use Rattle.std.proofs.lemmas.Bool.Decides.{eqb_tells}
use Rattle.std.proofs.lemmas.List.{length-set}
use Rattle.std.proofs.lemmas.Option.{slice_get-get_or, slice_get_past}
use Rattle.plain_tree.proofs.Places.{slice_get-set}
use Rattle.lower_tree.specs.Held.{HeldParts, stores}
use Rattle.lower_tree.specs.Making.{held_parts, faults_by, faults_of, sum_of_counts}
use Rattle.lower_mem.specs.Names.{NamesInMemory, names_held}
use Rattle.lower_mem.specs.Bodies.{BodiesInMemory, bodies_held}
use Rattle.lower_mem.specs.Making.{tally_at}

-- The faults of the names and of the first stores are added.
pub record Tallied (names : NamesInMemory) (bodies : List BodiesInMemory) (old new : List ℕ) (count : ℕ) : Type 0 where
  pub was : length old ≡ 9
  pub long : length new ≡ 9
  pub done : (part : ℕ) → part < count + 1 → tally_at new part ≡ sum_of_counts (tally_at old part) (faults_of (held_parts names_held bodies_held names bodies) part)
  pub rest : (part : ℕ) → count + 1 ≤ part → tally_at new part ≡ tally_at old part

tally-set : (xs : List ℕ) (i v part : ℕ) → i < length xs → (part ≡ i → tally_at (slice_set xs i v) part ≡ v) × (part ≢ i → tally_at (slice_set xs i v) part ≡ tally_at xs part)
tally-set xs i v part lt = (
  λ e. elim (eqb_tells part i) [
    | inl t ↦ (let get : slice_get (slice_set xs i v) part ≡ Some v = slice_get-set xs i part v lt ∙ rw t.0 refl in ap (λ (o : Option ℕ). unwrap_or o 0) get)
    | inr f ↦ absurd (f.1 e)
  ],
  λ ne. elim (eqb_tells part i) [
    | inl t ↦ absurd (ne t.1)
    | inr f ↦ (let get : slice_get (slice_set xs i v) part ≡ slice_get xs part = slice_get-set xs i part v lt ∙ rw f.0 refl in ap (λ (o : Option ℕ). unwrap_or o 0) get)
  ],
)

abbrev pub faults_in : Option BodiesInMemory → ℕ
faults_in (Some bodies) = (bodies_held bodies).faults
faults_in None = 0

pub faults_at : (bodies : List BodiesInMemory) (i : ℕ) → faults_by (slice_get (map bodies_held bodies) i) ≡ faults_in (slice_get bodies i)
faults_at [] i = refl
faults_at (b ∷ bodies) zero = refl
faults_at (b ∷ bodies) (suc i) = faults_at bodies i

-- a tally as it is read
pub reads : (xs : List ℕ) (i : ℕ) → slice_index_or xs i 0 ≡ tally_at xs i
reads [] i = refl
reads (x ∷ xs) zero = refl
reads (x ∷ xs) (suc i) = reads xs i

module _ (names : NamesInMemory) (bodies : List BodiesInMemory) (old : List ℕ) where
  abbrev parts : HeldParts
  parts = held_parts names_held bodies_held names bodies

  pub tallied_names : (sum : ℕ) → length old ≡ 9 → sum ≡ sum_of_counts (tally_at old 0) names.plan.faults → Tallied names bodies old (slice_set old 0 sum) 0
  tallied_names sum long is = record {
    was = long;
    long = length-set old 0 sum ∙ long;
    done = λ part lt. (let e : part ≡ 0 = omega arith in (tally-set old 0 sum part (omega arith)).0 e ∙ is ∙ ap (λ (p : ℕ). sum_of_counts (tally_at old p) (faults_of parts p)) (sym e));
    rest = λ part le. (tally-set old 0 sum part (omega arith)).1 (λ e. (let lt : 1 ≤ part = omega arith in absurd (omega arith)));
  }

  pub tallied_next : (new : List ℕ) (i sum : ℕ) → Tallied names bodies old new i → i < 8 → sum ≡ sum_of_counts (tally_at new (i + 1)) (faults_in (slice_get bodies i)) → Tallied names bodies old (slice_set new (i + 1) sum) (i + 1)
  tallied_next new i sum t lt is =
      let within : i + 1 < length new = omega (arith, t.long) in
      record {
        was = t.was;
        long = length-set new (i + 1) sum ∙ t.long;
        done = λ part below. elim (cases_eq part (i + 1)) [
          | inl e ↦ (let faults : faults_of parts (i + 1) ≡ faults_in (slice_get bodies i) = rw add-one (faults_at bodies i) in
              (tally-set new (i + 1) sum part within).0 e ∙ is
              ∙ ap (λ (n : ℕ). sum_of_counts n (faults_in (slice_get bodies i))) (t.rest (i + 1) (omega arith))
              ∙ ap (λ (n : ℕ). sum_of_counts (tally_at old (i + 1)) n) (sym faults)
              ∙ ap (λ (p : ℕ). sum_of_counts (tally_at old p) (faults_of parts p)) (sym e))
          | inr ne ↦ (tally-set new (i + 1) sum part within).1 ne ∙ t.done part (let apart : part ≢ i + 1 = ne in omega arith)
        ];
        rest = λ part le. (tally-set new (i + 1) sum part within).1 (λ e. absurd (omega arith)) ∙ t.rest part (omega arith);
      }

  -- the same, as it is read and written
  pub tallied_turn : (new : List ℕ) (i sum : ℕ) (b : BodiesInMemory) → Tallied names bodies old new i → i < 8 → length bodies ≡ stores → b ≡ get_or bodies i b → sum ≡ sum_of_counts (slice_index_or new (i + 1) 0) (bodies_held b).faults → Tallied names bodies old (slice_set new (i + 1) sum) (i + 1)
  tallied_turn new i sum b t lt count is sum_is =
      let there : slice_get bodies i ≡ Some b = slice_get-get_or bodies i b (omega (arith, count)) ∙ ap (λ (x : BodiesInMemory). Some x) (sym is) in
      let faults : (bodies_held b).faults ≡ faults_in (slice_get bodies i) = ap faults_in (sym there) in
      tallied_next new i sum t lt (sum_is ∙ ap (λ (n : ℕ). sum_of_counts n (bodies_held b).faults) (reads new (i + 1)) ∙ ap (λ (n : ℕ). sum_of_counts (tally_at new (i + 1)) n) faults)

  past_none : (xs : List ℕ) (part : ℕ) → length xs ≤ part → tally_at xs part ≡ 0
  past_none xs part le = ap (λ (o : Option ℕ). unwrap_or o 0) (slice_get_past xs part le)

  no_faults : (bs : List BodiesInMemory) (part : ℕ) → length bs < part → faults_of (held_parts names_held bodies_held names bs) part ≡ 0
  no_faults bs zero lt = absurd (omega arith)
  no_faults bs (suc k) lt = faults_at bs k ∙ ap faults_in (slice_get_past bs k (omega arith))

  pub tallied_all : (new : List ℕ) → length bodies ≡ stores → Tallied names bodies old new 8 → (part : ℕ) → tally_at new part ≡ sum_of_counts (tally_at old part) (faults_of parts part)
  tallied_all new count t part = elim (cases_lt part 9) [
    | inl lt ↦ t.done part (omega arith)
    | inr le ↦ past_none new part (omega (arith, t.long))
        ∙ sym (ap (λ (n : ℕ). sum_of_counts n (faults_of parts part)) (past_none old part (omega (arith, t.was))) ∙ ap (λ (n : ℕ). sum_of_counts 0 n) (no_faults bodies part (omega (arith, count))))
  ]
