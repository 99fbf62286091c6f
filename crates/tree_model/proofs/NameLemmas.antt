-- Names in octet order: what is found, and the order, behind a name that was put to its place.
use Rattle.std.proofs.Common.{◌≡◌, ℕ, Bool, true, false, cond, inl, inr, List, [], ◌∷◌, Some, refl, sym, ap, subst, ◌∙◌}
use Rattle.std.specs.Prelude.{IsTrue, None, not}
use Rattle.std.specs.Ordering.{nat_cmp, is_eq, is_lt, match_ordering, ordering_reverse}
use Rattle.std.specs.declared.cmp.Ordering.{Ordering}
use Rattle.std.specs.declared.cmp.Ordering.TheVariants.{Less, Equal, Greater}
use Rattle.std.specs.Cmp.{eq_by_cmp_equiv}
use Rattle.std.specs.Cmp.Lexicographic.{slice_cmp, nat_list_cmp_total}
use Rattle.std.proofs.lemmas.Map.Entries.{lookup-filter-keys}
use Rattle.std.proofs.lemmas.Map.Lookups.{exact_bytes}
use Rattle.std.proofs.lemmas.Bool.{cases_Bool, false≢true}
use Rattle.lower_model.specs.Name.{is_name}
use Rattle.lower_model.specs.LowerTree.{comes_before}
use Rattle.tree_model.specs.Names.{is_named, entry_at, put_entry, without, RisesBehind}

-- ---- equal names

-- each name compares as equal to itself
pub is_named_same : (a : List ℕ) → is_named a a ≡ true
is_named_same a = (eq_by_cmp_equiv nat_list_cmp_total).refl a

is_eq_Equal : (o : Ordering) → is_eq o ≡ true → o ≡ Equal
is_eq_Equal Less h = absurd (false≢true h)
is_eq_Equal Equal h = refl
is_eq_Equal Greater h = absurd (false≢true h)

-- names that compare as equal are equal
pub is_named_is : (a b : List ℕ) → is_named a b ≡ true → a ≡ b
is_named_is a b h = exact_bytes a b (is_eq_Equal (slice_cmp nat_cmp a b) h)

-- whichever of the two comes first
pub is_named_both : (a b : List ℕ) → is_named a b ≡ is_named b a
is_named_both a b = (eq_by_cmp_equiv nat_list_cmp_total).symm a b

-- ---- one name before another

less : (o : Ordering) → is_lt o ≡ true → o ≡ Less
less Less h = refl
less Equal h = absurd cc
less Greater h = absurd cc

pub before_less : (a b : List ℕ) → IsTrue (comes_before a b) → slice_cmp nat_cmp a b ≡ Less
before_less a b h = less (slice_cmp nat_cmp a b) h

-- the order of names goes from one to the next
pub before_trans : (a b c : List ℕ) → IsTrue (comes_before a b) → IsTrue (comes_before b c) → IsTrue (comes_before a c)
before_trans a b c p q = ap is_lt (nat_list_cmp_total.trans a b c (before_less a b p) (before_less b c q))

-- ---- what is found

cond_twice : {A : Type 0} (b : Bool) (x y z : A) → cond b x z ≡ cond b x (cond b y z)
cond_twice true x y z = refl
cond_twice false x y z = refl

entry_at-put_first : {X : Type 0} (o : Ordering) (q k : List ℕ) (e : List ℕ × X) (v : X) (es rest : List (List ℕ × X)) → o ≡ slice_cmp nat_cmp k e.0
    → entry_at q rest ≡ cond (is_named k q) (Some v) (entry_at q es)
    → entry_at q (match_ordering o ((k, v) ∷ e ∷ es) ((e.0, v) ∷ es) (e ∷ rest)) ≡ cond (is_named k q) (Some v) (entry_at q (e ∷ es))
entry_at-put_first Less q k e v es rest is later = rw (is_named_both q k) refl
entry_at-put_first Equal q k e v es rest is later =
    let same : k ≡ e.0 = exact_bytes k e.0 (sym is) in
    rw (← same) (rw (is_named_both q k) (cond_twice (is_named k q) (Some v) (Some e.1) (entry_at q es)))
entry_at-put_first Greater q k e v es rest is later =
    elim (cases_Bool (is_named k q)) [
      | inl h ↦ (let miss : is_named q e.0 ≡ false = subst (λ (z : List ℕ). is_named z e.0 ≡ false) (is_named_is k q h) (ap is_eq (sym is)) in
          rw miss (rw h (rw h at later)))
      | inr h ↦ rw h (ap (cond (is_named q e.0) (Some e.1)) (rw h at later))
    ]

-- what is found where an entry was put: what it has under its name, else what was found before
pub entry_at-put_entry : {X : Type 0} (q : List ℕ) (es : List (List ℕ × X)) (k : List ℕ) (v : X) → entry_at q (put_entry es k v) ≡ cond (is_named k q) (Some v) (entry_at q es)
entry_at-put_entry q [] k v = rw (is_named_both q k) refl
entry_at-put_entry q (e ∷ es) k v = entry_at-put_first (slice_cmp nat_cmp k e.0) q k e v es (put_entry es k v) refl (entry_at-put_entry q es k v)

-- ---- the order

-- each name comes behind the empty list
pub comes_behind_nothing : (a : List ℕ) → IsTrue (is_name a) → IsTrue (comes_before [] a)
comes_behind_nothing [] h = h
comes_behind_nothing (x ∷ xs) h = refl

pub greater_turned : (a b : List ℕ) → slice_cmp nat_cmp a b ≡ Greater → IsTrue (comes_before b a)
greater_turned a b h = ap is_lt (nat_list_cmp_total.antisymm b a ∙ ap ordering_reverse h)

RisesBehind-put_first : {X : Type 0} (o : Ordering) (last k : List ℕ) (e : List ℕ × X) (v : X) (es rest : List (List ℕ × X)) → o ≡ slice_cmp nat_cmp k e.0
    → IsTrue (comes_before last k) → IsTrue (is_name k) → RisesBehind last (e ∷ es)
    → (IsTrue (comes_before e.0 k) → RisesBehind e.0 rest)
    → RisesBehind last (match_ordering o ((k, v) ∷ e ∷ es) ((e.0, v) ∷ es) (e ∷ rest))
RisesBehind-put_first Less last k e v es rest is before name rises later = (before, name, (ap is_lt (sym is), rises.1, rises.2))
RisesBehind-put_first Equal last k e v es rest is before name rises later = rises
RisesBehind-put_first Greater last k e v es rest is before name rises later = (rises.0, rises.1, later (greater_turned k e.0 (sym is)))

-- an entry at its place in octet order leaves the names rising
pub RisesBehind-put_entry : {X : Type 0} (last : List ℕ) (es : List (List ℕ × X)) (k : List ℕ) (v : X) → IsTrue (comes_before last k) → IsTrue (is_name k) → RisesBehind last es → RisesBehind last (put_entry es k v)
RisesBehind-put_entry last [] k v before name rises = (before, name, tt)
RisesBehind-put_entry last (e ∷ es) k v before name rises =
    RisesBehind-put_first (slice_cmp nat_cmp k e.0) last k e v es (put_entry es k v) refl before name rises (λ b. RisesBehind-put_entry e.0 es k v b name rises.2)

-- names with an entry put to its place rise
pub put_rises : {X : Type 0} (es new : List (List ℕ × X)) (name : List ℕ) (v : X) → RisesBehind [] es → IsTrue (is_name name) → new ≡ put_entry es name v → RisesBehind [] new
put_rises es new name v rises lawful is = subst (RisesBehind []) (sym is) (RisesBehind-put_entry [] es name v (comes_behind_nothing name lawful) lawful rises)

-- ---- without a name

-- what is found without a name: nothing under it, else what was found before
pub entry_at-without : {X : Type 0} (name q : List ℕ) (es : List (List ℕ × X)) → entry_at q (without name es) ≡ cond (is_named name q) None (entry_at q es)
entry_at-without name q es =
    elim (cases_Bool (is_named name q)) [
      | inl h ↦ (let e : name ≡ q = is_named_is name q h in
          lookup-filter-keys (is_named q) (λ k. not (is_named name k)) false (λ k t. ap not (subst (λ (z : List ℕ). is_named z k ≡ true) (sym e) t)) es ∙ rw h refl)
      | inr h ↦ (lookup-filter-keys (is_named q) (λ k. not (is_named name k)) true
          (λ k t. ap not (subst (λ (z : List ℕ). is_named name z ≡ false) (is_named_is q k t) h)) es ∙ rw h refl)
    ]

-- names that rise stand behind what is before them
rises_earlier : {X : Type 0} (a b : List ℕ) (es : List (List ℕ × X)) → IsTrue (comes_before a b) → RisesBehind b es → RisesBehind a es
rises_earlier a b [] h r = tt
rises_earlier a b (e ∷ es) h r = (before_trans a b e.0 h r.0, r.1, r.2)

-- names without one rise
pub RisesBehind-without : {X : Type 0} (last name : List ℕ) (es : List (List ℕ × X)) → RisesBehind last es → RisesBehind last (without name es)
RisesBehind-without last name [] r = tt
RisesBehind-without last name (e ∷ es) r =
    elim (cases_Bool (is_named name e.0)) [
      | inl t ↦ rw t (RisesBehind-without last name es (rises_earlier last e.0 es r.0 r.2))
      | inr f ↦ rw f (r.0, r.1, RisesBehind-without e.0 name es r.2)
    ]
