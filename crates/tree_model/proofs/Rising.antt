-- Names that rise in octet order.
use Rattle.std.proofs.Common.{◌≡◌, ℕ, false, List, [], ◌∷◌, ◌++◌, None, refl, sym, ap, subst, ◌∙◌, append_assoc}
use Rattle.std.specs.Prelude.{IsTrue}
use Rattle.std.specs.List.{AllByRecursion}
use Rattle.std.specs.Ordering.{nat_cmp, is_eq, ordering_reverse}
use Rattle.std.specs.declared.cmp.Ordering.TheVariants.{Greater}
use Rattle.std.specs.Cmp.Lexicographic.{slice_cmp, nat_list_cmp_total}
use Rattle.std.proofs.lemmas.List.{append-nil}
use Rattle.lower_model.specs.Name.{is_name}
use Rattle.lower_model.specs.LowerTree.{comes_before}
use Rattle.tree_model.specs.Names.{is_named, entry_at, node_of, put_entry, RisesBehind}
use Rattle.tree_model.specs.Shown.{put_entries}
use Rattle.tree_model.proofs.NameLemmas.{before_less, before_trans}

greater : (a b : List ℕ) → IsTrue (comes_before a b) → slice_cmp nat_cmp b a ≡ Greater
greater a b h = nat_list_cmp_total.antisymm b a ∙ ap ordering_reverse (before_less a b h)

is_named-before : (a b : List ℕ) → IsTrue (comes_before a b) → is_named a b ≡ false
is_named-before a b h = ap is_eq (before_less a b h)

-- a name isn't one that comes before it
pub is_named-behind : (a b : List ℕ) → IsTrue (comes_before a b) → is_named b a ≡ false
is_named-behind a b h = ap is_eq (greater a b h)

-- ---- names behind one

absent_before : {X : Type 0} (a b : List ℕ) (es : List (List ℕ × X)) → IsTrue (comes_before a b) → RisesBehind b es → entry_at a es ≡ None
absent_before a b [] p h = refl
absent_before a b (e ∷ es) p h = let q = before_trans a b e.0 p h.0 in rw (is_named-before a e.0 q) (absent_before a e.0 es q h.2)

-- a name that others rise behind isn't one of them
pub absent_itself : {X : Type 0} (a : List ℕ) (es : List (List ℕ × X)) → RisesBehind a es → entry_at a es ≡ None
absent_itself a [] h = refl
absent_itself a (e ∷ es) h = rw (is_named-before a e.0 h.0) (absent_before a e.0 es h.0 h.2)

-- ---- names up to one

-- names that rise behind the first, the last of them this one
abbrev pub RisesTo : List ℕ → List (List ℕ × ℕ) → List ℕ → Type 0
RisesTo first [] last = first ≡ last
RisesTo first (e ∷ es) last = IsTrue (comes_before first e.0) × IsTrue (is_name e.0) × RisesTo e.0 es last

pub RisesBehind-from_rises_to : (first : List ℕ) (es : List (List ℕ × ℕ)) (last : List ℕ) → RisesTo first es last → RisesBehind first es
RisesBehind-from_rises_to first [] last h = tt
RisesBehind-from_rises_to first (e ∷ es) last h = (h.0, h.1, RisesBehind-from_rises_to e.0 es last h.2)

pub RisesTo-push : (first : List ℕ) (es : List (List ℕ × ℕ)) (last name : List ℕ) (n : ℕ) → RisesTo first es last → IsTrue (comes_before last name) → IsTrue (is_name name) → RisesTo first (es ++ (name, n) ∷ []) name
RisesTo-push first [] last name n h p q = (subst (λ (a : List ℕ). IsTrue (comes_before a name)) (sym h) p, q, refl)
RisesTo-push first (e ∷ es) last name n h p q = (h.0, h.1, RisesTo-push e.0 es last name n h.2 p q)

abbrev AllBefore : List ℕ → List (List ℕ × ℕ) → Type 0
AllBefore name es = AllByRecursion (λ (e : List ℕ × ℕ). IsTrue (comes_before e.0 name)) es

AllBefore-from_rises_to : (first : List ℕ) (es : List (List ℕ × ℕ)) (last name : List ℕ) → RisesTo first es last → IsTrue (comes_before last name) → IsTrue (comes_before first name) × AllBefore name es
AllBefore-from_rises_to first [] last name h p = (subst (λ (a : List ℕ). IsTrue (comes_before a name)) (sym h) p, tt)
AllBefore-from_rises_to first (e ∷ es) last name h p =
    let r = AllBefore-from_rises_to e.0 es last name h.2 p in
    (before_trans first e.0 name h.0 r.0, (r.0, r.1))

absent_behind_all : (name : List ℕ) (es : List (List ℕ × ℕ)) → AllBefore name es → node_of name es ≡ None
absent_behind_all name [] h = refl
absent_behind_all name (e ∷ es) h = rw (is_named-behind e.0 name h.0) (absent_behind_all name es h.1)

pub absent_behind : (first : List ℕ) (es : List (List ℕ × ℕ)) (last name : List ℕ) → RisesTo first es last → IsTrue (comes_before last name) → node_of name es ≡ None
absent_behind first es last name h p = absent_behind_all name es (AllBefore-from_rises_to first es last name h p).1

-- ---- names put to their places

put_entry-behind_all : (name : List ℕ) (n : ℕ) (es : List (List ℕ × ℕ)) → AllBefore name es → put_entry es name n ≡ es ++ (name, n) ∷ []
put_entry-behind_all name n [] h = refl
put_entry-behind_all name n (e ∷ es) h = rw (greater e.0 name h.0) (ap (λ (t : List (List ℕ × ℕ)). e ∷ t) (put_entry-behind_all name n es h.1))

AllBefore-push : (name : List ℕ) (es : List (List ℕ × ℕ)) (e : List ℕ × ℕ) → AllBefore name es → IsTrue (comes_before e.0 name) → AllBefore name (es ++ e ∷ [])
AllBefore-push name [] e h p = (p, tt)
AllBefore-push name (x ∷ es) e h p = (h.0, AllBefore-push name es e h.1 p)

put_entries-onto : (done : List (List ℕ × ℕ)) (last : List ℕ) (es : List (List ℕ × ℕ)) → ((name : List ℕ) → IsTrue (comes_before last name) → AllBefore name done) → RisesBehind last es → put_entries done es ≡ done ++ es
put_entries-onto done last [] f h = sym (append-nil done)
put_entries-onto done last (e ∷ es) f h =
    let one : put_entry done e.0 e.1 ≡ done ++ e ∷ [] = put_entry-behind_all e.0 e.1 done (f e.0 h.0) in
    let next = put_entries-onto (done ++ e ∷ []) e.0 es (λ (name : List ℕ) (p : IsTrue (comes_before e.0 name)). AllBefore-push name done e (f name (before_trans last e.0 name h.0 p)) p) h.2 in
    rw one (next ∙ append_assoc done (e ∷ []) es)

-- names that rise are in their places already
pub put_entries-rising : (es : List (List ℕ × ℕ)) → RisesBehind [] es → put_entries [] es ≡ es
put_entries-rising es h = put_entries-onto [] [] es (λ (name : List ℕ) (p : IsTrue (comes_before [] name)). tt) h

-- entries are put one list behind another
pub put_entries-append : (names es fs : List (List ℕ × ℕ)) → put_entries names (es ++ fs) ≡ put_entries (put_entries names es) fs
put_entries-append names [] fs = refl
put_entries-append names (e ∷ es) fs = put_entries-append (put_entry names e.0 e.1) es fs
