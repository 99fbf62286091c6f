-- Names that rise, where a binary search looks.
use Rattle.std.proofs.Common.{◌≡◌, ℕ, suc, zero, ◌<◌, ◌≤◌, List, [], ◌∷◌, length, get_or, Some, None, refl, sym, ap, subst, ◌∙◌, arith, inl, inr}
use Rattle.std.specs.Prelude.{IsTrue, slice_set}
use Rattle.std.specs.List.{insert, remove}
use Rattle.std.specs.List.Sorted.{IsNonDecreasingBy, IsPartitionPoint}
use Rattle.std.specs.Ordering.{nat_cmp, ordering_reverse, ordering_index}
use Rattle.std.specs.declared.cmp.Ordering.{Ordering}
use Rattle.std.specs.declared.cmp.Ordering.TheVariants.{Less, Equal, Greater}
use Rattle.std.specs.Cmp.Lexicographic.{slice_cmp, nat_list_cmp_total}
use Rattle.std.proofs.lemmas.Bool.{cases_lt}
use Rattle.std.proofs.lemmas.Map.Lookups.{exact_bytes}
use Rattle.lower_model.specs.LowerTree.{comes_before}
use Rattle.tree_model.specs.Names.{node_of, put_entry, without, RisesBehind}
use Rattle.tree_model.proofs.NameLemmas.{before_less, before_trans}

abbrev Entry : Type 0
Entry = List ℕ × ℕ

abbrev order : List ℕ → Entry → Ordering
order name e = slice_cmp nat_cmp e.0 name

turned : (a b : List ℕ) (o : Ordering) → slice_cmp nat_cmp a b ≡ o → slice_cmp nat_cmp b a ≡ ordering_reverse o
turned a b o h = nat_list_cmp_total.antisymm b a ∙ ap ordering_reverse h

-- each of the names stands behind
rises_at : (last : List ℕ) (es : List Entry) (k : ℕ) (d : Entry) → RisesBehind last es → k < length es → IsTrue (comes_before last (get_or es k d).0)
rises_at last [] k d h lt = absurd (omega arith)
rises_at last (e ∷ es) zero d h lt = h.0
rises_at last (e ∷ es) (suc k) d h lt = before_trans last e.0 (get_or es k d).0 h.0 (rises_at e.0 es k d h.2 (omega arith))

rise_along : (last : List ℕ) (es : List Entry) (i j : ℕ) (d : Entry) → RisesBehind last es → i < j → j < length es → IsTrue (comes_before (get_or es i d).0 (get_or es j d).0)
rise_along last [] i j d h l lt = absurd (omega arith)
rise_along last (e ∷ es) i zero d h l lt = absurd (omega arith)
rise_along last (e ∷ es) zero (suc j) d h l lt = rises_at e.0 es j d h.2 (omega arith)
rise_along last (e ∷ es) (suc i) (suc j) d h l lt = rise_along e.0 es i j d h.2 (omega arith) (omega arith)

index_Less : ordering_index Less ≤ 2
index_Less = omega arith

-- the answers rise with the names
order_rises : (a b name : List ℕ) → IsTrue (comes_before a b) → ordering_index (slice_cmp nat_cmp a name) ≤ ordering_index (slice_cmp nat_cmp b name)
order_rises a b name h = by (slice_cmp nat_cmp b name) refl
  where
    by : (o : Ordering) → slice_cmp nat_cmp b name ≡ o → ordering_index (slice_cmp nat_cmp a name) ≤ ordering_index o
    by Less is = rw (nat_list_cmp_total.trans a b name (before_less a b h) is) (omega arith)
    by Equal is = let same : b ≡ name = exact_bytes b name is in rw (← same, before_less a b h) (omega arith)
    by Greater is = most (slice_cmp nat_cmp a name)
      where
        most : (o : Ordering) → ordering_index o ≤ ordering_index Greater
        most Less = omega arith
        most Equal = omega arith
        most Greater = omega arith

pub answers_rise : (last : List ℕ) (es : List Entry) (name : List ℕ) → RisesBehind last es → IsNonDecreasingBy (λ e. ordering_index (order name e)) es
answers_rise last es name h i j d le lt =
    elim (cases_lt i j) [
      | inl l ↦ order_rises (get_or es i d).0 (get_or es j d).0 name (rise_along last es i j d h l lt)
      | inr ge ↦ (let same : i ≡ j = omega arith in subst (λ (k : ℕ). ordering_index (order name (get_or es i d)) ≤ ordering_index (order name (get_or es k d))) same (omega arith))
    ]

-- names that all stand behind one are the same without it
without_all : (es : List Entry) (name : List ℕ) → ((k : ℕ) (d : Entry) → k < length es → order name (get_or es k d) ≡ Greater) → without name es ≡ es
without_all [] name greater = refl
without_all (x ∷ xs) name greater = rw (turned x.0 name Greater (greater 0 x (omega arith))) (ap (λ (z : List Entry). x ∷ z) (without_all xs name (λ k d lt. greater (suc k) d (omega arith))))

remove_behind : (x : Entry) (xs : List Entry) (at : ℕ) → remove (x ∷ xs) (suc at) ≡ x ∷ remove xs at
remove_behind x xs at = refl

-- ---- a name that is there

pub record IsFound (es : List Entry) (name : List ℕ) (at : ℕ) (e : Entry) : Type 0 where
  pub node : node_of name es ≡ Some e.1
  pub put : (n : ℕ) → put_entry es name n ≡ slice_set es at (e.0, n)
  pub gone : without name es ≡ remove es at

found : (last : List ℕ) (es : List Entry) (name : List ℕ) (at : ℕ) (e : Entry) → RisesBehind last es → at < length es → get_or es at e ≡ e → order name e ≡ Equal → IsFound es name at e
found last [] name at e h lt is same = absurd (omega arith)
found last (x ∷ xs) name zero e h lt is same =
    let reads : x ≡ e = is in
    let equal : slice_cmp nat_cmp name x.0 ≡ Equal = ap (λ (z : Entry). slice_cmp nat_cmp name z.0) reads ∙ turned e.0 name Equal same in
    record {
      node = rw equal (ap (λ (z : Entry). Some z.1) reads);
      put = λ n. rw equal (ap (λ (z : Entry). (z.0, n) ∷ xs) reads);
      gone = rw equal (without_all xs name (λ k d l. turned name (get_or xs k d).0 Less (subst (λ (z : List ℕ). slice_cmp nat_cmp z (get_or xs k d).0 ≡ Less) (ap (λ (z : Entry). z.0) reads ∙ exact_bytes e.0 name same) (before_less x.0 (get_or xs k d).0 (rises_at x.0 xs k d h.2 l)))));
    }
found last (x ∷ xs) name (suc at) e h lt is same =
    let f = found x.0 xs name at e h.2 (omega arith) is same in
    let before : IsTrue (comes_before x.0 e.0) = subst (λ (z : Entry). IsTrue (comes_before x.0 z.0)) is (rises_at x.0 xs at e h.2 (omega arith)) in
    let name_is : e.0 ≡ name = exact_bytes e.0 name same in
    let greater : slice_cmp nat_cmp name x.0 ≡ Greater = turned x.0 name Less (subst (λ (z : List ℕ). slice_cmp nat_cmp x.0 z ≡ Less) name_is (before_less x.0 e.0 before)) in
    record { node = rw greater f.node; put = λ n. rw greater (ap (λ (z : List Entry). x ∷ z) (f.put n)); gone = rw greater (ap (λ (z : List Entry). x ∷ z) f.gone ∙ sym (remove_behind x xs at)) }

pub found_at : (es seen : List Entry) (name : List ℕ) (at : ℕ) (e : Entry) → RisesBehind [] es → seen ≡ es → at < length seen → e ≡ get_or es at e → ((d : Entry) → order name (get_or seen at d) ≡ Equal) → IsFound es name at e
found_at es seen name at e h same lt is here =
    let equal : order name (get_or es at e) ≡ Equal = subst (λ (l : List Entry). order name (get_or l at e) ≡ Equal) same (here e) in
    found [] es name at e h (subst (λ (l : List Entry). at < length l) same lt) (sym is) (subst (λ (z : Entry). order name z ≡ Equal) (sym is) equal)

-- an entry with another node, at the place where its name was found
pub put_found : (es seen : List Entry) (name : List ℕ) (at n : ℕ) (e new : Entry) → RisesBehind [] es → seen ≡ es → at < length seen → e ≡ get_or es at e → ((d : Entry) → order name (get_or seen at d) ≡ Equal) → new ≡ (e.0, n)
    → slice_set es at new ≡ put_entry es name n
put_found es seen name at n e new h same lt is here with_node = ap (slice_set es at) with_node ∙ sym ((found_at es seen name at e h same lt is here).put n)

-- ---- a name that isn't there

pub record IsAbsent (es : List Entry) (name : List ℕ) (at : ℕ) : Type 0 where
  pub node : node_of name es ≡ None
  pub put : (n : ℕ) → put_entry es name n ≡ insert es at (name, n)
  pub gone : without name es ≡ es

absent_before_all : (es : List Entry) (name : List ℕ) → ((k : ℕ) (d : Entry) → k < length es → order name (get_or es k d) ≡ Greater) → node_of name es ≡ None
absent_before_all [] name greater = refl
absent_before_all (x ∷ xs) name greater = rw (turned x.0 name Greater (greater 0 x (omega arith))) (absent_before_all xs name (λ k d lt. greater (suc k) d (omega arith)))

absent : (es : List Entry) (name : List ℕ) (at : ℕ) → at ≤ length es → IsPartitionPoint (λ e. order name e ≡ Less) (λ e. order name e ≡ Greater) es at → IsAbsent es name at
absent [] name zero le p = record { node = refl; put = λ n. refl; gone = refl }
absent [] name (suc at) le p = absurd (omega arith)
absent (x ∷ xs) name zero le p =
    let greater : slice_cmp nat_cmp name x.0 ≡ Less = turned x.0 name Greater (p.1 0 x (omega arith) (omega arith)) in
    record { node = absent_before_all (x ∷ xs) name (λ k d lt. p.1 k d (omega arith) lt); put = λ n. rw greater refl; gone = without_all (x ∷ xs) name (λ k d lt. p.1 k d (omega arith) lt) }
absent (x ∷ xs) name (suc at) le p =
    let a = absent xs name at (omega arith) ((λ k d lo lt. p.0 (suc k) d (omega arith) (omega arith)), (λ k d lo lt. p.1 (suc k) d (omega arith) (omega arith))) in
    let greater : slice_cmp nat_cmp name x.0 ≡ Greater = turned x.0 name Less (p.0 0 x (omega arith) (omega arith)) in
    record { node = rw greater a.node; put = λ n. rw greater (ap (λ (z : List Entry). x ∷ z) (a.put n)); gone = rw greater (ap (λ (z : List Entry). x ∷ z) a.gone) }

pub absent_at : (es seen : List Entry) (name : List ℕ) (at : ℕ) → RisesBehind [] es → seen ≡ es → at ≤ length seen
    → (IsNonDecreasingBy (λ e. ordering_index (order name e)) seen → IsPartitionPoint (λ e. order name e ≡ Less) (λ e. order name e ≡ Greater) seen at) → IsAbsent es name at
absent_at es seen name at h same le here =
    let rises : RisesBehind [] seen = subst (RisesBehind []) (sym same) h in
    subst (λ (l : List Entry). IsAbsent l name at) same (absent seen name at le (here (answers_rise [] seen name rises)))

-- an entry at the place where its name would stand
pub put_absent : (es seen : List Entry) (name : List ℕ) (at n : ℕ) (new : Entry) → RisesBehind [] es → seen ≡ es → at ≤ length seen
    → (IsNonDecreasingBy (λ e. ordering_index (order name e)) seen → IsPartitionPoint (λ e. order name e ≡ Less) (λ e. order name e ≡ Greater) seen at) → new ≡ (name, n)
    → insert es at new ≡ put_entry es name n
put_absent es seen name at n new h same le here is = ap (insert es at) is ∙ sym ((absent_at es seen name at h same le here).put n)
