-- Nodes that are laid out, each with the node of the plain tree that it came from.
use Rattle.std.proofs.Common.{◌≡◌, ℕ, zero, suc, ◌+◌, ◌<◌, ◌≤◌, ◌≢◌, Bool, true, false, cond, eqb, List, [], ◌∷◌, ◌++◌, length, get_or, Option, Some, None, refl, sym, ap, subst, ◌∙◌, arith, inl, inr}
use Rattle.std.specs.Prelude.{slice_get}
use Rattle.std.specs.List.{IsDistinct, list_any}
use Rattle.std.proofs.lemmas.Bool.{ne_eqb, cases_eq, cases_lt, cases_Bool}
use Rattle.std.proofs.lemmas.List.{length_push, get_or_append_left, get_or_push, get_or_default}
use Rattle.std.proofs.lemmas.Option.{slice_get_within, slice_get_past, slice_get-get_or}
use Rattle.std.proofs.lemmas.Map.Keys.{IsDistinct-from_apart}
use Rattle.std.proofs.lemmas.Map.Steps.{length-le_from_distinct_below}
use Rattle.lower_model.specs.declared.kind.Kind.{Kind}
use Rattle.lower_model.specs.declared.node.LowerNode.{LowerNode}
use Rattle.tree_model.specs.declared.place.Place.{Place}
use Rattle.tree_model.specs.Names.{is_named, node_of, RisesBehind}
use Rattle.tree_model.specs.Walk.{kind_of}
use Rattle.tree_model.specs.IsTree.{IsTree, node_in}
use Rattle.tree_model.specs.Shown.{entries_in}
use Rattle.tree_model.proofs.NameLemmas.{is_named_same, is_named_is}
use Rattle.tree_model.proofs.Rising.{absent_itself}
use Rattle.tree_model.proofs.NodeEntries.{entries_in-own, entries_in-other, entries_in-none, AllIn, AllIn-push, AllIn-snoc, get_append_left, slice_get-push}

-- ---- a name among names, one name on

node_of-head : (a : List ℕ) (n : ℕ) (es : List (List ℕ × ℕ)) → node_of a ((a, n) ∷ es) ≡ Some n
node_of-head a n es = rw (is_named_same a) refl

node_of-push_own : (a : List ℕ) (n : ℕ) (es : List (List ℕ × ℕ)) → node_of a es ≡ None → node_of a (es ++ (a, n) ∷ []) ≡ Some n
node_of-push_own a n [] h = node_of-head a n []
node_of-push_own a n (e ∷ es) h = elim (is_named a e.0) as (λ b. cond b (Some e.1) (node_of a es) ≡ None → cond b (Some e.1) (node_of a (es ++ (a, n) ∷ [])) ≡ Some n) [
  | true ↦ λ q. absurd cc
  | false ↦ λ q. node_of-push_own a n es q
] h

node_of-push_other : (a b : List ℕ) (n : ℕ) (es : List (List ℕ × ℕ)) → is_named a b ≡ false → node_of a (es ++ (b, n) ∷ []) ≡ node_of a es
node_of-push_other a b n [] h = rw h refl
node_of-push_other a b n (e ∷ es) h = ap (λ (o : Option ℕ). cond (is_named a e.0) (Some e.1) o) (node_of-push_other a b n es h)

-- ---- what is known of a name in a directory

-- A name is still to be laid out, or stands in both trees for one node, or in neither.
abbrev pub Matches : List ℕ → Option ℕ → Option ℕ → Option ℕ → Type 0
Matches origin (Some n) in_lower in_tree = (in_lower ≡ None) × (in_tree ≡ Some n)
Matches origin None (Some k) in_tree = (k < length origin) × (in_tree ≡ Some (get_or origin k 0))
Matches origin None None in_tree = in_tree ≡ None

Matches-new : (origin : List ℕ) (o : Option ℕ) → Matches origin o None o
Matches-new origin None = refl
Matches-new origin (Some n) = (refl, refl)

Matches-more : (origin : List ℕ) (node : ℕ) (rest in_lower in_tree : Option ℕ) → Matches origin rest in_lower in_tree → Matches (origin ++ node ∷ []) rest in_lower in_tree
Matches-more origin node (Some n) in_lower in_tree h = h
Matches-more origin node None (Some k) in_tree h = (omega (arith, h.0, length_push origin node), h.1 ∙ ap Some (sym (get_or_append_left origin (node ∷ []) 0 k h.0)))
Matches-more origin node None None in_tree h = h

-- Why a node is laid out: a directory that is laid out shows it, under a name that is no longer to be.
pub record Reason (places : List Place) (rest : ℕ → List (List ℕ × ℕ)) (origin : List ℕ) (node : ℕ) : Type 0 where
  pub parent : ℕ
  pub name : List ℕ
  pub within : parent < length origin
  pub leads : node_in (slice_get places (get_or origin parent 0)) name ≡ Some node
  pub done : node_of name (rest parent) ≡ None

-- The nodes of a tree that are laid out, each with its origin, and the entries of each that are still to be.
pub record Traced (places : List Place) (root : LowerNode) (entries : List LowerNode) (rest : ℕ → List (List ℕ × ℕ)) (origin : List ℕ) : Type 0 where
  pub many : length origin ≡ 1 + length entries
  pub first : get_or origin 0 0 ≡ 0
  pub low : AllIn (1 + length entries) entries
  pub kinds : (k : ℕ) (x : LowerNode) → slice_get (root ∷ entries) k ≡ Some x → kind_of (slice_get places (get_or origin k 0)) ≡ Some x.kind
  pub matches : (k : ℕ) (a : List ℕ) → k < length origin → Matches origin (node_of a (rest k)) (node_of a (entries_in k 1 entries)) (node_in (slice_get places (get_or origin k 0)) a)
  pub reasons : (k : ℕ) → 0 < k → k < length origin → Reason places rest origin (get_or origin k 0)
  pub apart : (j k : ℕ) → j < length origin → k < length origin → get_or origin j 0 ≡ get_or origin k 0 → j ≡ k

-- ---- their count

none-kind : (k : Kind) → kind_of None ≡ Some k → ⊥
none-kind k h = cc

within_places : (places : List Place) (n : ℕ) (k : Kind) → kind_of (slice_get places n) ≡ Some k → n < length places
within_places places n k h = elim (cases_lt n (length places)) [
  | inl lt ↦ lt
  | inr le ↦ absurd (none-kind k (subst (λ (p : Option Place). kind_of p ≡ Some k) (slice_get_past places n le) h))
]

below_all : (n : ℕ) (xs : List ℕ) → ((k : ℕ) → k < length xs → get_or xs k 0 < n) → (q : ℕ) → list_any (eqb q) xs ≡ true → q < n
below_all n [] f q h = absurd cc
below_all n (x ∷ xs) f q h = elim (cases_eq q x) [
  | inl e ↦ let p : x < n = f 0 (omega arith) in omega arith
  | inr ne ↦ below_all n xs (λ k lt. f (suc k) (omega arith)) q (rw (ne_eqb q x ne) at h)
]

-- no more nodes are laid out than the tree has
pub traced_few : (places : List Place) (root : LowerNode) (entries : List LowerNode) (rest : ℕ → List (List ℕ × ℕ)) (origin : List ℕ) → Traced places root entries rest origin → 1 + length entries ≤ length places
traced_few places root entries rest origin t =
    let distinct : IsDistinct eqb origin = IsDistinct-from_apart eqb origin (λ i j d lt within. ne_eqb (get_or origin i d) (get_or origin j d) (λ q.
    let i' : i < length origin = omega arith in
    let p : get_or origin i 0 ≡ get_or origin j 0 = get_or_default origin i 0 d i' ∙ q ∙ get_or_default origin j d 0 within in
    let same = t.apart i j i' within p in
    omega (arith, same))) in
    let below : (k : ℕ) → k < length origin → get_or origin k 0 < length places = λ k lt.
    let k' : k < length (root ∷ entries) = omega (arith, t.many) in
    let x = get_or (root ∷ entries) k root in
    within_places places (get_or origin k 0) x.kind (t.kinds k x (slice_get-get_or (root ∷ entries) k root k')) in
    let few = length-le_from_distinct_below origin (length places) distinct (below_all (length places) origin below) in
    omega (arith, few, t.many)

none_else : (b : Bool) (n : ℕ) (o : Option ℕ) → cond b (Some n) o ≡ None → o ≡ None
none_else true n o h = absurd cc
none_else false n o h = h

-- ---- one more node

-- What is left to be laid out once a node is, under a directory of which these entries are left then.
pub record Continues (places : List Place) (number : ℕ) (x : LowerNode) (node : ℕ) (es : List (List ℕ × ℕ)) (old new : ℕ → List (List ℕ × ℕ)) : Type 0 where
  pub kind : kind_of (slice_get places node) ≡ Some x.kind
  pub parent : new x.parent ≡ es
  pub others : (k : ℕ) → k < number → k ≢ x.parent → new k ≡ old k
  pub own : (a : List ℕ) → node_of a (new number) ≡ node_in (slice_get places node) a

-- the entry that comes next is still to be laid out
pub pending : (places : List Place) (root : LowerNode) (entries : List LowerNode) (rest : ℕ → List (List ℕ × ℕ)) (origin : List ℕ) → Traced places root entries rest origin → (k : ℕ) (name : List ℕ) (node : ℕ) (es : List (List ℕ × ℕ)) → k < 1 + length entries → rest k ≡ (name, node) ∷ es
    → (node_of name (entries_in k 1 entries) ≡ None) × (node_in (slice_get places (get_or origin k 0)) name ≡ Some node)
pending places root entries rest origin t k name node es within left =
    let first : node_of name (rest k) ≡ Some node = ap (node_of name) left ∙ node_of-head name node es in
    let lt : k < length origin = omega (arith, t.many) in
    subst (λ (o : Option ℕ). Matches origin o (node_of name (entries_in k 1 entries)) (node_in (slice_get places (get_or origin k 0)) name)) first (t.matches k name lt)

-- the entry that comes next leads to a node that isn't laid out
pub next_fresh : (places : List Place) → IsTree places → (root : LowerNode) (entries : List LowerNode) (rest : ℕ → List (List ℕ × ℕ)) (origin : List ℕ) → Traced places root entries rest origin → (at : ℕ) (name : List ℕ) (node : ℕ) (es : List (List ℕ × ℕ)) → at < 1 + length entries → rest at ≡ (name, node) ∷ es
    → (k : ℕ) → k < length origin → get_or origin k 0 ≡ node → ⊥
next_fresh places tree root entries rest origin t at name node es within left zero lt q = tree.no_root (get_or origin at 0) name node (pending places root entries rest origin t at name node es within left).1 (sym q ∙ t.first)
next_fresh places tree root entries rest origin t at name node es within left (suc k) lt q =
    let next = pending places root entries rest origin t at name node es within left in
    let r = t.reasons (suc k) (omega arith) lt in
    let leads : node_in (slice_get places (get_or origin r.parent 0)) r.name ≡ Some node = r.leads ∙ ap Some q in
    let one = tree.once (get_or origin r.parent 0) (get_or origin at 0) r.name name node leads next.1 in
    let parent : r.parent ≡ at = t.apart r.parent at r.within (omega (arith, t.many)) one.0 in
    let gone : node_of name (rest at) ≡ None = subst (λ (k : ℕ). node_of name (rest k) ≡ None) parent (subst (λ (a : List ℕ). node_of a (rest r.parent) ≡ None) one.1 r.done) in
    let here : node_of name (rest at) ≡ Some node = ap (node_of name) left ∙ node_of-head name node es in
    cc

module _ (places : List Place) (tree : IsTree places) (root : LowerNode) (entries : List LowerNode) (rest : ℕ → List (List ℕ × ℕ)) (origin : List ℕ) (t : Traced places root entries rest origin)
    (x : LowerNode) (node : ℕ) (es : List (List ℕ × ℕ)) (within : x.parent < 1 + length entries) (left : rest x.parent ≡ (x.name, node) ∷ es) (rises : RisesBehind x.name es) where
  parent_in : x.parent < length origin
  parent_in = omega (arith, t.many, within)

  next : (node_of x.name (entries_in x.parent 1 entries) ≡ None) × (node_in (slice_get places (get_or origin x.parent 0)) x.name ≡ Some node)
  next = pending places root entries rest origin t x.parent x.name node es within left

  fresh : (k : ℕ) → k < length origin → get_or origin k 0 ≡ node → ⊥
  fresh = next_fresh places tree root entries rest origin t x.parent x.name node es within left

  at_old : (k : ℕ) → k < length origin → get_or (origin ++ node ∷ []) k 0 ≡ get_or origin k 0
  at_old k lt = get_or_append_left origin (node ∷ []) 0 k lt

  at_new : get_or (origin ++ node ∷ []) (1 + length entries) 0 ≡ node
  at_new = get_or_push origin node 0 (1 + length entries) t.many

  -- the name that is laid out now, and the others of its directory
  own : (a : List ℕ) → Matches (origin ++ node ∷ []) (node_of a es) (node_of a (entries_in x.parent 1 (entries ++ x ∷ []))) (node_in (slice_get places (get_or origin x.parent 0)) a)
  own a = rw (entries_in-own 1 entries x) (elim (cases_Bool (is_named a x.name)) [
    | inl named ↦
        let same : x.name ≡ a = sym (is_named_is a x.name named) in
        let lower = node_of-push_own x.name (1 + length entries) (entries_in x.parent 1 entries) next.0 in
        let new : Matches (origin ++ node ∷ []) None (Some (1 + length entries)) (node_in (slice_get places (get_or origin x.parent 0)) x.name) = (omega (arith, t.many, length_push origin node), next.1 ∙ ap Some (sym at_new)) in
        subst (λ (b : List ℕ). Matches (origin ++ node ∷ []) (node_of b es) (node_of b (entries_in x.parent 1 entries ++ (x.name, 1 + length entries) ∷ [])) (node_in (slice_get places (get_or origin x.parent 0)) b)) same (rw (absent_itself x.name es rises, lower) new)
    | inr other ↦
        let others : node_of a (rest x.parent) ≡ node_of a es = ap (node_of a) left ∙ rw other refl in
        let old : Matches origin (node_of a es) (node_of a (entries_in x.parent 1 entries)) (node_in (slice_get places (get_or origin x.parent 0)) a) = rw others at (t.matches x.parent a parent_in) in
        rw (node_of-push_other a x.name (1 + length entries) (entries_in x.parent 1 entries) other) (Matches-more origin node (node_of a es) (node_of a (entries_in x.parent 1 entries)) (node_in (slice_get places (get_or origin x.parent 0)) a) old)
  ])

  module _ (rest' : ℕ → List (List ℕ × ℕ)) (c : Continues places (1 + length entries) x node es rest rest') where
    low_more : AllIn (1 + length entries) (entries ++ x ∷ [])
    low_more = AllIn-snoc (1 + length entries) entries x t.low within

    matches_old : (k : ℕ) (a : List ℕ) → k < length origin → Matches (origin ++ node ∷ []) (node_of a (rest' k)) (node_of a (entries_in k 1 (entries ++ x ∷ []))) (node_in (slice_get places (get_or origin k 0)) a)
    matches_old k a lt = elim (cases_eq x.parent k) [
      | inl e ↦
          let here : Matches (origin ++ node ∷ []) (node_of a (rest' x.parent)) (node_of a (entries_in x.parent 1 (entries ++ x ∷ []))) (node_in (slice_get places (get_or origin x.parent 0)) a) = rw c.parent (own a) in
          subst (λ (j : ℕ). Matches (origin ++ node ∷ []) (node_of a (rest' j)) (node_of a (entries_in j 1 (entries ++ x ∷ []))) (node_in (slice_get places (get_or origin j 0)) a)) e here
      | inr ne ↦
          let same : rest' k ≡ rest k = c.others k (omega (arith, t.many)) (λ q. ne (sym q)) in
          rw (same, entries_in-other k 1 entries x ne) (Matches-more origin node (node_of a (rest k)) (node_of a (entries_in k 1 entries)) (node_in (slice_get places (get_or origin k 0)) a) (t.matches k a lt))
    ]

    matches_new : (a : List ℕ) → Matches (origin ++ node ∷ []) (node_of a (rest' (1 + length entries))) (node_of a (entries_in (1 + length entries) 1 (entries ++ x ∷ []))) (node_in (slice_get places node) a)
    matches_new a = rw (c.own a, entries_in-none (1 + length entries) 1 (entries ++ x ∷ []) low_more) (Matches-new (origin ++ node ∷ []) (node_in (slice_get places node) a))

    matches_more : (k : ℕ) (a : List ℕ) → k < length (origin ++ node ∷ []) → Matches (origin ++ node ∷ []) (node_of a (rest' k)) (node_of a (entries_in k 1 (entries ++ x ∷ []))) (node_in (slice_get places (get_or (origin ++ node ∷ []) k 0)) a)
    matches_more k a lt = elim (cases_lt k (length origin)) [
      | inl old ↦ rw (at_old k old) (matches_old k a old)
      | inr behind ↦
          let e : k ≡ 1 + length entries = omega (arith, t.many, length_push origin node) in
          rw (e, at_new) (matches_new a)
    ]

    kinds_more : (k : ℕ) (y : LowerNode) → slice_get (root ∷ (entries ++ x ∷ [])) k ≡ Some y → kind_of (slice_get places (get_or (origin ++ node ∷ []) k 0)) ≡ Some y.kind
    kinds_more k y h = elim (cases_lt k (length origin)) [
      | inl old ↦
          let same : slice_get (root ∷ (entries ++ x ∷ [])) k ≡ slice_get (root ∷ entries) k = get_append_left (root ∷ entries) (x ∷ []) k (omega (arith, t.many)) in
          rw (at_old k old) (t.kinds k y (sym same ∙ h))
      | inr behind ↦
          let lt : k < length (root ∷ (entries ++ x ∷ [])) = slice_get_within (root ∷ (entries ++ x ∷ [])) k y h in
          let e : k ≡ length (root ∷ entries) = omega (arith, t.many, length_push entries x) in
          let e' : k ≡ 1 + length entries = omega arith in
          let last : slice_get (root ∷ (entries ++ x ∷ [])) k ≡ Some x = ap (slice_get (root ∷ (entries ++ x ∷ []))) e ∙ slice_get-push (root ∷ entries) x in
          let same : x ≡ y = cc in
          rw (e', at_new, ← same) c.kind
    ]

    done_more : (k : ℕ) (a : List ℕ) → k < length origin → node_of a (rest k) ≡ None → node_of a (rest' k) ≡ None
    done_more k a lt h = elim (cases_eq k x.parent) [
      | inl e ↦
          let here : cond (is_named a x.name) (Some node) (node_of a es) ≡ None = sym (ap (node_of a) left) ∙ subst (λ (j : ℕ). node_of a (rest j) ≡ None) e h in
          rw (e, c.parent) (none_else (is_named a x.name) node (node_of a es) here)
      | inr ne ↦ rw (c.others k (omega (arith, t.many)) ne) h
    ]

    reasons_more : (k : ℕ) → 0 < k → k < length (origin ++ node ∷ []) → Reason places rest' (origin ++ node ∷ []) (get_or (origin ++ node ∷ []) k 0)
    reasons_more k pos lt = elim (cases_lt k (length origin)) [
      | inl old ↦
          let r = t.reasons k pos old in
          rw (at_old k old) (record {
            parent = r.parent;
            name = r.name;
            within = omega (arith, r.within, length_push origin node);
            leads = rw (at_old r.parent r.within) r.leads;
            done = done_more r.parent r.name r.within r.done;
          })
      | inr behind ↦
          let e : k ≡ 1 + length entries = omega (arith, t.many, length_push origin node) in
          rw (e, at_new) (record {
            parent = x.parent;
            name = x.name;
            within = omega (arith, parent_in, length_push origin node);
            leads = rw (at_old x.parent parent_in) next.1;
            done = rw c.parent (absent_itself x.name es rises);
          })
    ]

    apart_more : (j k : ℕ) → j < length (origin ++ node ∷ []) → k < length (origin ++ node ∷ []) → get_or (origin ++ node ∷ []) j 0 ≡ get_or (origin ++ node ∷ []) k 0 → j ≡ k
    apart_more j k lt lt' q = elim (cases_lt j (length origin)) [
      | inl old ↦ elim (cases_lt k (length origin)) [
        | inl old' ↦ t.apart j k old old' (sym (at_old j old) ∙ q ∙ at_old k old')
        | inr behind ↦
            let e : k ≡ 1 + length entries = omega (arith, t.many, length_push origin node) in
            absurd (fresh j old (sym (at_old j old) ∙ q ∙ ap (λ (i : ℕ). get_or (origin ++ node ∷ []) i 0) e ∙ at_new))
      ]
      | inr behind ↦ elim (cases_lt k (length origin)) [
        | inl old' ↦
            let e : j ≡ 1 + length entries = omega (arith, t.many, length_push origin node) in
            absurd (fresh k old' (sym (at_old k old') ∙ sym q ∙ ap (λ (i : ℕ). get_or (origin ++ node ∷ []) i 0) e ∙ at_new))
        | inr behind' ↦ omega (arith, length_push origin node)
      ]
    ]

    pub traced_more : Traced places root (entries ++ x ∷ []) rest' (origin ++ node ∷ [])
    traced_more = record {
      many = omega (arith, t.many, length_push origin node, length_push entries x);
      first = at_old 0 (omega (arith, t.many)) ∙ t.first;
      low = AllIn-push (1 + length entries) (1 + length (entries ++ x ∷ [])) entries x t.low (omega (arith, length_push entries x)) (omega (arith, within, length_push entries x));
      kinds = kinds_more;
      matches = matches_more;
      reasons = reasons_more;
      apart = apart_more;
    }

-- ---- the root alone

pub traced_root : (places : List Place) (root : LowerNode) (rest : ℕ → List (List ℕ × ℕ)) → kind_of (slice_get places 0) ≡ Some root.kind → ((a : List ℕ) → node_of a (rest 0) ≡ node_in (slice_get places 0) a) → Traced places root [] rest (0 ∷ [])
traced_root places root rest kind own = record {
  many = refl;
  first = refl;
  low = tt;
  kinds = λ k x h. kinds_root k x h;
  matches = λ k a lt. matches_root k a lt;
  reasons = λ k pos lt. absurd (omega arith);
  apart = λ j k lt lt' q. omega arith;
}
  where
    kinds_root : (k : ℕ) (x : LowerNode) → slice_get (root ∷ []) k ≡ Some x → kind_of (slice_get places (get_or (0 ∷ []) k 0)) ≡ Some x.kind
    kinds_root zero x h = let same : root ≡ x = cc in rw (← same) kind
    kinds_root (suc k) x h = absurd cc

    matches_root : (k : ℕ) (a : List ℕ) → k < 1 → Matches (0 ∷ []) (node_of a (rest k)) None (node_in (slice_get places (get_or (0 ∷ []) k 0)) a)
    matches_root zero a lt = rw (own a) (Matches-new (0 ∷ []) (node_in (slice_get places 0) a))
    matches_root (suc k) a lt = absurd (omega arith)
