-- What holds of each node of a lower tree, and of what its store holds.
use Rattle.std.proofs.Common.{◌≡◌, ◌≢◌, ℕ, suc, ◌+◌, ◌<◌, ◌≤◌, ◌⊎◌, inl, inr, ◌-◌, List, [], ◌∷◌, drop, Option, Some, None, IsTrue, refl, sym, ap, subst, ◌∙◌, arith}
use Rattle.std.specs.Prelude.{slice_get}
use Rattle.std.proofs.lemmas.Bool.Decides.{eqb_tells}
use Rattle.std.proofs.lemmas.Bool.{cases_lt}
use Rattle.lower_model.specs.Name.{is_name}
use Rattle.lower_model.specs.LowerTree.{level_in, path_behind, root_path, IsEntry, AreEntries, IsLowerTree}
use Rattle.lower_model.specs.declared.kind.Kind.TheVariants as kinds
use Rattle.lower_model.specs.declared.node.LowerNode.{LowerNode}
use Rattle.lower_model.specs.declared.node.OpenDir.{OpenDir}
use Rattle.names_model.specs.Store.{entries_from}
use Rattle.tree_model.specs.Names.{RisesBehind}
use Rattle.opening_model.proofs.OpenDirs.{IsInOpen, open_last, RiseWithin, entry_in_open, open_within, path_within, open_before, stays_open}

-- A node stands in a directory before it, and all nodes between them stand in that directory or below it.
pub record IsPlaced (nodes : List LowerNode) (i : ℕ) (x : LowerNode) : Type 0 where
  pub above : x.parent < i
  pub in_directory : (p : LowerNode) × (slice_get nodes x.parent ≡ Some p) × (p.kind ≡ kinds.Dir)
  pub name : IsTrue (is_name x.name)
  pub between : (c : ℕ) (y : LowerNode) → x.parent < c → c < i → slice_get nodes c ≡ Some y → x.parent ≤ y.parent

-- What is known of the nodes before a number, and of the path that is open there.
record Known (nodes : List LowerNode) (path : List OpenDir) (number : ℕ) : Type 0 where
  numbers : RiseWithin 0 path number
  directories : (k : ℕ) (last : List ℕ) → open_last path k ≡ Some last → (p : LowerNode) × (slice_get nodes k ≡ Some p) × (p.kind ≡ kinds.Dir)
  below : (k : ℕ) (last : List ℕ) → open_last path k ≡ Some last → (c : ℕ) (y : LowerNode) → k < c → c < number → slice_get nodes c ≡ Some y → k ≤ y.parent

-- What follows of the nodes from there on.
record Follows (nodes : List LowerNode) (path : List OpenDir) (number : ℕ) (rest : List LowerNode) : Type 0 where
  placed : (i : ℕ) (x : LowerNode) → number ≤ i → slice_get nodes i ≡ Some x → IsPlaced nodes i x
  -- the names of an open directory rise behind its last one, those of one to come rise, and a directory that isn't open gets none
  opens : (k : ℕ) (last : List ℕ) → open_last path k ≡ Some last → RisesBehind last (entries_from number rest k)
  later : (k : ℕ) → number ≤ k → RisesBehind [] (entries_from number rest k)
  closed : (k : ℕ) → k < number → open_last path k ≡ None → entries_from number rest k ≡ []

none_or_some : {A : Type 0} (o : Option A) → (o ≡ None) ⊎ ((a : A) × (o ≡ Some a))
none_or_some None = inl refl
none_or_some (Some a) = inr (a, refl)

module _ (nodes : List LowerNode) (path : List OpenDir) (number : ℕ) (x : LowerNode) (k : Known nodes path number) (e : IsEntry path (level_in path x.parent) x) (here : slice_get nodes number ≡ Some x) where
  abbrev next : List OpenDir
  next = path_behind path (level_in path x.parent) number x

  abbrev first : IsInOpen path x
  first = entry_in_open path x e

  parent_before : x.parent < number
  parent_before = (open_within 0 path number x.parent first.last k.numbers first.is).1

  was : (j : ℕ) (last : List ℕ) → open_last next j ≡ Some last → ((j ≡ x.parent) × (last ≡ x.name)) ⊎ (((j ≡ number) × (last ≡ []) × (x.kind ≡ kinds.Dir)) ⊎ ((j < x.parent) × (open_last path j ≡ Some last)))
  was j last h = open_before path number x first.last k.numbers first.is j last h

  is_placed : IsPlaced nodes number x
  is_placed = record {
    above = parent_before;
    in_directory = k.directories x.parent first.last first.is;
    name = e.name;
    between = λ c y lo hi at. k.below x.parent first.last first.is c y lo hi at;
  }

  known_next : Known nodes next (number + 1)
  known_next = record {
    numbers = path_within path number x first.last k.numbers first.is;
    directories = λ j last h. elim (was j last h) [
      | inl p ↦ subst (λ (i : ℕ). (q : LowerNode) × (slice_get nodes i ≡ Some q) × (q.kind ≡ kinds.Dir)) (sym p.0) (k.directories x.parent first.last first.is)
      | inr r ↦ elim r [
        | inl n ↦ (x, ap (slice_get nodes) n.0 ∙ here, n.2)
        | inr o ↦ k.directories j last o.1
      ]
    ];
    below = λ j last h c y lo hi at. elim (was j last h) [
      | inl p ↦ between_at j p.0 c y lo hi at
      | inr r ↦ elim r [
        | inl n ↦ absurd (let same : j ≡ number = n.0 in omega arith)
        | inr o ↦ elim (cases_lt c number) [
          | inl lt ↦ k.below j last o.1 c y lo lt at
          | inr ge ↦ (let c_is : c ≡ number = omega arith in
              let same : Some x ≡ Some y = sym here ∙ ap (slice_get nodes) (sym c_is) ∙ at in
              let y_is : x ≡ y = cc in
              let le : j < x.parent = o.0 in
              subst (λ (z : LowerNode). j ≤ z.parent) y_is (omega arith))
        ]
      ]
    ];
  }
    where
      between_at : (j : ℕ) → j ≡ x.parent → (c : ℕ) (y : LowerNode) → j < c → c < number + 1 → slice_get nodes c ≡ Some y → j ≤ y.parent
      between_at j same c y lo hi at = elim (cases_lt c number) [
        | inl lt ↦ subst (λ (i : ℕ). i ≤ y.parent) (sym same) (k.below x.parent first.last first.is c y (omega arith) lt at)
        | inr ge ↦ (let c_is : c ≡ number = omega arith in
            let both : Some x ≡ Some y = sym here ∙ ap (slice_get nodes) (sym c_is) ∙ at in
            let y_is : x ≡ y = cc in
            subst (λ (z : LowerNode). j ≤ z.parent) y_is (omega arith))
      ]

  module _ (rest : List LowerNode) (f : Follows nodes next (number + 1) rest) where
    others : (j : ℕ) → x.parent ≢ j → entries_from number (x ∷ rest) j ≡ entries_from (number + 1) rest j
    others j ne = elim (eqb_tells x.parent j) [
      | inl t ↦ absurd (ne t.1)
      | inr t ↦ rw t.0 refl
    ]

    own : entries_from number (x ∷ rest) x.parent ≡ (x.name, record { kind = x.kind; node = number }) ∷ entries_from (number + 1) rest x.parent
    own = elim (eqb_tells x.parent x.parent) [
      | inl t ↦ rw t.0 refl
      | inr t ↦ absurd (t.1 refl)
    ]

    own_rises : (last : List ℕ) → open_last path x.parent ≡ Some last → RisesBehind last (entries_from number (x ∷ rest) x.parent)
    own_rises last h =
        let both : Some first.last ≡ Some last = sym first.is ∙ h in
        let same : first.last ≡ last = cc in
        rw own (rw (← same) (first.rises, e.name, f.opens x.parent x.name (stays_open path number x first.last first.is)))

    -- what comes in a directory that isn't the entry's
    rises_next : (j : ℕ) (last : List ℕ) → j < number → open_last path j ≡ Some last → x.parent ≢ j → RisesBehind last (entries_from (number + 1) rest j)
    rises_next j last lt h ne = elim (none_or_some (open_last next j)) [
      | inl none ↦ rw (f.closed j (omega arith) none) tt
      | inr s ↦ elim (was j s.0 s.1) [
        | inl p ↦ absurd (ne (sym p.0))
        | inr r ↦ elim r [
          | inl n ↦ absurd (let same : j ≡ number = n.0 in omega arith)
          | inr o ↦ (let both : Some s.0 ≡ Some last = sym o.1 ∙ h in let same : s.0 ≡ last = cc in
              subst (λ (y : List ℕ). RisesBehind y (entries_from (number + 1) rest j)) same (f.opens j s.0 s.1))
        ]
      ]
    ]

    rises_new : RisesBehind [] (entries_from (number + 1) rest number)
    rises_new = elim (none_or_some (open_last next number)) [
      | inl none ↦ rw (f.closed number (omega arith) none) tt
      | inr s ↦ elim (was number s.0 s.1) [
        | inl p ↦ absurd (let same : number ≡ x.parent = p.0 in let lt = parent_before in omega arith)
        | inr r ↦ elim r [
          | inl n ↦ subst (λ (y : List ℕ). RisesBehind y (entries_from (number + 1) rest number)) n.1 (f.opens number s.0 s.1)
          | inr o ↦ absurd (let less : number < x.parent = o.0 in let lt = parent_before in omega arith)
        ]
      ]
    ]

    closed_next : (j : ℕ) → j < number → open_last path j ≡ None → open_last next j ≡ None
    closed_next j lt h = elim (none_or_some (open_last next j)) [
      | inl none ↦ none
      | inr s ↦ elim (was j s.0 s.1) [
        | inl p ↦ absurd (let no : None ≡ Some first.last = sym h ∙ ap (open_last path) p.0 ∙ first.is in cc)
        | inr r ↦ elim r [
          | inl n ↦ absurd (let same : j ≡ number = n.0 in omega arith)
          | inr o ↦ absurd (let no : None ≡ Some s.0 = sym h ∙ o.1 in cc)
        ]
      ]
    ]

    follows_here : Follows nodes path number (x ∷ rest)
    follows_here = record {
      placed = λ i y le at. elim (eqb_tells i number) [
        | inl t ↦ (let both : Some x ≡ Some y = sym here ∙ ap (slice_get nodes) (sym t.1) ∙ at in let y_is : x ≡ y = cc in
            subst (λ (j : ℕ). IsPlaced nodes j y) (sym t.1) (subst (λ (z : LowerNode). IsPlaced nodes number z) y_is is_placed))
        | inr t ↦ (let ne : i ≢ number = t.1 in f.placed i y (omega arith) at)
      ];
      opens = λ j last h. elim (eqb_tells x.parent j) [
        | inl t ↦ subst (λ (i : ℕ). open_last path i ≡ Some last → RisesBehind last (entries_from number (x ∷ rest) i)) t.1 (own_rises last) h
        | inr t ↦ rw (others j t.1) (rises_next j last (open_within 0 path number j last k.numbers h).1 h t.1)
      ];
      later = λ j le. (let ne : x.parent ≢ j = (let lt = parent_before in λ q. omega arith) in
          rw (others j ne) (elim (eqb_tells j number) [
            | inl t ↦ rw t.1 rises_new
            | inr t ↦ (let apart : j ≢ number = t.1 in f.later j (omega arith))
          ]));
      closed = λ j lt h. (let ne : x.parent ≢ j = λ q. (let no : None ≡ Some first.last = sym h ∙ ap (open_last path) (sym q) ∙ first.is in cc) in
          others j ne ∙ f.closed j (omega arith) (closed_next j lt h));
    }

follows : (nodes : List LowerNode) (path : List OpenDir) (number : ℕ) (rest : List LowerNode) → Known nodes path number → AreEntries path number rest → ((j : ℕ) → slice_get nodes (number + j) ≡ slice_get rest j) → Follows nodes path number rest
follows nodes path number [] k h at = record {
  placed = λ i x le is. absurd (let e : number + (i - number) ≡ i = omega arith in let no : Some x ≡ None = sym is ∙ ap (slice_get nodes) (sym e) ∙ at (i - number) in cc);
  opens = λ j last h. tt;
  later = λ j le. tt;
  closed = λ j lt h. refl;
}
follows nodes path number (x ∷ rest) k h at =
    let zero_is : number + 0 ≡ number = omega arith in
    let here : slice_get nodes number ≡ Some x = ap (slice_get nodes) (sym zero_is) ∙ at 0 in
    let ahead : (j : ℕ) → slice_get nodes (number + 1 + j) ≡ slice_get rest j = λ j. (let e : number + 1 + j ≡ number + suc j = omega arith in ap (slice_get nodes) e ∙ at (suc j)) in
    follows_here nodes path number x k h.0 here rest
    (follows nodes (path_behind path (level_in path x.parent) number x) (number + 1) rest (known_next nodes path number x k h.0 here) h.1 ahead)

-- ---- a lower tree

pub record Facts (nodes : List LowerNode) : Type 0 where
  pub placed : (i : ℕ) (x : LowerNode) → 1 ≤ i → slice_get nodes i ≡ Some x → IsPlaced nodes i x
  pub rising : (k : ℕ) → RisesBehind [] (entries_from 1 (drop 1 nodes) k)
  pub root : (x : LowerNode) × (slice_get nodes 0 ≡ Some x) × (x.kind ≡ kinds.Dir)

pub facts : (nodes : List LowerNode) → IsLowerTree nodes → Facts nodes
facts [] h = absurd h
facts (root ∷ entries) h =
    let is_root = h.0 in
    let known : Known (root ∷ entries) root_path 1 = record {
      numbers = (omega arith, omega arith, tt);
      directories = λ k last o. only_root k last o (root, refl, is_root.1);
      below = λ k last o c y lo hi at. absurd (omega arith);
    } in
    let f = follows (root ∷ entries) root_path 1 entries known h.2 (λ j. ap (slice_get (root ∷ entries)) (one_more j)) in
    record {
      placed = λ i x le at. f.placed i x le at;
      rising = λ k. elim (eqb_tells k 0) [
        | inl e ↦ rw e.1 (f.opens 0 [] refl)
        | inr e ↦ (let ne : k ≢ 0 = e.1 in f.later k (omega arith))
      ];
      root = (root, refl, is_root.1);
    }
  where
    one_more : (j : ℕ) → 1 + j ≡ suc j
    one_more j = omega arith

    only_root : (k : ℕ) (last : List ℕ) → open_last root_path k ≡ Some last → (p : LowerNode) × (slice_get (root ∷ entries) 0 ≡ Some p) × (p.kind ≡ kinds.Dir) → (p : LowerNode) × (slice_get (root ∷ entries) k ≡ Some p) × (p.kind ≡ kinds.Dir)
    only_root k last o at = elim (eqb_tells 0 k) [
      | inl e ↦ subst (λ (i : ℕ). (p : LowerNode) × (slice_get (root ∷ entries) i ≡ Some p) × (p.kind ≡ kinds.Dir)) e.1 at
      | inr e ↦ absurd (let no : None ≡ Some last = rw e.0 at o in cc)
    ]
