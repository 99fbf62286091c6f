-- What a lower tree shows is carried by its store.
use Rattle.std.proofs.Common.{◌≡◌, ◌≢◌, ℕ, zero, suc, ◌+◌, ◌<◌, ◌≤◌, ◌⊎◌, inl, inr, Bool, true, false, cond, List, [], ◌∷◌, ◌++◌, length, get_or, Option, Some, None, IsTrue, refl, sym, ap, subst, ◌∙◌, arith}
use Rattle.std.specs.Prelude.{◌==◌, is_some, slice_get, nat_le}
use Rattle.std.specs.Option.{option_map_or}
use Rattle.std.proofs.lemmas.Bool.{cases_Bool}
use Rattle.std.proofs.lemmas.Bool.Decides.{eqb_tells, leb_tells}
use Rattle.std.proofs.lemmas.Option.{slice_get_within}
use Rattle.lower_model.specs.LowerTree.{comes_before}
use Rattle.lower_model.specs.declared.kind.Kind.{Kind}
use Rattle.lower_model.specs.declared.kind.Kind.TheVariants as kinds
use Rattle.lower_model.specs.declared.node.LowerNode.{LowerNode}
use Rattle.names_model.specs.declared.entry.Linked.{Linked}
use Rattle.names_model.specs.Store.{Entries, Store, linked_at, store_of}
use Rattle.names_model.specs.NameForm.{NameForm, is_upper, blocked_by}
use Rattle.names_model.specs.ShownBy.{is_first, kind_in, entries_in, shows, kind_shown, place_of, next_place, shown_places}
use Rattle.names_model.specs.CarriedBy.{Among}
use Rattle.tree_model.specs.declared.place.ForeignEntry.{ForeignEntry}
use Rattle.tree_model.specs.declared.place.Directory.{Directory}
use Rattle.tree_model.specs.declared.place.Place.{Place}
use Rattle.tree_model.specs.declared.place.Place.TheVariants.{Dir, File, Nothing}
use Rattle.tree_model.specs.Names.{node_of, RisesBehind}
use Rattle.tree_model.specs.IsTree.{IsNode, node_in}
use Rattle.tree_model.specs.PlainTree.{is_dir, is_this}
use Rattle.tree_model.specs.Listing.{NumbersRise}
use Rattle.tree_model.proofs.NameLemmas.{is_named_same, is_named_is}
use Rattle.plain_tree.proofs.Places.{slice_get-push}
use Rattle.namespace_model.specs.Carried.{View, view_of, IsForm, IsCarried, Blocks, Keeps, foreign_at, kind_by}
use Rattle.opening_model.specs.Filled.{first, number_of, foreign_entry, is_shown, foreign_if, foreign_behind, IsFilled}
use Rattle.opening_model.proofs.Rising.{among_behind, not_before_itself}
use Rattle.opening_model.proofs.TreeFacts.{Facts}
use Rattle.opening_model.proofs.StoreFacts.{entries_at, IsOf, is_of, in_store, store_is, linked_of, entry_linked, kind_of_node, one_entry, directory_of_entry, entry_above}
use Rattle.opening_model.proofs.Sound.{shown_name, name_shown, kind-some, kind_in_is, sound, length-shown}
use Rattle.opening_model.proofs.Stages.{first_among, among_first}

-- ---- entries that are shown, and foreign ones

is_upper_is : (name : List ℕ) (u : Option (List ℕ)) → is_upper name u ≡ true → u ≡ Some name
is_upper_is name (Some x) h = ap (λ (y : List ℕ). Some y) (sym (is_named_is name x h))
is_upper_is name None h = absurd cc

first_upper : (form : NameForm) (x : List ℕ) (es : Entries) (e : List ℕ × Linked) → first form x es ≡ Some e → form.upper e.0 ≡ Some x
first_upper form x [] e h = absurd cc
first_upper form x (f ∷ es) e h = elim (cases_Bool (is_upper x (form.upper f.0))) [
  | inl t ↦ (let is : Some f ≡ Some e = rw t at h in let same : f ≡ e = cc in ap (λ (g : List ℕ × Linked). form.upper g.0) (sym same) ∙ is_upper_is x (form.upper f.0) t)
  | inr g ↦ (let rest : first form x es ≡ Some e = rw g at h in first_upper form x es e rest)
]

first-more : (form : NameForm) (before : Entries) (e : List ℕ × Linked) (x : List ℕ) → is_first form (before ++ e ∷ []) x ≡ cond (is_upper x (form.upper e.0)) false (is_first form before x)
first-more form [] e x = elim (cases_Bool (is_upper x (form.upper e.0))) [ inl t ↦ rw t refl | inr f ↦ rw f refl ]
first-more form (y ∷ before) e x = elim (cases_Bool (is_upper x (form.upper y.0))) [
  | inl t ↦ rw t (elim (cases_Bool (is_upper x (form.upper e.0))) [ inl s ↦ rw s refl | inr f ↦ rw f refl ])
  | inr f ↦ rw f (first-more form before e x)
]

among_right : {A : Type 0} (x : A) (xs ys : List A) → Among x ys → Among x (xs ++ ys)
among_right x [] ys h = h
among_right x (y ∷ xs) ys h = inr (among_right x xs ys h)

among_parts : {A : Type 0} (x : A) (xs ys : List A) → Among x (xs ++ ys) → Among x xs ⊎ Among x ys
among_parts x [] ys h = inr h
among_parts x (y ∷ xs) ys h = elim h [
  | inl e ↦ inl (inl e)
  | inr l ↦ elim (among_parts x xs ys l) [ inl a ↦ inl (inr a) | inr b ↦ inr b ]
]

-- each entry is the first of its upper name, or foreign
shown_or_foreign : (form : NameForm) (before es : Entries) (e : List ℕ × Linked) → Among e es
    → ((x : List ℕ) × (is_first form before x ≡ true) × (first form x es ≡ Some e)) ⊎ Among (foreign_entry form e) (foreign_behind form before es)
shown_or_foreign form before [] e among = absurd among
shown_or_foreign form before (h ∷ es) e among = elim among [
  | inl same ↦ subst (λ (g : List ℕ × Linked). ((x : List ℕ) × (is_first form before x ≡ true) × (first form x (h ∷ es) ≡ Some g)) ⊎ Among (foreign_entry form g) (foreign_behind form before (h ∷ es))) (sym same) (own (form.upper h.0) refl)
  | inr later ↦ elim (shown_or_foreign form (before ++ h ∷ []) es e later) [
    | inr f ↦ inr (among_right (foreign_entry form e) (foreign_if form before h) (foreign_behind form (before ++ h ∷ []) es) f)
    | inl s ↦ (let more : cond (is_upper s.0 (form.upper h.0)) false (is_first form before s.0) ≡ true = sym (first-more form before h s.0) ∙ s.1 in
        elim (cases_Bool (is_upper s.0 (form.upper h.0))) [
          | inl t ↦ absurd (let no : false ≡ true = rw t at more in cc)
          | inr f ↦ (let is : is_first form before s.0 ≡ true = rw f at more in inl (s.0, is, rw f s.2))
        ])
  ]
]
  where
    own : (u : Option (List ℕ)) → form.upper h.0 ≡ u → ((x : List ℕ) × (is_first form before x ≡ true) × (first form x (h ∷ es) ≡ Some h)) ⊎ Among (foreign_entry form h) (foreign_behind form before (h ∷ es))
    own None up = inr (among_left_one (rw up refl))
      where
        among_left_one : is_shown form before (form.upper h.0) ≡ false → Among (foreign_entry form h) (foreign_behind form before (h ∷ es))
        among_left_one f = rw f (inl refl)
    own (Some x) up = elim (cases_Bool (is_first form before x)) [
      | inl t ↦ inl (x, t, rw up (rw (is_named_same x) refl))
      | inr f ↦ inr (let hidden : is_shown form before (form.upper h.0) ≡ false = ap (is_shown form before) up ∙ f in rw hidden (inl refl))
    ]

foreign_one : (form : NameForm) (before : Entries) (h : List ℕ × Linked) (f : ForeignEntry) (b : Bool) → Among f (cond b [] (foreign_entry form h ∷ [])) → f ≡ foreign_entry form h
foreign_one form before h f true among = absurd among
foreign_one form before h f false among = elim among [ inl e ↦ e | inr never ↦ absurd never ]

-- a foreign entry is one of the entries
foreign_among : (form : NameForm) (before es : Entries) (f : ForeignEntry) → Among f (foreign_behind form before es) → (e : List ℕ × Linked) × Among e es × (f ≡ foreign_entry form e)
foreign_among form before [] f among = absurd among
foreign_among form before (h ∷ es) f among = elim (among_parts f (foreign_if form before h) (foreign_behind form (before ++ h ∷ []) es) among) [
  | inl a ↦ (h, inl refl, foreign_one form before h f _ a)
  | inr b ↦ (let r = foreign_among form (before ++ h ∷ []) es f b in (r.0, inr r.1, r.2))
]

-- the first of an upper name isn't foreign
not_foreign : (form : NameForm) (last : List ℕ) (before es : Entries) (x : List ℕ) (e : List ℕ × Linked) → RisesBehind last es → is_first form before x ≡ true → first form x es ≡ Some e → (f : ForeignEntry) → Among f (foreign_behind form before es) → f.lower ≡ e.0 → ⊥
not_foreign form last before [] x e h is_one at f among same = absurd cc
not_foreign form last before (y ∷ es) x e h is_one at f among same = elim (cases_Bool (is_upper x (form.upper y.0))) [
  | inl t ↦ (let here : Some y ≡ Some e = rw t at at in let y_is : y ≡ e = cc in
      let shown : is_shown form before (form.upper y.0) ≡ true = ap (is_shown form before) (is_upper_is x (form.upper y.0) t) ∙ is_one in
      let tail : Among f (foreign_behind form (before ++ y ∷ []) es) = rw shown at among in
      let r = foreign_among form (before ++ y ∷ []) es f tail in
      let name : r.0.0 ≡ y.0 = sym (ap (λ (g : ForeignEntry). g.lower) r.2) ∙ same ∙ ap (λ (g : List ℕ × Linked). g.0) (sym y_is) in
      not_before_itself y.0 (subst (λ (n : List ℕ). IsTrue (comes_before y.0 n)) name (among_behind y.0 es r.0 h.2 r.1)))
  | inr g ↦ (let rest : first form x es ≡ Some e = rw g at at in
      elim (among_parts f (foreign_if form before y) (foreign_behind form (before ++ y ∷ []) es) among) [
        | inl a ↦ (let f_is : f ≡ foreign_entry form y = foreign_one form before y f _ a in
            let name : e.0 ≡ y.0 = sym same ∙ ap (λ (z : ForeignEntry). z.lower) f_is in
            not_before_itself y.0 (subst (λ (n : List ℕ). IsTrue (comes_before y.0 n)) name (among_behind y.0 es e h.2 (among_first form x es e rest))))
        | inr b ↦ not_foreign form y.0 (before ++ y ∷ []) es x e h.2 (first-more form before y x ∙ rw g is_one) rest f b same
      ])
]

-- ---- the places

module _ (form : NameForm) (laws : IsForm form) (nodes : List LowerNode) (facts : Facts nodes) where
  abbrev st : Store
  st = store_of nodes

  abbrev shown_so_far : ℕ → List Place
  shown_so_far m = shown_places form st m

  -- each place is what its number shows by those before it
  get-shown : (m i : ℕ) → i < m → slice_get (shown_so_far m) i ≡ Some (next_place form st i (shown_so_far i))
  get-shown zero i lt = absurd (omega arith)
  get-shown (suc m) i lt =
      let before : List Place = shown_so_far m in
      let count : length before ≡ m = length-shown form laws nodes facts m in
      let get : slice_get (before ++ next_place form st m before ∷ []) i ≡ cond (i == length before) (Some (next_place form st m before)) (slice_get before i) = slice_get-push before (next_place form st m before) i in
      elim (eqb_tells i (length before)) [
        | inl t ↦ (let same : i ≡ m = t.1 ∙ count in get ∙ rw t.0 (ap (λ (j : ℕ). Some (next_place form st j (shown_so_far j))) (sym same)))
        | inr t ↦ (let apart : i ≢ length before = t.1 in get ∙ rw t.0 (get-shown m i (omega arith)))
      ]

  -- a directory that shows a number has an entry that leads to it
  record Leads (k : ℕ) (x : List ℕ) (n : ℕ) : Type 0 where
    d : Directory
    is_d : slice_get (shown_so_far (length nodes)) k ≡ Some (Dir d)
    node : (p : LowerNode) × (slice_get nodes k ≡ Some p) × (p.kind ≡ kinds.Dir)
    filled : IsFilled form (entries_at nodes k) d
    e : List ℕ × Linked
    is_first_one : first form x (entries_at nodes k) ≡ Some e
    leads : e.1.node ≡ n
    among : Among e (entries_at nodes k)
    of : IsOf nodes k e.0 e.1

  leads_by : (k : ℕ) (x : List ℕ) (n : ℕ) (p : Option Place) → slice_get (shown_so_far (length nodes)) k ≡ p → node_in p x ≡ Some n → Leads k x n
  leads_by k x n None at h = absurd cc
  leads_by k x n (Some File) at h = absurd cc
  leads_by k x n (Some Nothing) at h = absurd cc
  leads_by k x n (Some (Dir d)) at h =
      let s = sound form laws nodes facts (length nodes) k (Dir d) at in
      let f = first_among form x (entries_at nodes k) n (sym (s.3.shown x) ∙ h) in
      let among : Among f.0 (entries_at nodes k) = among_first form x (entries_at nodes k) f.0 f.1 in
      record { d = d; is_d = at; node = (s.0, s.1, s.2); filled = s.3; e = f.0; is_first_one = f.1; leads = f.2; among = among; of = is_of nodes k f.0 among }

  leads_to : (k : ℕ) (x : List ℕ) (n : ℕ) → node_in (slice_get (shown_so_far (length nodes)) k) x ≡ Some n → Leads k x n
  leads_to k x n h = leads_by k x n (slice_get (shown_so_far (length nodes)) k) refl h

  -- a place that shows a number tells the kind of its node
  tells_kind : (n : ℕ) (x : LowerNode) → slice_get nodes n ≡ Some x → (m j : ℕ) (p : Place) → slice_get (shown_so_far m) j ≡ Some p → shows n p ≡ true → kind_in n (entries_in (st (0 + j))) ≡ Some x.kind
  tells_kind n x at m j File is h = absurd cc
  tells_kind n x at m j Nothing is h = absurd cc
  tells_kind n x at m j (Dir d) is h =
      let s = sound form laws nodes facts m j (Dir d) is in
      let y = shown_name n d.shown s.3.rises h in
      let f = first_among form y.0 (entries_at nodes j) n (sym (s.3.shown y.0) ∙ y.1) in
      let zero_is : 0 + j ≡ j = omega arith in
      ap (λ (i : ℕ). kind_in n (entries_in (st i))) zero_is
      ∙ ap (λ (o : Option Entries). kind_in n (entries_in o)) (store_is nodes j s.0 s.1 s.2)
      ∙ kind_in_is n (entries_at nodes j) x.kind
      (λ g a same. (let o = is_of nodes j g a in let both : Some o.x ≡ Some x = sym o.at ∙ ap (slice_get nodes) same ∙ at in let one : o.x ≡ x = cc in sym o.kind ∙ ap (λ (z : LowerNode). z.kind) one))
      f.0 (among_first form y.0 (entries_at nodes j) f.0 f.1) f.2

  -- the place of a node that is shown
  place_by : (k n : ℕ) (x : List ℕ) (l : Leads k x n) → slice_get (shown_so_far (length nodes)) n ≡ Some (place_of form st n l.e.1.kind)
  place_by k zero x l = absurd (let b : 1 ≤ l.e.1.node = l.of.behind in let z : l.e.1.node ≡ 0 = l.leads in omega arith)
  place_by k (suc i) x l =
      let n : ℕ = suc i in
      let above = entry_above nodes facts k l.e.0 l.e.1 l.of in
      let k_lt : k < l.e.1.node = above.0 in
      let n_lt : l.e.1.node < length nodes = above.1 in
      let n_is : l.e.1.node ≡ n = l.leads in
      let y : LowerNode = l.of.x in
      let at : slice_get nodes n ≡ Some y = ap (slice_get nodes) (sym n_is) ∙ l.of.at in
      let early : slice_get (shown_so_far n) k ≡ Some (Dir l.d) = get-shown n k (omega arith) ∙ sym (get-shown (length nodes) k (omega arith)) ∙ l.is_d in
      let number : node_of x l.d.shown ≡ Some n = l.filled.shown x ∙ ap number_of l.is_first_one ∙ ap (λ (j : ℕ). Some j) n_is in
      let kind : kind_shown st n 0 (shown_so_far n) ≡ Some y.kind = kind-some st n 0 (shown_so_far n) y.kind (λ j p is h. tells_kind n y at n j p is h) k (Dir l.d) early (name_shown n l.d.shown x number) in
      get-shown (length nodes) n (omega arith) ∙ ap (λ (o : Option Kind). Some (option_map_or (place_of form st n) o Nothing)) kind ∙ ap (λ (kd : Kind). Some (place_of form st n kd)) l.of.kind

  place_node : (n : ℕ) (kind : Kind) → IsNode (Some (place_of form st n kind))
  place_node n kinds.Dir = tt
  place_node n kinds.File = tt

  place_kind : (n : ℕ) (kind : Kind) → kind ≡ kind_by (is_dir (Some (place_of form st n kind)))
  place_kind n kinds.Dir = refl
  place_kind n kinds.File = refl

  -- what is shown is a node of the lower tree
  pub shown_node : (k : ℕ) (x : List ℕ) (n : ℕ) → node_in (slice_get (shown_so_far (length nodes)) k) x ≡ Some n → (y : LowerNode) × (slice_get nodes n ≡ Some y) × (1 ≤ n) × IsNode (slice_get (shown_so_far (length nodes)) n)
  shown_node k x n h =
      let l = leads_to k x n h in
      (l.of.x, ap (slice_get nodes) (sym l.leads) ∙ l.of.at, subst (λ (j : ℕ). 1 ≤ j) l.leads l.of.behind, subst IsNode (sym (place_by k n x l)) (place_node n l.e.1.kind))

  -- each entry that is shown has a greater number than its directory
  pub numbers_rise : NumbersRise (shown_so_far (length nodes))
  numbers_rise k x n h = let l = leads_to k x n h in subst (λ (j : ℕ). k < j) l.leads (entry_above nodes facts k l.e.0 l.e.1 l.of).0

  by_kinds : (a b : Bool) → kind_by a ≡ kind_by b → a ≡ b
  by_kinds true true h = refl
  by_kinds true false h = absurd cc
  by_kinds false true h = absurd cc
  by_kinds false false h = refl

  module _ (kept : List (List ℕ)) (names : (i : ℕ) (x : LowerNode) → 1 ≤ i → IsNode (slice_get (shown_so_far (length nodes)) i) → slice_get nodes i ≡ Some x → get_or kept i [] ≡ x.name) where
    abbrev places : List Place
    places = shown_so_far (length nodes)

    abbrev v : View
    v = view_of places kept st

    kept_name : (k : ℕ) (x : List ℕ) (n : ℕ) (l : Leads k x n) → get_or kept n [] ≡ l.e.0
    kept_name k x n l =
        let at : slice_get nodes n ≡ Some l.of.x = ap (slice_get nodes) (sym l.leads) ∙ l.of.at in
        let one : 1 ≤ n = subst (λ (j : ℕ). 1 ≤ j) l.leads l.of.behind in
        names n l.of.x one (subst IsNode (sym (place_by k n x l)) (place_node n l.e.1.kind)) at ∙ l.of.named

    dir_by : (k : ℕ) (p : Option Place) → slice_get places k ≡ p → is_dir p ≡ true → (d : Directory) × (slice_get places k ≡ Some (Dir d))
    dir_by k None at h = absurd cc
    dir_by k (Some File) at h = absurd cc
    dir_by k (Some Nothing) at h = absurd cc
    dir_by k (Some (Dir d)) at h = (d, at)

    foreign_by : (k : ℕ) (f : ForeignEntry) (p : Option Place) → slice_get places k ≡ p → Among f (foreign_at p) → (d : Directory) × (slice_get places k ≡ Some (Dir d)) × Among f d.foreign
    foreign_by k f None at h = absurd h
    foreign_by k f (Some File) at h = absurd h
    foreign_by k f (Some Nothing) at h = absurd h
    foreign_by k f (Some (Dir d)) at h = (d, at, h)

    -- a foreign entry is one of the store
    foreign_is : (k : ℕ) (f : ForeignEntry) → Among f (v.foreign k) → (e : List ℕ × Linked) × (f ≡ foreign_entry form e) × (linked_at (st k) e.0 ≡ Some e.1) × Among f (foreign_behind form [] (entries_at nodes k))
    foreign_is k f among =
        let d = foreign_by k f (slice_get places k) refl among in
        let s = sound form laws nodes facts (length nodes) k (Dir d.0) d.1 in
        let here : Among f (foreign_behind form [] (entries_at nodes k)) = subst (λ (fs : List ForeignEntry). Among f fs) s.3.foreign d.2 in
        let e = foreign_among form [] (entries_at nodes k) f here in
        (e.0, e.2, entry_linked nodes facts k s.0 e.0 s.1 s.2 e.1, here)

    down : (k : ℕ) (x : List ℕ) (n : ℕ) → v.shown k x ≡ Some n → v.low k (v.keeps n) ≡ Some (record { kind = kind_by (v.is_dir n); node = n })
    down k x n h =
        let l = leads_to k x n h in
        let kind : l.e.1.kind ≡ kind_by (v.is_dir n) = place_kind n l.e.1.kind ∙ ap (λ (p : Option Place). kind_by (is_dir p)) (sym (place_by k n x l)) in
        let link : l.e.1 ≡ record { kind = kind_by (v.is_dir n); node = n } = λ i. record { kind = kind i; node = l.leads i } in
        ap (v.low k) (kept_name k x n l) ∙ entry_linked nodes facts k l.node.0 l.e l.node.1 l.node.2 l.among ∙ ap (λ (m : Linked). Some m) link

    up_by : (k : ℕ) (y : List ℕ) (l : Linked) → v.is_dir k ≡ true → v.low k y ≡ Some l → ((name : List ℕ) × (v.shown k name ≡ Some l.node) × (v.keeps l.node ≡ y)) ⊎ ((f : ForeignEntry) × Among f (v.foreign k) × (f.lower ≡ y))
    up_by k y l is h =
        let d = dir_by k (slice_get places k) refl is in
        let s = sound form laws nodes facts (length nodes) k (Dir d.0) d.1 in
        let there = linked_of nodes k y l h in
        elim (shown_or_foreign form [] (entries_at nodes k) (y, l) there.0) [
          | inl f ↦ (let shown : v.shown k f.0 ≡ Some l.node = ap (λ (p : Option Place). node_in p f.0) d.1 ∙ s.3.shown f.0 ∙ ap number_of f.2 in
              let lead = leads_to k f.0 l.node shown in
              let both : Some lead.e ≡ Some (y, l) = sym lead.is_first_one ∙ f.2 in
              let name : lead.e.0 ≡ y = ap (λ (o : Option (List ℕ × Linked)). name_in o) both in
              inl (f.0, shown, kept_name k f.0 l.node lead ∙ name))
          | inr f ↦ inr (foreign_entry form (y, l), subst (λ (p : Option Place). Among (foreign_entry form (y, l)) (foreign_at p)) (sym d.1) (subst (λ (fs : List ForeignEntry). Among (foreign_entry form (y, l)) fs) (sym s.3.foreign) f), refl)
        ]
      where
        name_in : Option (List ℕ × Linked) → List ℕ
        name_in (Some e) = e.0
        name_in None = []

    reads : (k : ℕ) (x : List ℕ) (n : ℕ) → v.shown k x ≡ Some n → form.upper (v.keeps n) ≡ Some x
    reads k x n h = let l = leads_to k x n h in ap form.upper (kept_name k x n l) ∙ first_upper form x (entries_at nodes k) l.e l.is_first_one

    carried : IsCarried form v
    carried = record {
      dirs = λ k h. (let d = dir_by k (slice_get places k) refl h in let s = sound form laws nodes facts (length nodes) k (Dir d.0) d.1 in ap is_some (store_is nodes k s.0 s.1 s.2));
      held = λ k x n h. ap is_dir (leads_to k x n h).is_d;
      down = down;
      reads = reads;
      up = up_by;
      foreign = λ k f among. (let e = foreign_is k f among in (e.0.1, ap (v.low k) (ap (λ (g : ForeignEntry). g.lower) e.1) ∙ e.2, sym (ap (λ (g : ForeignEntry). g.node) e.1)));
      apart = λ k x n f h among same. (let l = leads_to k x n h in not_foreign form [] [] (entries_at nodes k) x l.e (facts.rising k) refl l.is_first_one f (foreign_is k f among).3 (same ∙ kept_name k x n l));
      once = λ k j x y n h g. (let p = leads_to k x n h in let q = leads_to j y n g in
          let one = one_entry nodes k j p.e.0 q.e.0 p.e.1 q.e.1 p.of q.of (p.leads ∙ sym q.leads) in
          let both : Some x ≡ Some y = sym (reads k x n h) ∙ reads j y n g in (one.0, cc));
      root = λ k x n h. (let l = leads_to k x n h in let b : 1 ≤ l.e.1.node = l.of.behind in let z : l.e.1.node ≡ n = l.leads in λ e. omega arith);
      within = λ k x n h. (let l = leads_to k x n h in let lt : l.e.1.node < length nodes = (entry_above nodes facts k l.e.0 l.e.1 l.of).1 in subst (λ (j : ℕ). j < length places) l.leads (subst (λ (m : ℕ). l.e.1.node < m) (sym (length-shown form laws nodes facts (length nodes))) lt));
      alike = λ k x n h. (let l = leads_to k x n h in
          let at : slice_get nodes n ≡ Some l.of.x = ap (slice_get nodes) (sym l.leads) ∙ l.of.at in
          by_kinds (v.dir n) (v.is_dir n) (sym (kind_of_node nodes n l.of.x at) ∙ l.of.kind ∙ place_kind n l.e.1.kind ∙ ap (λ (p : Option Place). kind_by (is_dir p)) (sym (place_by k n x l))));
      low_within = λ k y l h. subst (λ (m : ℕ). l.node < m) (sym (length-shown form laws nodes facts (length nodes))) (entry_above nodes facts k y l (linked_of nodes k y l h).1).1;
      low_dir = λ k h. subst (λ (m : ℕ). k < m) (sym (length-shown form laws nodes facts (length nodes))) (dir_within k (st k) refl h);
      low_once = λ k j y z l m h g e. (let one = one_entry nodes k j y z l m (linked_of nodes k y l h).1 (linked_of nodes j z m g).1 e in (one.0, one.1));
      low_root = λ k y l h. (let b : 1 ≤ l.node = (linked_of nodes k y l h).1.behind in λ e. omega arith);
      low_held = λ k y l h. (let p = directory_of_entry nodes facts k y l (linked_of nodes k y l h).1 in ap is_some (store_is nodes k p.0 p.1 p.2));
      low_kinds = λ k y l h. (let o = (linked_of nodes k y l h).1 in sym o.kind ∙ kind_of_node nodes l.node o.x o.at);
    }
      where
        dir_within : (k : ℕ) (o : Option Entries) → st k ≡ o → is_some o ≡ true → k < length nodes
        dir_within k None at h = absurd cc
        dir_within k (Some es) at h = let d = in_store nodes k es at in slice_get_within nodes k d.x d.at

    blocks : Blocks form v
    blocks k f name among is fits same =
        let e = foreign_is k f among in
        let lower : e.0.0 ≡ form.written name = sym (ap (λ (g : ForeignEntry). g.lower) e.1) ∙ same in
        let up : form.upper e.0.0 ≡ Some name = ap form.upper lower ∙ laws.reads_written name is fits in
        ap (λ (g : ForeignEntry). is_this name g.blocks) e.1 ∙ ap (λ (u : Option (List ℕ)). is_this name (blocked_by form u e.0.0)) up ∙ blocks_it e.0.0 lower
      where
        blocks_it : (y : List ℕ) → y ≡ form.written name → is_this name (blocked_by form (Some name) y) ≡ true
        blocks_it y at = rw at (rw (leb_true fits) (rw (is_named_same (form.written name)) (is_named_same name)))
          where
            leb_true : length name ≤ form.longest → nat_le (length name) form.longest ≡ true
            leb_true h = elim (leb_tells (length name) form.longest) [ inl t ↦ t.0 | inr f ↦ absurd (let no = f.1 in omega arith) ]

    -- what a lower tree shows is kept
    pub keeps_shown : length kept ≡ length nodes → Keeps form places kept st
    keeps_shown size = record {
      carries = carried;
      blocks = blocks;
      size = size ∙ sym (length-shown form laws nodes facts (length nodes));
      root = (let r = facts.root in let lt = slice_get_within nodes 0 r.0 r.1 in ap is_dir (get-shown (length nodes) 0 lt));
      rises = record { rising = λ k es h. subst (RisesBehind []) (sym (in_store nodes k es h).entries) (facts.rising k) };
    }
