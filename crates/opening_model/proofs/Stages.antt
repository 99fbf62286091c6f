-- Entries that are entered one by one lead from stage to stage.
use Rattle.std.proofs.Common.{◌≡◌, ◌≢◌, ℕ, zero, suc, ◌+◌, ◌<◌, ◌≤◌, inl, inr, Bool, true, false, cond, List, [], ◌∷◌, ◌++◌, length, get_or, replicate, ◌-◌, Option, Some, None, IsTrue, refl, sym, ap, subst, ◌∙◌, arith, append_assoc, get_or-set_same, get_or-set_other}
use Rattle.std.specs.Prelude.{◌==◌, ◌&&◌, not, is_some, slice_get, slice_set}
use Rattle.std.specs.List.{list_any}
use Rattle.std.specs.Option.{option_map_or}
use Rattle.std.proofs.lemmas.Bool.{cases_Bool, ne_eqb, eq-eqb, eqb-true, and_from}
use Rattle.std.proofs.lemmas.Bool.Decides.{eqb_tells}
use Rattle.std.proofs.lemmas.List.{length-set, append-nil}
use Rattle.std.proofs.lemmas.Option.{slice_get_within}
use Rattle.lower_model.specs.Name.{is_name}
use Rattle.lower_model.specs.LowerTree.{comes_before}
use Rattle.lower_model.specs.declared.kind.Kind.{Kind}
use Rattle.lower_model.specs.declared.kind.Kind.TheVariants as kinds
use Rattle.lower_model.specs.declared.node.LowerNode.{LowerNode}
use Rattle.names_model.specs.declared.entry.Linked.{Linked}
use Rattle.names_model.specs.Store.{Entries, Store, store_of}
use Rattle.names_model.specs.NameForm.{NameForm, is_upper}
use Rattle.names_model.specs.ShownBy.{directory_of, is_first, kind_in, entries_in, shows, kind_shown, place_of, next_place, shown_places, shown_of}
use Rattle.names_model.specs.CarriedBy.{Among}
use Rattle.tree_model.specs.declared.place.ForeignEntry.{ForeignEntry}
use Rattle.tree_model.specs.declared.place.Directory.{Directory}
use Rattle.tree_model.specs.declared.place.Place.{Place}
use Rattle.tree_model.specs.declared.place.Place.TheVariants.{Dir, File, Nothing}
use Rattle.tree_model.specs.Names.{node_of, put_entry, RisesBehind}
use Rattle.tree_model.specs.IsTree.{IsNode, node_in}
use Rattle.tree_model.specs.PlainTree.{is_dir, begun, empty_directory, placed, place_with}
use Rattle.plain_tree.specs.Entered.{entered_foreign, place_with_foreign}
use Rattle.plain_tree.proofs.Places.{slice_get-set, slice_get-push}
use Rattle.namespace_model.specs.Carried.{IsForm}
use Rattle.opening_model.specs.Filled.{first, number_of, foreign_entry, is_shown, IsFilled}
use Rattle.opening_model.specs.InTurn.{Opened, is_free, as_shown, as_foreign, as_entry, with_lower, with_lowers}
use Rattle.opening_model.specs.Stage.{ahead, FitsNodes, IsStage}
use Rattle.opening_model.proofs.Rising.{not_before_itself, among_behind}
use Rattle.opening_model.proofs.TreeFacts.{Facts}
use Rattle.opening_model.proofs.StoreFacts.{entries_at, IsOf, is_of, store_is, one_entry, directory_of_entry, entry_above}
use Rattle.opening_model.proofs.Filling.{filled_directory, one_directory, filled_empty, filled_shown, filled_foreign, shows_seen}
use Rattle.opening_model.proofs.Sound.{shown_name, any-put, kind-hidden, kind-alike, kind-none, kind-first, kind_in_is, kind-from, node_from_kind, IsSound, sound, length-shown}

-- ---- members

among_middle : {A : Type 0} (xs : List A) (x : A) (ys : List A) → Among x (xs ++ x ∷ ys)
among_middle [] x ys = inl refl
among_middle (y ∷ xs) x ys = inr (among_middle xs x ys)

among_left : {A : Type 0} (x : A) (xs ys : List A) → Among x xs → Among x (xs ++ ys)
among_left x [] ys h = absurd h
among_left x (y ∷ xs) ys h = elim h [ inl e ↦ inl e | inr l ↦ inr (among_left x xs ys l) ]

-- an entry before another one comes before it by name
before_middle : (last : List ℕ) (es : Entries) (e : List ℕ × Linked) (later : Entries) (f : List ℕ × Linked) → RisesBehind last (es ++ e ∷ later) → Among f es → IsTrue (comes_before f.0 e.0)
before_middle last [] e later f h among = absurd among
before_middle last (g ∷ es) e later f h among = elim among [
  | inl same ↦ subst (λ (y : List ℕ × Linked). IsTrue (comes_before y.0 e.0)) (sym same) (among_behind g.0 (es ++ e ∷ later) e h.2 (among_middle es e later))
  | inr rest ↦ before_middle g.0 es e later f h.2 rest
]

name_middle : (last : List ℕ) (es : Entries) (e : List ℕ × Linked) (later : Entries) → RisesBehind last (es ++ e ∷ later) → IsTrue (is_name e.0)
name_middle last [] e later h = h.1
name_middle last (g ∷ es) e later h = name_middle g.0 es e later h.2

-- an entry that is the first of a name is one
pub first_among : (form : NameForm) (x : List ℕ) (es : Entries) (n : ℕ) → number_of (first form x es) ≡ Some n → (e : List ℕ × Linked) × (first form x es ≡ Some e) × (e.1.node ≡ n)
first_among form x es n h = by (first form x es) refl h
  where
    by : (o : Option (List ℕ × Linked)) → first form x es ≡ o → number_of o ≡ Some n → (e : List ℕ × Linked) × (first form x es ≡ Some e) × (e.1.node ≡ n)
    by None at g = absurd cc
    by (Some e) at g = (e, at, cc)

pub among_first : (form : NameForm) (x : List ℕ) (es : Entries) (e : List ℕ × Linked) → first form x es ≡ Some e → Among e es
among_first form x [] e h = absurd cc
among_first form x (f ∷ es) e h = elim (cases_Bool (is_upper x (form.upper f.0))) [
  | inl t ↦ (let is : Some f ≡ Some e = rw t at h in let same : f ≡ e = cc in inl (sym same))
  | inr g ↦ (let rest : first form x es ≡ Some e = rw g at h in inr (among_first form x es e rest))
]

-- ---- places

tells : (i k : ℕ) → (i == k) ≡ true → i ≡ k
tells i k t = eqb-true i k t

at_it : (places : List Place) (i k : ℕ) (d : Directory) → i ≡ k → slice_get places k ≡ Some (Dir d) → IsNode (slice_get places i)
at_it places i k d same h = rw (ap (slice_get places) same ∙ h) tt

was_node : (p : Option Place) (b : Bool) (d : Directory) → IsNode (cond b (Some (Dir d)) p) → (b ≡ true → IsNode p) → IsNode p
was_node p true d h f = f refl
was_node p false d h f = h

get_placed : (places : List Place) (k : ℕ) (d : Directory) (name : List ℕ) (m i : ℕ) → k < length places → slice_get places k ≡ Some (Dir d) → slice_get (placed places k name m) i ≡ cond (i == k) (Some (Dir (record d { shown = put_entry d.shown name m }))) (slice_get places i)
get_placed places k d name m i within h = slice_get-set places k i (place_with name m (slice_get places k)) within ∙ ap (λ (p : Option Place). cond (i == k) (Some (place_with name m p)) (slice_get places i)) h

length_placed : (places : List Place) (k : ℕ) (name : List ℕ) (m : ℕ) → length (placed places k name m) ≡ length places
length_placed places k name m = length-set places k (place_with name m (slice_get places k))

kept_there : (kept : List (List ℕ)) (m : ℕ) (y : List ℕ) (i : ℕ) (z : List ℕ) → m < length kept → (i ≡ m → y ≡ z) → (i ≢ m → get_or kept i [] ≡ z) → get_or (slice_set kept m y) i [] ≡ z
kept_there kept m y i z lt own other = elim (eqb_tells i m) [
  | inl t ↦ (let at : get_or (slice_set kept m y) m [] ≡ y = get_or-set_same kept m y [] lt in ap (λ (j : ℕ). get_or (slice_set kept m y) j []) t.1 ∙ at ∙ own t.1)
  | inr t ↦ get_or-set_other kept m i y [] t.1 ∙ other t.1
]

none_is : {A : Type 0} (o : Option A) → is_some o ≡ false → o ≡ None
none_is None h = refl
none_is (Some a) h = absurd cc

-- ---- while a directory is entered

-- Of the directory with a number these entries are entered.
pub record IsMid (form : NameForm) (nodes : List LowerNode) (k : ℕ) (es : Entries) (d : Directory) (o : Opened) : Type 0 where
  pub fits : FitsNodes form nodes o
  pub done : (i : ℕ) → i < k → slice_get o.tree.places i ≡ slice_get (shown_places form (store_of nodes) k) i
  pub here : slice_get o.tree.places k ≡ Some (Dir d)
  pub filled : IsFilled form es d
  pub later : (i : ℕ) → k < i → i < length nodes → slice_get o.tree.places i ≡ Some (ahead (store_of nodes) (shown_places form (store_of nodes) k ++ Dir d ∷ []) i)
  pub next : next_place form (store_of nodes) k (shown_places form (store_of nodes) k) ≡ Dir (directory_of form (entries_at nodes k))
  pub node : (x : LowerNode) × (slice_get nodes k ≡ Some x) × (x.kind ≡ kinds.Dir)

module _ (form : NameForm) (laws : IsForm form) (nodes : List LowerNode) (facts : Facts nodes) (k : ℕ) where
  abbrev store : Store
  store = store_of nodes

  abbrev before : List Place
  before = shown_places form store k

  -- no directory before shows the node of an entry
  hidden_before : (name : List ℕ) (l : Linked) → IsOf nodes k name l → (j : ℕ) (p : Place) → slice_get before j ≡ Some p → shows l.node p ≡ false
  hidden_before name l e j p at = by p at (sound form laws nodes facts k j p at)
    where
      in_it : j < k
      in_it = subst (λ (n : ℕ). j < n) (length-shown form laws nodes facts k) (slice_get_within before j p at)

      by : (q : Place) → slice_get before j ≡ Some q → IsSound form nodes j q → shows l.node q ≡ false
      by (Dir d) at s = elim (cases_Bool (list_any (λ (y : List ℕ × ℕ). y.1 == l.node) d.shown)) [
        | inr f ↦ f
        | inl t ↦ (let x = shown_name l.node d.shown s.3.rises t in
            let f = first_among form x.0 (entries_at nodes j) l.node (sym (s.3.shown x.0) ∙ x.1) in
            let among : Among f.0 (entries_at nodes j) = first_in (entries_at nodes j) x.0 f.0 f.1 in
            let one = one_entry nodes j k f.0.0 name f.0.1 l (is_of nodes j f.0 among) e f.2 in
            let same : j ≡ k = one.0 in
            absurd (let lt = in_it in omega arith))
      ]
        where
          first_in : (es : Entries) (x : List ℕ) (f : List ℕ × Linked) → first form x es ≡ Some f → Among f es
          first_in es x f h = among_first form x es f h
      by File at s = refl
      by Nothing at s = refl

  module _ (es : Entries) (e : List ℕ × Linked) (rest : Entries) (all : entries_at nodes k ≡ es ++ e ∷ rest) where
    among : Among e (entries_at nodes k)
    among = subst (Among e) (sym all) (among_middle es e rest)

    of : IsOf nodes k e.0 e.1
    of = is_of nodes k e among

    rises : RisesBehind [] (es ++ e ∷ rest)
    rises = subst (RisesBehind []) all (facts.rising k)

    -- nor does the directory itself
    hidden_here : (d : Directory) → IsFilled form es d → list_any (λ (y : List ℕ × ℕ). y.1 == e.1.node) d.shown ≡ false
    hidden_here d filled = elim (cases_Bool (list_any (λ (y : List ℕ × ℕ). y.1 == e.1.node) d.shown)) [
      | inr f ↦ f
      | inl t ↦ (let x = shown_name e.1.node d.shown filled.rises t in
          let f = first_among form x.0 es e.1.node (sym (filled.shown x.0) ∙ x.1) in
          let early : Among f.0 es = among_first form x.0 es f.0 f.1 in
          let one = one_entry nodes k k f.0.0 e.0 f.0.1 e.1 (is_of nodes k f.0 (subst (Among f.0) (sym all) (among_left f.0 es (e ∷ rest) early))) of f.2 in
          absurd (not_before_itself e.0 (subst (λ (y : List ℕ). IsTrue (comes_before y e.0)) one.1 (before_middle [] es e rest f.0 rises early))))
    ]

    -- so its place is free
    nothing_there : (d : Directory) (o : Opened) → IsMid form nodes k es d o → slice_get o.tree.places e.1.node ≡ Some Nothing
    nothing_there d o mid =
        let above = entry_above nodes facts k e.0 e.1 of in
        mid.later e.1.node above.0 above.1
        ∙ ap (λ (kind : Option Kind). Some (option_map_or begun kind Nothing))
        (kind-hidden store e.1.node 0 before (Dir d) (hidden_here d mid.filled) ∙ kind-none store e.1.node 0 before (hidden_before e.0 e.1 of))

    mid_foreign : (d : Directory) (o : Opened) → IsMid form nodes k es d o → is_shown form es (form.upper e.0) ≡ false
        → IsMid form nodes k (es ++ e ∷ []) (record d { foreign = d.foreign ++ foreign_entry form e ∷ [] }) (record o { tree = entered_foreign o.tree k (foreign_entry form e) })
    mid_foreign d o mid hidden =
        let entry : ForeignEntry = foreign_entry form e in
        let new : Directory = record d { foreign = d.foreign ++ entry ∷ [] } in
        let within : k < length o.tree.places = slice_get_within o.tree.places k (Dir d) mid.here in
        let get : (i : ℕ) → slice_get (slice_set o.tree.places k (place_with_foreign entry (slice_get o.tree.places k))) i ≡ cond (i == k) (Some (Dir new)) (slice_get o.tree.places i) =
        λ i. slice_get-set o.tree.places k i (place_with_foreign entry (slice_get o.tree.places k)) within ∙ ap (λ (p : Option Place). cond (i == k) (Some (place_with_foreign entry p)) (slice_get o.tree.places i)) mid.here in
        record {
          fits = record {
            limit = mid.fits.limit;
            size = length-set o.tree.places k (place_with_foreign entry (slice_get o.tree.places k)) ∙ mid.fits.size;
            names = mid.fits.names;
            kept = λ i x le is at. mid.fits.kept i x le (was_node (slice_get o.tree.places i) (i == k) new (subst IsNode (get i) is) (λ t. at_it o.tree.places i k d (tells i k t) mid.here)) at;
          };
          done = λ i lt. get i ∙ rw (ne_eqb i k (λ q. omega arith)) (mid.done i lt);
          here = get k ∙ rw (eq-eqb k k refl) refl;
          filled = filled_foreign form es e d mid.filled hidden;
          later = λ i lt in_it. get i ∙ rw (ne_eqb i k (λ q. omega arith)) (mid.later i lt in_it ∙ ap (λ (kind : Option Kind). Some (option_map_or begun kind Nothing)) (kind-alike store i 0 before (Dir d) (Dir new) refl));
          next = mid.next;
          node = mid.node;
        }

    -- the kind of the entry that is entered now
    own_kind : (d : Directory) (name : List ℕ) → node_of name d.shown ≡ None → kind_shown store e.1.node 0 (before ++ Dir (record d { shown = put_entry d.shown name e.1.node }) ∷ []) ≡ Some e.1.kind
    own_kind d name none =
        let x = directory_of_entry nodes facts k e.0 e.1 of in
        let count : length before ≡ k = length-shown form laws nodes facts k in
        let at : 0 + length before ≡ k = omega arith in
        kind-first store e.1.node 0 before (Dir (record d { shown = put_entry d.shown name e.1.node })) (hidden_before e.0 e.1 of) (any-put e.1.node name e.1.node d.shown none ∙ rw (eq-eqb e.1.node e.1.node refl) refl)
        ∙ ap (λ (j : ℕ). kind_in e.1.node (entries_in (store j))) at
        ∙ ap (λ (o : Option Entries). kind_in e.1.node (entries_in o)) (store_is nodes k x.0 x.1 x.2)
        ∙ kind_in_is e.1.node (entries_at nodes k) e.1.kind (λ f a same. ap (λ (l : Linked). l.kind) (one_entry nodes k k f.0 e.0 f.1 e.1 (is_of nodes k f a) of same).2) e among refl

    mid_shown : (d : Directory) (o : Opened) → IsMid form nodes k es d o → (name : List ℕ) → form.upper e.0 ≡ Some name → is_first form es name ≡ true → node_of name d.shown ≡ None
        → IsMid form nodes k (es ++ e ∷ []) (record d { shown = put_entry d.shown name e.1.node }) (as_shown o k e name)
    mid_shown d o mid name up is_first_one none =
        let m : ℕ = e.1.node in
        let new : Directory = record d { shown = put_entry d.shown name m } in
        let above = entry_above nodes facts k e.0 e.1 of in
        let k_lt : k < m = above.0 in
        let m_lt : m < length nodes = above.1 in
        let within : k < length o.tree.places = slice_get_within o.tree.places k (Dir d) mid.here in
        let dir_place : Place = Dir new in
        let first_get : (i : ℕ) → slice_get (placed o.tree.places k name m) i ≡ cond (i == k) (Some dir_place) (slice_get o.tree.places i) = λ i. get_placed o.tree.places k d name m i within mid.here in
        let size : length (placed o.tree.places k name m) ≡ length nodes = length_placed o.tree.places k name m ∙ mid.fits.size in
        let m_in : m < length (placed o.tree.places k name m) = omega arith in
        let get : (i : ℕ) → slice_get (slice_set (placed o.tree.places k name m) m (begun e.1.kind)) i ≡ cond (i == m) (Some (begun e.1.kind)) (cond (i == k) (Some dir_place) (slice_get o.tree.places i)) =
        λ i. slice_get-set (placed o.tree.places k name m) m i (begun e.1.kind) m_in ∙ ap (λ (p : Option Place). cond (i == m) (Some (begun e.1.kind)) p) (first_get i) in
        let is_a : IsTrue (is_name name) = laws.reads_names e.0 name (name_middle [] es e rest rises) up in
        let names_in : m < length o.kept = (let n = mid.fits.names in omega arith) in
        record {
          fits = record {
            limit = mid.fits.limit;
            size = length-set (placed o.tree.places k name m) m (begun e.1.kind) ∙ size;
            names = length-set o.kept m e.0 ∙ mid.fits.names;
            kept = λ i x le is at. kept_there o.kept m e.0 i x.name names_in
                (λ same. (let both : Some x ≡ Some of.x = sym at ∙ ap (slice_get nodes) same ∙ of.at in let one : x ≡ of.x = cc in sym of.named ∙ ap (λ (y : LowerNode). y.name) (sym one)))
                (λ apart. mid.fits.kept i x le (was_node (slice_get o.tree.places i) (i == k) new (subst IsNode (get i ∙ rw (ne_eqb i m apart) refl) is) (λ t. at_it o.tree.places i k d (tells i k t) mid.here)) at);
          };
          done = λ i lt. get i ∙ rw (ne_eqb i m (λ q. omega arith)) (rw (ne_eqb i k (λ q. omega arith)) (mid.done i lt));
          here = get k ∙ rw (ne_eqb k m (λ q. omega arith)) (rw (eq-eqb k k refl) refl);
          filled = filled_shown form es e d name is_a mid.filled up is_first_one;
          later = λ i lt in_it. get i ∙ elim (eqb_tells i m) [
            | inl t ↦ rw t.0 (ap (λ (kind : Option Kind). Some (option_map_or begun kind Nothing)) (sym (ap (λ (j : ℕ). kind_shown store j 0 (before ++ Dir new ∷ [])) t.1 ∙ own_kind d name none)))
            | inr t ↦ rw t.0 (rw (ne_eqb i k (λ q. omega arith)) (mid.later i lt in_it ∙ ap (λ (kind : Option Kind). Some (option_map_or begun kind Nothing))
                (kind-alike store i 0 before (Dir d) (Dir new) (sym (any-put i name m d.shown none ∙ rw (ne_eqb m i (λ q. t.1 (sym q))) refl)))))
          ];
          next = mid.next;
          node = mid.node;
        }

    mid_by : (d : Directory) (o : Opened) → IsMid form nodes k es d o → (u : Option (List ℕ)) → form.upper e.0 ≡ u → (new : Directory) × IsMid form nodes k (es ++ e ∷ []) new (as_entry form o k e u)
    mid_by d o mid None up = (record d { foreign = d.foreign ++ foreign_entry form e ∷ [] }, subst (λ (u : Option (List ℕ)). IsMid form nodes k (es ++ e ∷ []) (record d { foreign = d.foreign ++ foreign_entry form e ∷ [] }) (as_foreign form o k e u)) up (mid_foreign d o mid (ap (is_shown form es) up)))
    mid_by d o mid (Some name) up =
        let s : is_some (node_in (slice_get o.tree.places k) name) ≡ not (is_first form es name) = ap (λ (p : Option Place). is_some (node_in p name)) mid.here ∙ shows_seen form es d name mid.filled in
        elim (cases_Bool (is_first form es name)) [
          | inl t ↦ (let none : node_of name d.shown ≡ None = none_is (node_of name d.shown) (shows_seen form es d name mid.filled ∙ ap not t) in
              (record d { shown = put_entry d.shown name e.1.node }, subst (λ (b : Bool). IsMid form nodes k (es ++ e ∷ []) (record d { shown = put_entry d.shown name e.1.node }) (cond b (as_foreign form o k e (Some name)) (as_shown o k e name))) (sym (s ∙ ap not t)) (mid_shown d o mid name up t none)))
          | inr f ↦ (
            record d { foreign = d.foreign ++ foreign_entry form e ∷ [] },
            subst (λ (b : Bool). IsMid form nodes k (es ++ e ∷ []) (record d { foreign = d.foreign ++ foreign_entry form e ∷ [] }) (cond b (as_foreign form o k e (Some name)) (as_shown o k e name))) (sym (s ∙ ap not f))
                (subst (λ (u : Option (List ℕ)). IsMid form nodes k (es ++ e ∷ []) (record d { foreign = d.foreign ++ foreign_entry form e ∷ [] }) (as_foreign form o k e u)) up (mid_foreign d o mid (ap (is_shown form es) up ∙ f))),
          )
        ]

    mid_step : (d : Directory) (o : Opened) → IsMid form nodes k es d o → (new : Directory) × IsMid form nodes k (es ++ e ∷ []) new (with_lower form o k e)
    mid_step d o mid =
        let t : (is_free (slice_get o.tree.places e.1.node) && is_name e.0) ≡ true = and_from (is_free (slice_get o.tree.places e.1.node)) (is_name e.0) (ap is_free (nothing_there d o mid)) (name_middle [] es e rest rises) in
        let r = mid_by d o mid (form.upper e.0) refl in
        (r.0, subst (λ (b : Bool). IsMid form nodes k (es ++ e ∷ []) r.0 (cond b (as_entry form o k e (form.upper e.0)) o)) (sym t) r.1)

  mid_all : (es rest : Entries) → entries_at nodes k ≡ es ++ rest → (d : Directory) (o : Opened) → IsMid form nodes k es d o → (new : Directory) × IsMid form nodes k (entries_at nodes k) new (with_lowers form o k rest)
  mid_all es [] all d o mid = (d, subst (λ (xs : Entries). IsMid form nodes k xs d o) (sym (all ∙ append-nil es)) mid)
  mid_all es (e ∷ rest) all d o mid =
      let s = mid_step es e rest all d o mid in
      mid_all (es ++ e ∷ []) rest (all ∙ sym (append_assoc es (e ∷ []) rest)) s.0 (with_lower form o k e) s.1

  -- ---- one directory more

  stage_next : (o : Opened) (p : Place) → FitsNodes form nodes o → ((i : ℕ) → i < k → slice_get o.tree.places i ≡ slice_get before i) → slice_get o.tree.places k ≡ Some p → next_place form store k before ≡ p
      → ((i : ℕ) → k < i → i < length nodes → slice_get o.tree.places i ≡ Some (ahead store (before ++ p ∷ []) i)) → IsStage form nodes (suc k) o
  stage_next o p fits done here next later =
      let count : length before ≡ k = length-shown form laws nodes facts k in
      let get : (i : ℕ) → slice_get (before ++ next_place form store k before ∷ []) i ≡ cond (i == length before) (Some (next_place form store k before)) (slice_get before i) = λ i. slice_get-push before (next_place form store k before) i in
      record {
        fits = fits;
        done = λ i lt. elim (eqb_tells i (length before)) [
          | inl t ↦ (let i_is : i ≡ k = t.1 ∙ count in ap (slice_get o.tree.places) i_is ∙ here ∙ ap (λ (q : Place). Some q) (sym next) ∙ sym (get i ∙ rw t.0 refl))
          | inr t ↦ (let apart : i ≢ length before = t.1 in done i (omega arith) ∙ sym (get i ∙ rw t.0 refl))
        ];
        later = λ i le one in_it. later i (omega arith) in_it ∙ ap (λ (q : Place). Some (ahead store (before ++ q ∷ []) i)) (sym next);
        root = λ e. absurd (omega arith);
      }

  mid_end : (d : Directory) (o : Opened) → IsMid form nodes k (entries_at nodes k) d o → IsStage form nodes (suc k) o
  mid_end d o mid =
      let same : d ≡ directory_of form (entries_at nodes k) = one_directory form (entries_at nodes k) d (directory_of form (entries_at nodes k)) mid.filled (filled_directory form laws (entries_at nodes k) (facts.rising k)) in
      stage_next o (Dir d) mid.fits mid.done mid.here (mid.next ∙ ap (λ (x : Directory). Dir x) (sym same)) mid.later

  mid_start : (o : Opened) → IsStage form nodes k o → slice_get o.tree.places k ≡ Some (Dir empty_directory) → next_place form store k before ≡ Dir (directory_of form (entries_in (store k)))
      → (x : LowerNode) × (slice_get nodes k ≡ Some x) × (x.kind ≡ kinds.Dir) → IsMid form nodes k [] empty_directory o
  mid_start o stage here next node = record {
    fits = stage.fits;
    done = stage.done;
    here = here;
    filled = filled_empty form;
    later = λ i lt in_it. stage.later i (omega arith) (omega arith) in_it ∙ ap (λ (kind : Option Kind). Some (option_map_or begun kind Nothing)) (sym (kind-hidden store i 0 before (Dir empty_directory) refl));
    next = next ∙ ap (λ (es : Option Entries). Dir (directory_of form (entries_in es))) (store_is nodes k node.0 node.1 node.2);
    node = node;
  }

-- a directory is listed, or what stands there is none
module _ (form : NameForm) (laws : IsForm form) (nodes : List LowerNode) (facts : Facts nodes) where
  abbrev st : Store
  st = store_of nodes

  dir_by : (k : ℕ) (o : Opened) (d : Directory) → IsStage form nodes (suc k) o → (kind : Option Kind) → kind_shown st (suc k) 0 (shown_places form st (suc k)) ≡ kind → slice_get o.tree.places (suc k) ≡ Some (option_map_or begun kind Nothing)
      → slice_get o.tree.places (suc k) ≡ Some (Dir d) → IsMid form nodes (suc k) [] empty_directory o
  dir_by k o d stage None at is here = absurd (let no : Some Nothing ≡ Some (Dir d) = sym is ∙ here in cc)
  dir_by k o d stage (Some kinds.File) at is here = absurd (let no : Some File ≡ Some (Dir d) = sym is ∙ here in cc)
  dir_by k o d stage (Some kinds.Dir) at is here =
      let f = kind-from st (suc k) 0 (shown_places form st (suc k)) kinds.Dir at in
      let x = node_from_kind nodes (suc k) f.0 kinds.Dir f.1 in
      mid_start form laws nodes facts (suc k) o stage is (ap (λ (kind : Option Kind). option_map_or (place_of form st (suc k)) kind Nothing) at) (x.0, x.1, x.2)

  mid_begin : (k : ℕ) (o : Opened) (d : Directory) → IsStage form nodes k o → k < length nodes → slice_get o.tree.places k ≡ Some (Dir d) → IsMid form nodes k [] empty_directory o
  mid_begin zero o d stage lt here = mid_start form laws nodes facts 0 o stage (stage.root refl) refl facts.root
  mid_begin (suc k) o d stage lt here = dir_by k o d stage (kind_shown st (suc k) 0 (shown_places form st (suc k))) refl (stage.later (suc k) (omega arith) (omega arith) lt) here

  -- the directory with the next number is one of the store
  pub stage_dir : (k : ℕ) (o : Opened) (d : Directory) → IsStage form nodes k o → k < length nodes → slice_get o.tree.places k ≡ Some (Dir d) → st k ≡ Some (entries_at nodes k)
  stage_dir k o d stage lt here = let x = (mid_begin k o d stage lt here).node in store_is nodes k x.0 x.1 x.2

  -- it is listed
  pub stage_listed : (k : ℕ) (o : Opened) (d : Directory) → IsStage form nodes k o → k < length nodes → slice_get o.tree.places k ≡ Some (Dir d) → IsStage form nodes (suc k) (with_lowers form o k (entries_at nodes k))
  stage_listed k o d stage lt here =
      let m = mid_all form laws nodes facts k [] (entries_at nodes k) refl empty_directory o (mid_begin k o d stage lt here) in
      mid_end form laws nodes facts k m.0 (with_lowers form o k (entries_at nodes k)) m.1

  skip_by : (k : ℕ) (o : Opened) → IsStage form nodes (suc k) o → (kind : Option Kind) → kind_shown st (suc k) 0 (shown_places form st (suc k)) ≡ kind → slice_get o.tree.places (suc k) ≡ Some (option_map_or begun kind Nothing)
      → is_dir (slice_get o.tree.places (suc k)) ≡ false → IsStage form nodes (suc (suc k)) o
  skip_by k o stage None at is other =
      stage_next form laws nodes facts (suc k) o Nothing stage.fits stage.done is (ap (λ (kind : Option Kind). option_map_or (place_of form st (suc k)) kind Nothing) at)
      (λ i lt in_it. stage.later i (omega arith) (omega arith) in_it ∙ ap (λ (kind : Option Kind). Some (option_map_or begun kind Nothing)) (sym (kind-hidden st i 0 (shown_places form st (suc k)) Nothing refl)))
  skip_by k o stage (Some kinds.File) at is other =
      stage_next form laws nodes facts (suc k) o File stage.fits stage.done is (ap (λ (kind : Option Kind). option_map_or (place_of form st (suc k)) kind Nothing) at)
      (λ i lt in_it. stage.later i (omega arith) (omega arith) in_it ∙ ap (λ (kind : Option Kind). Some (option_map_or begun kind Nothing)) (sym (kind-hidden st i 0 (shown_places form st (suc k)) File refl)))
  skip_by k o stage (Some kinds.Dir) at is other = absurd (let no : true ≡ false = sym (ap is_dir is) ∙ other in cc)

  -- it is none
  pub stage_skipped : (k : ℕ) (o : Opened) → IsStage form nodes k o → k < length nodes → is_dir (slice_get o.tree.places k) ≡ false → IsStage form nodes (suc k) o
  stage_skipped zero o stage lt other = absurd (let no : true ≡ false = sym (ap is_dir (stage.root refl)) ∙ other in cc)
  stage_skipped (suc k) o stage lt other = skip_by k o stage (kind_shown st (suc k) 0 (shown_places form st (suc k))) refl (stage.later (suc k) (omega arith) (omega arith) lt) other

  -- all are listed
  pub stage_end : (o : Opened) → IsStage form nodes (length nodes) o → o.tree ≡ shown_of form nodes
  stage_end o stage =
      let places : o.tree.places ≡ shown_places form st (length nodes) = list_same o.tree.places (shown_places form st (length nodes)) (stage.fits.size ∙ sym (length-shown form laws nodes facts (length nodes))) (λ i lt. stage.done i (subst (λ (n : ℕ). i < n) stage.fits.size lt)) in
      let limit = stage.fits.limit in
      λ i. record { limit = limit i; places = places i }
    where
      list_same : (xs ys : List Place) → length xs ≡ length ys → ((i : ℕ) → i < length xs → slice_get xs i ≡ slice_get ys i) → xs ≡ ys
      list_same [] [] e h = refl
      list_same [] (y ∷ ys) e h = absurd (omega arith)
      list_same (x ∷ xs) [] e h = absurd (omega arith)
      list_same (x ∷ xs) (y ∷ ys) e h =
          let first : Some x ≡ Some y = h 0 (omega arith) in
          let same : x ≡ y = cc in
          let rest : xs ≡ ys = list_same xs ys (omega arith) (λ i lt. h (suc i) (omega arith)) in
          λ i. same i ∷ rest i

-- ---- the first stage

none_there : (n i : ℕ) → i < n → slice_get (replicate n Nothing) i ≡ Some Nothing
none_there zero i lt = absurd (omega arith)
none_there (suc n) zero lt = refl
none_there (suc n) (suc i) lt = none_there n i (omega arith)

nothing_replicated : (n i : ℕ) (p : Option Place) → slice_get (replicate n Nothing) i ≡ p → IsNode p → ⊥
nothing_replicated zero i p h is = subst IsNode (sym h) is
nothing_replicated (suc n) zero p h is = subst IsNode (sym h) is
nothing_replicated (suc n) (suc i) p h is = nothing_replicated n i p h is

length-nothing : (n : ℕ) → length (replicate n Nothing) ≡ n
length-nothing zero = refl
length-nothing (suc n) = let h = length-nothing n in omega arith

pub stage_begin : (form : NameForm) (nodes : List LowerNode) (limit count : ℕ) (kept : List (List ℕ)) → limit ≡ form.longest → 1 ≤ count → count ≡ length nodes → length kept ≡ count
    → IsStage form nodes 0 (record { tree = record { limit = limit; places = Dir empty_directory ∷ replicate (count - 1) Nothing }; kept = kept })
stage_begin form nodes limit count kept limits one size names = record {
  fits = record {
    limit = limits;
    size = (let n = length-nothing (count - 1) in omega arith);
    names = names ∙ size;
    kept = λ i x le is at. absurd (no_node i le is);
  };
  done = λ i lt. absurd (omega arith);
  later = λ i le above in_it. there i above (omega arith);
  root = λ e. refl;
}
  where
    no_node : (i : ℕ) → 1 ≤ i → IsNode (slice_get (Dir empty_directory ∷ replicate (count - 1) Nothing) i) → ⊥
    no_node zero le is = omega arith
    no_node (suc i) le is = nothing_replicated (count - 1) i _ refl is

    there : (i : ℕ) → 1 ≤ i → i < count → slice_get (Dir empty_directory ∷ replicate (count - 1) Nothing) i ≡ Some Nothing
    there zero le lt = absurd (omega arith)
    there (suc i) le lt = none_there (count - 1) i (omega arith)
