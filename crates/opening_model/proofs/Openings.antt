-- Opening a store, as calls on it tell it.
use Rattle.std.proofs.Common.{◌≡◌, ℕ, zero, suc, ◌+◌, ◌-◌, ◌<◌, ◌≤◌, inl, inr, true, false, List, [], ◌∷◌, length, map, drop, replicate, Option, Some, None, IsSome, refl, sym, ap, subst, ◌∙◌, arith, add-one}
use Rattle.std.specs.Prelude.{slice_get, nat_lt}
use Rattle.std.specs.Option.{option_map}
use Rattle.std.proofs.lemmas.Bool.{cases_lt, lt-ltb}
use Rattle.std.proofs.lemmas.Bool.Decides.{eqb_tells}
use Rattle.std.proofs.lemmas.Option.{slice_get_within}
use Rattle.lower_model.specs.LowerTree.{IsLowerTree}
use Rattle.lower_model.specs.declared.kind.Kind.TheVariants as kinds
use Rattle.lower_model.specs.declared.node.LowerNode.{LowerNode}
use Rattle.names_model.specs.declared.entry.Linked.{Linked}
use Rattle.names_model.specs.declared.entry.LowerName.{LowerName}
use Rattle.names_model.specs.Store.{Entries, Store, lower_name, entries_from, store_of, IsStoreOf, HoldsTree}
use Rattle.names_model.specs.NameForm.{NameForm}
use Rattle.names_model.specs.CarriedBy.{Among}
use Rattle.tree_model.specs.declared.place.Directory.{Directory}
use Rattle.tree_model.specs.declared.place.Place.{Place}
use Rattle.tree_model.specs.declared.place.Place.TheVariants.{Dir, Nothing}
use Rattle.tree_model.specs.PlainTree.{PlainTree, most_nodes, is_dir, empty_directory}
use Rattle.tree_model.specs.IsTree.{IsNode}
use Rattle.tree_model.specs.Listing.{NumbersRise}
use Rattle.names_model.specs.ShownBy.{shown_places}
use Rattle.opening_model.specs.Stage.{IsStage}
use Rattle.opening_model.proofs.Sound.{length-shown}
use Rattle.namespace_model.specs.Carried.{IsForm, Keeps}
use Rattle.namespace_model.proofs.States.{Keeps-same}
use Rattle.opening_model.specs.InTurn.{Opened, with_lowers}
use Rattle.opening_model.specs.Openings.{IsOpenedTo, EndsBelow, CountsNodes, ShowsTree, told, next_in, next_node}
use Rattle.opening_model.proofs.TreeFacts.{facts}
use Rattle.opening_model.proofs.StoreFacts.{entries_at, IsOf, is_of, is_entry, store_is, entry_above}
use Rattle.opening_model.proofs.Stages.{stage_begin, stage_dir, stage_listed, stage_skipped, stage_end}
use Rattle.opening_model.proofs.Opened.{keeps_shown, numbers_rise}

-- what a list tells of entries is the entries
told_back : (es : Entries) → map told (map lower_name es) ≡ es
told_back [] = refl
told_back (e ∷ es) = ap (λ (xs : Entries). e ∷ xs) (told_back es)

-- ---- stage by stage

module _ (form : NameForm) (laws : IsForm form) (store : Store) where
  pub opened_begin : (limit count : ℕ) (kept : List (List ℕ)) → limit ≡ form.longest → 1 ≤ count → CountsNodes store count → length kept ≡ count
      → IsOpenedTo form store 0 (record { tree = record { limit = limit; places = Dir empty_directory ∷ replicate (count - 1) Nothing }; kept = kept })
  opened_begin limit count kept limits one counts size = record { stage = λ nodes is. stage_begin form nodes limit count kept limits one (counts.counts nodes is) size }

  -- the directory with the next number may be listed
  pub opened_dir : (k : ℕ) (o : Opened) (d : Directory) → HoldsTree store → IsOpenedTo form store k o → k < length o.tree.places → slice_get o.tree.places k ≡ Some (Dir d) → IsSome (store k)
  opened_dir k o d holds opened lt here =
      let is = holds.is in
      let nodes : List LowerNode = holds.nodes in
      let stage = opened.stage nodes is in
      let k_lt : k < length nodes = subst (λ (n : ℕ). k < n) stage.fits.size lt in
      subst IsSome (sym (is.entries k ∙ stage_dir form laws nodes (facts nodes is.lawful) k o d stage k_lt here)) refl

  -- it is listed
  pub opened_listed : (k : ℕ) (o : Opened) (d : Directory) (listed : List LowerName) → IsOpenedTo form store k o → k < length o.tree.places → slice_get o.tree.places k ≡ Some (Dir d)
      → ((es : Entries) → store k ≡ Some es → listed ≡ map lower_name es) → IsOpenedTo form store (k + 1) (with_lowers form o k (map told listed))
  opened_listed k o d listed opened lt here tells = record {
    stage = λ nodes is.
        let stage = opened.stage nodes is in
        let f = facts nodes is.lawful in
        let k_lt : k < length nodes = subst (λ (n : ℕ). k < n) stage.fits.size lt in
        let has : store k ≡ Some (entries_at nodes k) = is.entries k ∙ stage_dir form laws nodes f k o d stage k_lt here in
        let all : map told listed ≡ entries_at nodes k = ap (map told) (tells (entries_at nodes k) has) ∙ told_back (entries_at nodes k) in
        subst (λ (es : Entries). IsStage form nodes (k + 1) (with_lowers form o k es)) (sym all) (rw add-one (stage_listed form laws nodes f k o d stage k_lt here));
  }

  -- it is none
  pub opened_skipped : (k : ℕ) (o : Opened) → IsOpenedTo form store k o → k < length o.tree.places → is_dir (slice_get o.tree.places k) ≡ false → IsOpenedTo form store (k + 1) o
  opened_skipped k o opened lt other = record {
    stage = λ nodes is.
        let stage = opened.stage nodes is in
        let k_lt : k < length nodes = subst (λ (n : ℕ). k < n) stage.fits.size lt in
        rw add-one (stage_skipped form laws nodes (facts nodes is.lawful) k o stage k_lt other);
  }

  -- all are
  pub opened_shows : (o : Opened) → IsOpenedTo form store (length o.tree.places) o → ShowsTree form store o.tree o.kept
  opened_shows o opened = record {
    tree = λ nodes is. (let stage = opened.stage nodes is in stage_end form laws nodes (facts nodes is.lawful) o (at_end nodes is));
    names = λ nodes is i x le node at. (at_end nodes is).fits.kept i x le node at;
  }
    where
      at_end : (nodes : List LowerNode) → IsStoreOf nodes store → IsStage form nodes (length nodes) o
      at_end nodes is = let stage = opened.stage nodes is in subst (λ (n : ℕ). IsStage form nodes n o) stage.fits.size stage

  pub shown_keeps : (t : PlainTree) (kept : List (List ℕ)) → HoldsTree store → ShowsTree form store t kept → length kept ≡ length t.places → Keeps form t.places kept store
  shown_keeps t kept holds shows size =
      let is = holds.is in
      let nodes : List LowerNode = holds.nodes in
      let tree = shows.tree nodes is in
      let f = facts nodes is.lawful in
      let places : t.places ≡ shown_places form (store_of nodes) (length nodes) = ap (λ (x : PlainTree). x.places) tree in
      let count : length kept ≡ length nodes = size ∙ ap (λ (ps : List Place). length ps) places ∙ length-shown form laws nodes f (length nodes) in
      Keeps-same form (shown_places form (store_of nodes) (length nodes)) t.places kept kept (store_of nodes) store
      (keeps_shown form laws nodes f kept (λ i x le node at. shows.names nodes is i x le (subst (λ (ps : List Place). IsNode (slice_get ps i)) (sym places) node) at) count) places refl is.entries

  -- the numbers of what is shown rise
  pub shown_rises : (t : PlainTree) (kept : List (List ℕ)) → HoldsTree store → ShowsTree form store t kept → NumbersRise t.places
  shown_rises t kept holds shows =
      let nodes : List LowerNode = holds.nodes in
      let places : t.places ≡ shown_places form (store_of nodes) (length nodes) = ap (λ (x : PlainTree). x.places) (shows.tree nodes holds.is) in
      subst NumbersRise (sym places) (numbers_rise form laws nodes (facts nodes holds.is.lawful))

-- ---- the number of nodes

slice_in : (xs : List LowerNode) (i : ℕ) → i < length xs → (y : LowerNode) × (slice_get xs i ≡ Some y)
slice_in [] i lt = absurd (omega arith)
slice_in (x ∷ xs) zero lt = (x, refl)
slice_in (x ∷ xs) (suc i) lt = slice_in xs i (omega arith)

slice_among : {A : Type 0} (xs : List A) (i : ℕ) (x : A) → slice_get xs i ≡ Some x → Among x xs
slice_among [] i x h = absurd cc
slice_among (y ∷ xs) zero x h = (let same : y ≡ x = cc in inl (sym same))
slice_among (y ∷ xs) (suc i) x h = inr (slice_among xs i x h)

-- the entries of a directory rise by number, so that the last has the greatest
numbers_from : (number : ℕ) (rest : List LowerNode) (k : ℕ) (f : List ℕ × Linked) → Among f (entries_from number rest k) → number ≤ f.1.node
numbers_from number [] k f among = absurd among
numbers_from number (x ∷ rest) k f among = elim (eqb_tells x.parent k) [
  | inl t ↦ (let here : Among f ((x.name, record { kind = x.kind; node = number }) ∷ entries_from (number + 1) rest k) = rw t.0 at among in
      elim here [
        | inl e ↦ (let n : f.1.node ≡ number = ap (λ (g : List ℕ × Linked). g.1.node) e in omega arith)
        | inr l ↦ (let n = numbers_from (number + 1) rest k f l in omega arith)
      ])
  | inr t ↦ (let later : Among f (entries_from (number + 1) rest k) = rw t.0 at among in let n = numbers_from (number + 1) rest k f later in omega arith)
]

abbrev IsGreatest : Entries → Type 0
IsGreatest es = (e f : List ℕ × Linked) → slice_get es (length es - 1) ≡ Some e → Among f es → f.1.node ≤ e.1.node

greatest_more : (h : List ℕ × Linked) (tail : Entries) → ((g : List ℕ × Linked) → Among g tail → h.1.node ≤ g.1.node) → IsGreatest tail → IsGreatest (h ∷ tail)
greatest_more h [] low next e f last among =
    let zero_is : length (h ∷ []) - 1 ≡ 0 = omega arith in
    let is : Some h ≡ Some e = sym (ap (slice_get (h ∷ [])) zero_is) ∙ last in
    let same : h ≡ e = cc in
    elim among [
      | inl s ↦ (let n : f.1.node ≡ e.1.node = ap (λ (g : List ℕ × Linked). g.1.node) (s ∙ same) in omega arith)
      | inr never ↦ absurd never
    ]
greatest_more h (t ∷ ts) low next e f last among =
    let at : length (h ∷ t ∷ ts) - 1 ≡ suc (length (t ∷ ts) - 1) = omega arith in
    let is : slice_get (t ∷ ts) (length (t ∷ ts) - 1) ≡ Some e = sym (ap (slice_get (h ∷ t ∷ ts)) at) ∙ last in
    elim among [
      | inl s ↦ (let n : f.1.node ≡ h.1.node = ap (λ (g : List ℕ × Linked). g.1.node) s in let b = low e (slice_among (t ∷ ts) (length (t ∷ ts) - 1) e is) in omega arith)
      | inr l ↦ next e f is l
    ]

greatest : (number : ℕ) (rest : List LowerNode) (k : ℕ) → IsGreatest (entries_from number rest k)
greatest number [] k = λ e f last among. absurd among
greatest number (x ∷ rest) k = elim (eqb_tells x.parent k) [
  | inl t ↦ rw t.0 (greatest_more (x.name, record { kind = x.kind; node = number }) (entries_from (number + 1) rest k) (λ g a. (let n = numbers_from (number + 1) rest k g a in omega arith)) (greatest (number + 1) rest k))
  | inr t ↦ rw t.0 (greatest (number + 1) rest k)
]

-- a node behind which there is none
none_behind : (nodes : List LowerNode) (last : ℕ) → last < length nodes → ((y : LowerNode) → slice_get nodes (last + 1) ≡ Some y → ⊥) → last + 1 ≡ length nodes
none_behind nodes last lt none = elim (cases_lt (last + 1) (length nodes)) [
  | inl more ↦ absurd (let y = slice_in nodes (last + 1) more in none y.0 y.1)
  | inr le ↦ omega arith
]

few_nodes : (nodes : List LowerNode) → IsLowerTree nodes → length nodes ≤ most_nodes
few_nodes [] h = absurd h
few_nodes (root ∷ entries) h = omega (arith, h.1)

map_last : (es : Entries) (i : ℕ) (o : Option (List ℕ × Linked)) → slice_get es i ≡ o → slice_get (map lower_name es) i ≡ option_map lower_name o
map_last [] i None h = refl
map_last [] i (Some e) h = absurd cc
map_last (e ∷ es) zero None h = absurd cc
map_last (e ∷ es) zero (Some f) h = (let same : e ≡ f = cc in ap (λ (g : List ℕ × Linked). Some (lower_name g)) same)
map_last (e ∷ es) (suc i) o h = map_last es i o h

length-names : (es : Entries) → length (map lower_name es) ≡ length es
length-names [] = refl
length-names (e ∷ es) = let h = length-names es in omega arith

last_there : (e : List ℕ × Linked) (es : Entries) → (f : List ℕ × Linked) × (slice_get (e ∷ es) (length (e ∷ es) - 1) ≡ Some f)
last_there e [] = (let z : length (e ∷ []) - 1 ≡ 0 = omega arith in (e, ap (slice_get (e ∷ [])) z))
last_there e (f ∷ es) = (let r = last_there f es in let at : length (e ∷ f ∷ es) - 1 ≡ suc (length (f ∷ es) - 1) = omega arith in (r.0, ap (slice_get (e ∷ f ∷ es)) at ∙ r.1))

below_from : (a b : ℕ) → a < b → nat_lt a b ≡ true
below_from a b h = lt-ltb a b h

-- What a list of the directory leads to, whose entries these are.
record Leads (nodes : List LowerNode) (last : ℕ) (next : Option Linked) : Type 0 where
  none : next ≡ None → entries_at nodes last ≡ []
  some : (l : Linked) → next ≡ Some l → (e : List ℕ × Linked) × Among e (entries_at nodes last) × (e.1 ≡ l) × ((f : List ℕ × Linked) → Among f (entries_at nodes last) → f.1.node ≤ l.node)

leads : (nodes : List LowerNode) → IsLowerTree nodes → (last : ℕ) (listed : List LowerName) → listed ≡ map lower_name (entries_at nodes last) → Leads nodes last (next_node last listed)
leads nodes lawful last listed is = rw is (by (entries_at nodes last) refl)
  where
    by : (es : Entries) → entries_at nodes last ≡ es → Leads nodes last (next_node last (map lower_name es))
    by [] at = record { none = λ h. at; some = λ l h. absurd cc }
    by (e ∷ es) at =
        let f = last_there e es in
        let index : length (map lower_name (e ∷ es)) - 1 ≡ length (e ∷ es) - 1 = ap (λ (n : ℕ). n - 1) (length-names (e ∷ es)) in
        let there : slice_get (map lower_name (e ∷ es)) (length (map lower_name (e ∷ es)) - 1) ≡ Some (lower_name f.0) = ap (slice_get (map lower_name (e ∷ es))) index ∙ map_last (e ∷ es) (length (e ∷ es) - 1) (Some f.0) f.1 in
        let among : Among f.0 (entries_at nodes last) = subst (Among f.0) (sym at) (slice_among (e ∷ es) (length (e ∷ es) - 1) f.0 f.1) in
        let facts_of = facts nodes lawful in
        let of = is_of nodes last f.0 among in
        let above = entry_above nodes facts_of last f.0.0 f.0.1 of in
        let few = few_nodes nodes lawful in
        let lt : nat_lt last f.0.1.node ≡ true = below_from last f.0.1.node above.0 in
        let most : f.0.1.node < most_nodes = (let b : f.0.1.node < length nodes = above.1 in omega arith) in
        let all : next_node last (map lower_name (e ∷ es)) ≡ Some f.0.1 = ap (next_in last) there ∙ rw (lt, below_from f.0.1.node most_nodes most) refl in
        record {
          none = λ h. absurd (let no : Some f.0.1 ≡ None = sym all ∙ h in cc);
          some = λ l h. (let both : Some f.0.1 ≡ Some l = sym all ∙ h in let same : f.0.1 ≡ l = cc in
              (f.0, among, same, λ g a. subst (λ (m : Linked). g.1.node ≤ m.node) same (greatest 1 (drop 1 nodes) last f.0 g (ap (λ (xs : Entries). slice_get xs (length xs - 1)) at ∙ f.1) a)));
        }

module _ (store : Store) where
  pub ends_first : EndsBelow store 0
  ends_first = record { directory = λ nodes is. (facts nodes is.lawful).root; below = λ nodes is c y lt at. omega arith }

  -- the last directory may be listed
  pub last_dir : (last : ℕ) → HoldsTree store → EndsBelow store last → IsSome (store last)
  last_dir last holds ends =
      let is = holds.is in
      let x = ends.directory holds.nodes is in
      subst IsSome (sym (is.entries last ∙ store_is holds.nodes last x.0 x.1 x.2)) refl

  module _ (last : ℕ) (ends : EndsBelow store last) (listed : List LowerName) (tells : (es : Entries) → store last ≡ Some es → listed ≡ map lower_name es) where
    its : (nodes : List LowerNode) → IsStoreOf nodes store → Leads nodes last (next_node last listed)
    its nodes is = let x = ends.directory nodes is in leads nodes is.lawful last listed (tells (entries_at nodes last) (is.entries last ∙ store_is nodes last x.0 x.1 x.2))

    -- there are no more nodes
    pub counts_end : next_node last listed ≡ None → CountsNodes store (last + 1)
    counts_end none = record {
      counts = λ nodes is.
          let x = ends.directory nodes is in
          let f = facts nodes is.lawful in
          none_behind nodes last (slice_get_within nodes last x.0 x.1) (λ y at.
          let placed = f.placed (last + 1) y (omega arith) at in
          let low : last ≤ y.parent = ends.below nodes is (last + 1) y (omega arith) at in
          let high : y.parent < last + 1 = placed.above in
          let same : y.parent ≡ last = omega arith in
          let among : Among (y.name, record { kind = y.kind; node = last + 1 }) (entries_at nodes y.parent) = is_entry nodes (last + 1) y (omega arith) at in
          subst (λ (es : Entries). Among (y.name, record { kind = y.kind; node = last + 1 }) es) (ap (entries_at nodes) same ∙ (its nodes is).none none) among);
    }

    module _ (l : Linked) (next : next_node last listed ≡ Some l) where
      -- all nodes behind the last entry are in it or below it
      child_below : (nodes : List LowerNode) → IsStoreOf nodes store → (c : ℕ) (y : LowerNode) → l.node < c → slice_get nodes c ≡ Some y → l.node ≤ y.parent
      child_below nodes is c y lt at =
          let f = facts nodes is.lawful in
          let e = (its nodes is).some l next in
          let of : IsOf nodes last e.0.0 l = subst (λ (m : Linked). IsOf nodes last e.0.0 m) e.2 (is_of nodes last e.0 e.1) in
          let above = entry_above nodes f last e.0.0 l of in
          let last_lt : last < l.node = above.0 in
          let low : last ≤ y.parent = ends.below nodes is c y (omega arith) at in
          let placed = f.placed c y (omega arith) at in
          elim (cases_lt y.parent l.node) [
            | inr ge ↦ ge
            | inl less ↦ (let back : y.parent ≤ of.x.parent = placed.between l.node of.x less lt of.at in
                let parent : of.x.parent ≡ last = of.parent in
                let same : y.parent ≡ last = omega arith in
                let among : Among (y.name, record { kind = y.kind; node = c }) (entries_at nodes last) = subst (λ (j : ℕ). Among (y.name, record { kind = y.kind; node = c }) (entries_at nodes j)) same (is_entry nodes c y (omega arith) at) in
                let most : c ≤ l.node = e.3 (y.name, record { kind = y.kind; node = c }) among in
                omega arith)
          ]

      child_of : (nodes : List LowerNode) → IsStoreOf nodes store → (x : LowerNode) × (slice_get nodes l.node ≡ Some x) × (x.kind ≡ l.kind)
      child_of nodes is =
          let e = (its nodes is).some l next in
          let of : IsOf nodes last e.0.0 l = subst (λ (m : Linked). IsOf nodes last e.0.0 m) e.2 (is_of nodes last e.0 e.1) in
          (of.x, of.at, of.kind)

      pub ends_next : l.kind ≡ kinds.Dir → EndsBelow store l.node
      ends_next is_dir = record { directory = λ nodes is. (let x = child_of nodes is in (x.0, x.1, x.2 ∙ is_dir)); below = child_below }

      -- the last node is a file
      pub counts_file : l.kind ≡ kinds.File → CountsNodes store (l.node + 1)
      counts_file is_file = record {
        counts = λ nodes is.
            let x = child_of nodes is in
            let f = facts nodes is.lawful in
            none_behind nodes l.node (slice_get_within nodes l.node x.0 x.1) (λ y at.
            let placed = f.placed (l.node + 1) y (omega arith) at in
            let low : l.node ≤ y.parent = child_below nodes is (l.node + 1) y (omega arith) at in
            let high : y.parent < l.node + 1 = placed.above in
            let same : y.parent ≡ l.node = omega arith in
            let d = placed.in_directory in
            let both : Some d.0 ≡ Some x.0 = sym d.1 ∙ ap (slice_get nodes) same ∙ x.1 in
            let one : d.0 ≡ x.0 = cc in
            let kind : kinds.Dir ≡ kinds.File = sym d.2 ∙ ap (λ (z : LowerNode). z.kind) one ∙ x.2 ∙ is_file in
            absurd cc);
      }

-- ---- a store that is the same

IsStoreOf-same : (nodes : List LowerNode) (s t : Store) → ((k : ℕ) → t k ≡ s k) → IsStoreOf nodes t → IsStoreOf nodes s
IsStoreOf-same nodes s t same is = record { lawful = is.lawful; entries = λ k. sym (same k) ∙ is.entries k }

-- it holds the same lower tree
pub HoldsTree-same : (s t : Store) → ((k : ℕ) → t k ≡ s k) → HoldsTree s → HoldsTree t
HoldsTree-same s t same holds = record { nodes = holds.nodes; is = IsStoreOf-same holds.nodes t s (λ k. sym (same k)) holds.is }

-- it is opened as far
pub IsOpenedTo-same : (form : NameForm) (s t : Store) (k : ℕ) (o : Opened) → ((j : ℕ) → t j ≡ s j) → IsOpenedTo form s k o → IsOpenedTo form t k o
IsOpenedTo-same form s t k o same opened = record { stage = λ nodes is. opened.stage nodes (IsStoreOf-same nodes s t same is) }

-- its last entries are the same
pub EndsBelow-same : (s t : Store) (last : ℕ) → ((j : ℕ) → t j ≡ s j) → EndsBelow s last → EndsBelow t last
EndsBelow-same s t last same ends = record {
  directory = λ nodes is. ends.directory nodes (IsStoreOf-same nodes s t same is);
  below = λ nodes is. ends.below nodes (IsStoreOf-same nodes s t same is);
}

-- it has as many nodes
pub CountsNodes-same : (s t : Store) (count : ℕ) → ((j : ℕ) → t j ≡ s j) → CountsNodes s count → CountsNodes t count
CountsNodes-same s t count same counts = record { counts = λ nodes is. counts.counts nodes (IsStoreOf-same nodes s t same is) }

-- it shows the same tree
pub ShowsTree-same : (form : NameForm) (s z : Store) (t : PlainTree) (kept : List (List ℕ)) → ((j : ℕ) → z j ≡ s j) → ShowsTree form s t kept → ShowsTree form z t kept
ShowsTree-same form s z t kept same shows = record {
  tree = λ nodes is. shows.tree nodes (IsStoreOf-same nodes s z same is);
  names = λ nodes is. shows.names nodes (IsStoreOf-same nodes s z same is);
}

-- the same of an equal tree
pub IsOpenedTo-is : (form : NameForm) (s : Store) (k : ℕ) (o z : Opened) → z ≡ o → IsOpenedTo form s k o → IsOpenedTo form s k z
IsOpenedTo-is form s k o z same opened = subst (IsOpenedTo form s k) (sym same) opened

-- the same of an equal number
pub IsOpenedTo-at : (form : NameForm) (s : Store) (k j : ℕ) (o : Opened) → j ≡ k → IsOpenedTo form s k o → IsOpenedTo form s j o
IsOpenedTo-at form s k j o same opened = subst (λ (i : ℕ). IsOpenedTo form s i o) (sym same) opened
