-- Items that are added behind others: where they stand, and how a listing grows by them.
use Rattle.std.proofs.Common.{◌≡◌, ℕ, zero, suc, ◌+◌, ◌<◌, ◌≤◌, List, [], ◌∷◌, ◌++◌, length, take, drop, get_or, Option, Some, None, IsTrue, refl, sym, ap, subst, ◌∙◌, append_assoc, arith}
use Rattle.std.specs.Prelude.{slice_get}
use Rattle.std.specs.List.{AllByRecursion}
use Rattle.std.proofs.lemmas.List.{append-nil, drop_all, drop_more, take_all, take_more, map-append}
use Rattle.std.proofs.lemmas.Option.{slice_get_within}
use Rattle.lower_model.specs.LowerTree.{comes_before}
use Rattle.tree_model.specs.declared.listed.Listed.{Listed}
use Rattle.tree_model.specs.declared.listed.Listed.TheVariants.{Shown}
use Rattle.tree_model.specs.declared.place.ForeignEntry.{ForeignEntry}
use Rattle.tree_model.specs.declared.place.Directory.{Directory}
use Rattle.tree_model.specs.declared.place.Place.{Place}
use Rattle.tree_model.specs.declared.place.Place.TheVariants.{Dir, File, Nothing}
use Rattle.tree_model.specs.Names.{node_of, RisesBehind}
use Rattle.tree_model.specs.PlainTree.{shown_in}
use Rattle.tree_model.specs.IsTree.{IsTree, IsNode, node_in}
use Rattle.tree_model.specs.Listing.{Lists, NumbersRise, LeadsToNode, foreign_in, foreign_items}
use Rattle.tree_model.specs.Listing.Lists.{Done, Next}
use Rattle.tree_model.proofs.NameLemmas.{before_trans, is_named_same}
use Rattle.tree_model.proofs.Rising.{is_named-behind}
use Rattle.tree_listing.specs.Adding.{path_in, path_at, IsIndex, AddsListing}

-- ---- items that stay

slice_get-left : {A : Type 0} (xs ys : List A) (i : ℕ) → i < length xs → slice_get (xs ++ ys) i ≡ slice_get xs i
slice_get-left [] ys i lt = absurd (omega arith)
slice_get-left (x ∷ xs) ys zero lt = refl
slice_get-left (x ∷ xs) ys (suc i) lt = slice_get-left xs ys i (omega arith)

slice_get-pushed : {A : Type 0} (xs : List A) (y : A) → slice_get (xs ++ y ∷ []) (length xs) ≡ Some y
slice_get-pushed [] y = refl
slice_get-pushed (x ∷ xs) y = slice_get-pushed xs y

-- what stands at an index
pub slice_get-index : {A : Type 0} (xs : List A) (i : ℕ) (x : A) → i < length xs → x ≡ get_or xs i x → slice_get xs i ≡ Some x
slice_get-index [] i x lt is = absurd (omega arith)
slice_get-index (y ∷ xs) zero x lt is = ap (λ z. Some z) (sym is)
slice_get-index (y ∷ xs) (suc i) x lt is = slice_get-index xs i x (omega arith) is

length-left : {A : Type 0} (xs ys : List A) (i : ℕ) → i < length xs → i < length (xs ++ ys)
length-left [] ys i lt = absurd (omega arith)
length-left (x ∷ xs) ys zero lt = omega arith
length-left (x ∷ xs) ys (suc i) lt = let more = length-left xs ys i (omega arith) in omega arith

length-pushed : {A : Type 0} (xs : List A) (y : A) → length xs < length (xs ++ y ∷ [])
length-pushed [] y = omega arith
length-pushed (x ∷ xs) y = let more = length-pushed xs y in omega arith

index_left : (directory : Option ℕ) (old done : List Listed) → IsIndex directory old → IsIndex directory (old ++ done)
index_left (Some i) old done h = length-left old done i h
index_left None old done h = tt

path_left : (directory : Option ℕ) (old done : List Listed) → IsIndex directory old → path_at (old ++ done) directory ≡ path_at old directory
path_left (Some i) old done h = ap path_in (slice_get-left old done i h)
path_left None old done h = refl

-- an item of a directory stays where it was
pub index_kept : (directory : Option ℕ) (old done now : List Listed) → now ≡ old ++ done → IsIndex directory old → IsIndex directory now
index_kept directory old done now is h = subst (IsIndex directory) (sym is) (index_left directory old done h)

pub path_kept : (directory : Option ℕ) (old done now : List Listed) → now ≡ old ++ done → IsIndex directory old → path_at now directory ≡ path_at old directory
path_kept directory old done now is h = ap (λ (items : List Listed). path_at items directory) is ∙ path_left directory old done h

-- and that of a directory that was just added is the last
pub index_last : (now pushed : List Listed) (item : Listed) (index : ℕ) → pushed ≡ now ++ item ∷ [] → index ≡ length now → index < length pushed
index_last now pushed item index is at = let more = length-pushed now item in let same : length pushed ≡ length (now ++ item ∷ []) = ap length is in omega arith

path_last : (now pushed : List Listed) (path : List (List ℕ)) (n index : ℕ) → pushed ≡ now ++ Shown path n ∷ [] → index ≡ length now → path_at pushed (Some index) ≡ path
path_last now pushed path n index is at = ap (λ (items : List Listed). path_at items (Some index)) is ∙ ap (λ (i : ℕ). path_in (slice_get (now ++ Shown path n ∷ []) i)) at ∙ ap path_in (slice_get-pushed now (Shown path n))

-- ---- foreign entries

foreign_items-more : (path : List (List ℕ)) (entries : List ForeignEntry) (i : ℕ) (f : ForeignEntry) → i < length entries → f ≡ get_or entries i f → foreign_items path (take (i + 1) entries) ≡ foreign_items path (take i entries) ++ foreign_items path (f ∷ [])
foreign_items-more path entries i f lt is = ap (foreign_items path) (take_more entries i f lt ∙ ap (λ (g : ForeignEntry). take i entries ++ g ∷ []) (sym is)) ∙ map-append _ (take i entries) (f ∷ [])

-- one foreign entry more
pub foreign_more : (path : List (List ℕ)) (entries : List ForeignEntry) (i : ℕ) (f : ForeignEntry) (old now after : List Listed) → i < length entries → f ≡ get_or entries i f → now ≡ old ++ foreign_items path (take i entries)
    → after ≡ now ++ foreign_items path (f ∷ []) → after ≡ old ++ foreign_items path (take (i + 1) entries)
foreign_more path entries i f old now after lt is so_far pushed =
    pushed ∙ ap (λ (items : List Listed). items ++ foreign_items path (f ∷ [])) so_far ∙ append_assoc old (foreign_items path (take i entries)) (foreign_items path (f ∷ [])) ∙ ap (λ (items : List Listed). old ++ items) (sym (foreign_items-more path entries i f lt is))

-- all of them
pub foreign_all : (path : List (List ℕ)) (entries : List ForeignEntry) (i : ℕ) (old now : List Listed) → length entries ≤ i → now ≡ old ++ foreign_items path (take i entries) → now ≡ old ++ foreign_items path entries
foreign_all path entries i old now le so_far = so_far ∙ ap (λ (es : List ForeignEntry). old ++ foreign_items path es) (take_all i entries le)

-- ---- entries

-- an entry is found by its name
found : (last : List ℕ) (entries : List (List ℕ × ℕ)) (i : ℕ) (e : List ℕ × ℕ) → RisesBehind last entries → i < length entries → e ≡ get_or entries i e → IsTrue (comes_before last e.0) × (node_of e.0 entries ≡ Some e.1)
found last [] i e rises lt is = absurd (omega arith)
found last (x ∷ entries) zero e rises lt is = (subst (λ (name : List ℕ). IsTrue (comes_before last name)) (ap (λ (y : List ℕ × ℕ). y.0) (sym is)) rises.0, rw is (rw (is_named_same x.0) refl))
found last (x ∷ entries) (suc i) e rises lt is =
    let behind = found x.0 entries i e rises.2 (omega arith) is in
    (before_trans last x.0 e.0 rises.0 behind.0, rw (is_named-behind x.0 e.0 behind.0) behind.1)

-- it has a node, with a number that is greater than that of its directory
pub record IsEntry (places : List Place) (number node : ℕ) : Type 0 where
  pub behind : number < node
  pub within : node < length places
  pub is_node : IsNode (slice_get places node)

node_within : (places : List Place) (n : ℕ) (place : Option Place) → slice_get places n ≡ place → IsNode place → n < length places
node_within places n (Some p) at h = slice_get_within places n p at
node_within places n None at h = absurd h

pub entry_at : (places : List Place) (number i : ℕ) (d : Directory) (e : List ℕ × ℕ) → IsTree places → NumbersRise places → slice_get places number ≡ Some (Dir d) → i < length d.shown → e ≡ get_or d.shown i e → IsEntry places number e.1
entry_at places number i d e tree rise at lt is =
    let one : node_of e.0 d.shown ≡ Some e.1 = (found [] d.shown i e (tree.ordered number d at) lt is).1 in
    let here : node_in (slice_get places number) e.0 ≡ Some e.1 = ap (λ (p : Option Place). node_in p e.0) at ∙ one in
    let node = tree.there number e.0 e.1 here in
    record { behind = rise number e.0 e.1 here; within = node_within places e.1 (slice_get places e.1) refl node; is_node = node }

-- ---- the entries of a directory, up to one

-- What was added lists so many entries of a directory: with a listing of the others behind it, it lists all.
pub record ListsUpTo (places : List Place) (path : List (List ℕ)) (d : Directory) (count : ℕ) (old now : List Listed) : Type 0 where
  pub done : List Listed
  pub added : now ≡ old ++ done
  pub nodes : AllByRecursion (LeadsToNode places) done
  pub lists : (behind : List Listed) → Lists places path (drop count d.shown) d.foreign behind → Lists places path d.shown d.foreign (done ++ behind)

all_of_both : {A : Type 0} (P : A → Type 0) (xs ys : List A) → AllByRecursion P xs → AllByRecursion P ys → AllByRecursion P (xs ++ ys)
all_of_both P [] ys h g = g
all_of_both P (x ∷ xs) ys h g = (h.0, all_of_both P xs ys h.1 g)

pub lists_none : (places : List Place) (path : List (List ℕ)) (d : Directory) (old : List Listed) → ListsUpTo places path d 0 old old
lists_none places path d old = record { done = []; added = sym (append-nil old); nodes = tt; lists = λ behind h. h }

-- one entry more
pub lists_more : (places : List Place) (path item : List (List ℕ)) (d : Directory) (i index : ℕ) (old now pushed after : List Listed) (e : List ℕ × ℕ) → i < length d.shown → e ≡ get_or d.shown i e → IsNode (slice_get places e.1)
    → ListsUpTo places path d i old now → item ≡ path ++ e.0 ∷ [] → pushed ≡ now ++ Shown item e.1 ∷ [] → index ≡ length now → AddsListing places e.1 (path_at pushed (Some index)) pushed after → ListsUpTo places path d (i + 1) old after
lists_more places path item d i index old now pushed after e lt is node so_far item_is pushed_is index_is adds =
    let own : Listed = Shown (path ++ e.0 ∷ []) e.1 in
    let rest : drop i d.shown ≡ e ∷ drop (i + 1) d.shown = drop_more d.shown i e lt ∙ ap (λ (x : List ℕ × ℕ). x ∷ drop (i + 1) d.shown) (sym is) in
    let path_is : path_at pushed (Some index) ≡ path ++ e.0 ∷ [] = path_last now pushed item e.1 index pushed_is index_is ∙ item_is in
    let below : Lists places (path ++ e.0 ∷ []) (shown_in (slice_get places e.1)) (foreign_in (slice_get places e.1)) adds.listing = subst (λ (p : List (List ℕ)). Lists places p (shown_in (slice_get places e.1)) (foreign_in (slice_get places e.1)) adds.listing) path_is adds.lists in
    record {
      done = so_far.done ++ own ∷ adds.listing;
      added =
          adds.added ∙ ap (λ (items : List Listed). items ++ adds.listing) (pushed_is ∙ ap (λ (p : List (List ℕ)). now ++ Shown p e.1 ∷ []) item_is)
          ∙ append_assoc now (own ∷ []) adds.listing ∙ ap (λ (items : List Listed). items ++ own ∷ adds.listing) so_far.added ∙ append_assoc old so_far.done (own ∷ adds.listing);
      nodes = all_of_both (LeadsToNode places) so_far.done (own ∷ adds.listing) so_far.nodes (node, adds.nodes);
      lists = λ behind h.
          let next : Lists places path (e ∷ drop (i + 1) d.shown) d.foreign (own ∷ (adds.listing ++ behind)) = Next path e.0 e.1 (drop (i + 1) d.shown) d.foreign adds.listing behind below h in
          subst (Lists places path d.shown d.foreign) (sym (append_assoc so_far.done (own ∷ adds.listing) behind))
          (so_far.lists (own ∷ (adds.listing ++ behind)) (subst (λ (es : List (List ℕ × ℕ)). Lists places path es d.foreign (own ∷ (adds.listing ++ behind))) (sym rest) next));
    }

foreign_nodes : (places : List Place) (path : List (List ℕ)) (entries : List ForeignEntry) → AllByRecursion (LeadsToNode places) (foreign_items path entries)
foreign_nodes places path [] = tt
foreign_nodes places path (f ∷ entries) = (tt, foreign_nodes places path entries)

-- all of them, and the foreign ones
pub lists_all : (places : List Place) (path : List (List ℕ)) (number : ℕ) (d : Directory) (i : ℕ) (old now after : List Listed) → slice_get places number ≡ Some (Dir d) → length d.shown ≤ i → ListsUpTo places path d i old now → after ≡ now ++ foreign_items path d.foreign
    → AddsListing places number path old after
lists_all places path number d i old now after at le so_far adds = record {
  listing = so_far.done ++ foreign_items path d.foreign;
  lists =
      let behind : Lists places path (drop i d.shown) d.foreign (foreign_items path d.foreign) = subst (λ (es : List (List ℕ × ℕ)). Lists places path es d.foreign (foreign_items path d.foreign)) (sym (drop_all i d.shown le)) (Done path d.foreign) in
      subst (λ (p : Option Place). Lists places path (shown_in p) (foreign_in p) (so_far.done ++ foreign_items path d.foreign)) (sym at) (so_far.lists (foreign_items path d.foreign) behind);
  nodes = all_of_both (LeadsToNode places) so_far.done (foreign_items path d.foreign) so_far.nodes (foreign_nodes places path d.foreign);
  added = adds ∙ ap (λ (items : List Listed). items ++ foreign_items path d.foreign) so_far.added ∙ append_assoc old so_far.done (foreign_items path d.foreign);
}

-- a place that is no directory has nothing to list
pub lists_nothing : (places : List Place) (path : List (List ℕ)) (number : ℕ) (place : Place) (old : List Listed) → slice_get places number ≡ Some place → ((d : Directory) → place ≡ Dir d → ⊥) → AddsListing places number path old old
lists_nothing places path number (Dir d) old at none = absurd (none d refl)
lists_nothing places path number File old at none = record { listing = []; lists = subst (λ (p : Option Place). Lists places path (shown_in p) (foreign_in p) []) (sym at) (Done path []); nodes = tt; added = sym (append-nil old) }
lists_nothing places path number Nothing old at none = record { listing = []; lists = subst (λ (p : Option Place). Lists places path (shown_in p) (foreign_in p) []) (sym at) (Done path []); nodes = tt; added = sym (append-nil old) }
