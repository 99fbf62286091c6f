-- The entries of a directory with what each leads to.
use Rattle.std.proofs.Common.{◌≡◌, ℕ, inl, inr, List, [], ◌∷◌, Option, Some, None, refl, sym, ap, subst, ◌∙◌}
use Rattle.std.specs.Prelude.{IsTrue, slice_get}
use Rattle.std.specs.List.{AllByRecursion}
use Rattle.std.specs.Option.{option_map}
use Rattle.std.specs.Ordering.{nat_cmp, match_ordering}
use Rattle.std.specs.declared.cmp.Ordering.{Ordering}
use Rattle.std.specs.declared.cmp.Ordering.TheVariants.{Less, Equal, Greater}
use Rattle.std.specs.Cmp.Lexicographic.{slice_cmp}
use Rattle.std.proofs.lemmas.Bool.{cases_Bool}
use Rattle.std.proofs.lemmas.Map.Made.{lookup-map_values}
use Rattle.lower_model.specs.Name.{is_name}
use Rattle.tree_model.specs.declared.place.Place.{Place}
use Rattle.tree_model.specs.declared.place.Place.TheVariants.{Dir, File, Nothing}
use Rattle.tree_model.specs.Names.{is_named, entry_at, node_of, put_entry, without, RisesBehind}
use Rattle.tree_model.specs.Walk.{kind_of}
use Rattle.tree_model.specs.PlainTree.{kind_or_file, shown_in}
use Rattle.tree_model.specs.IsTree.{IsDirectory, node_in}
use Rattle.tree_model.proofs.NameLemmas.{is_named_same, is_named_is}
use Rattle.names_model.specs.declared.entry.Linked.{Linked}
use Rattle.names_model.specs.Store.{Entries, linked_at}
use Rattle.lower_mem.specs.Names.{link, links, links_in}
use Rattle.tree_model.proofs.Rising.{absent_itself}

-- ---- names that rise

-- what holds of each that is found holds of all
pub all_found : {X : Type 0} (P : X → Type 0) (last : List ℕ) (es : List (List ℕ × X)) → RisesBehind last es → ((x : List ℕ) (v : X) → entry_at x es ≡ Some v → P v) → AllByRecursion (λ (e : List ℕ × X). P e.1) es
all_found P last [] rises h = tt
all_found {X} P last (e ∷ es) rises h = (h e.0 e.1 (rw (is_named_same e.0) refl), all_found P e.0 es rises.2 behind)
  where
    behind : (x : List ℕ) (v : X) → entry_at x es ≡ Some v → P v
    behind x v is = elim (cases_Bool (is_named x e.0)) [
      | inl same ↦ (let none : entry_at x es ≡ None = ap (λ (a : List ℕ). entry_at a es) (is_named_is x e.0 same) ∙ absent_itself e.0 es rises.2 in absurd cc)
      | inr other ↦ h x v (rw other is)
    ]

-- a name that is found is a name
pub name_found : {X : Type 0} (last name : List ℕ) (es : List (List ℕ × X)) (v : X) → RisesBehind last es → entry_at name es ≡ Some v → IsTrue (is_name name)
name_found last name [] v rises is = absurd cc
name_found last name (e ∷ es) v rises is = elim (cases_Bool (is_named name e.0)) [
  | inl same ↦ subst (λ (a : List ℕ). IsTrue (is_name a)) (sym (is_named_is name e.0 same)) rises.1
  | inr other ↦ name_found e.0 name es v rises.2 (rw other at is)
]

-- ---- with what they lead to

pub linked-at : (places : List Place) (name : List ℕ) (es : List (List ℕ × ℕ)) → entry_at name (links places es) ≡ option_map (link places) (node_of name es)
linked-at places name es = lookup-map_values (link places) (is_named name) es

pub links_same : (old new : List Place) (es : List (List ℕ × ℕ)) → AllByRecursion (λ (e : List ℕ × ℕ). kind_of (slice_get new e.1) ≡ kind_of (slice_get old e.1)) es → links new es ≡ links old es
links_same old new [] h = refl
links_same old new (e ∷ es) h =
    let here : link new e.1 ≡ link old e.1 = ap (λ k. let l : Linked = record { kind = kind_or_file k; node = e.1 } in l) h.0 in
    ap (λ (l : Linked). (e.0, l) ∷ links new es) here ∙ ap (λ (ls : Entries). (e.0, link old e.1) ∷ ls) (links_same old new es h.1)

all_of : {X : Type 0} (P : X → Type 0) (xs : List X) → ((x : X) → P x) → AllByRecursion P xs
all_of P [] h = tt
all_of P (x ∷ xs) h = (h x, all_of P xs h)

-- where each node has its kind, each entry leads to the same
pub links_all : (old new : List Place) (es : List (List ℕ × ℕ)) → ((n : ℕ) → kind_of (slice_get new n) ≡ kind_of (slice_get old n)) → links new es ≡ links old es
links_all old new es h = links_same old new es (all_of (λ (e : List ℕ × ℕ). kind_of (slice_get new e.1) ≡ kind_of (slice_get old e.1)) es (λ e. h e.1))

pub links-without : (places : List Place) (name : List ℕ) (es : List (List ℕ × ℕ)) → links places (without name es) ≡ without name (links places es)
links-without places name [] = refl
links-without places name (e ∷ es) = elim (cases_Bool (is_named name e.0)) [
  | inl t ↦ rw t (links-without places name es)
  | inr f ↦ rw f (ap (λ (ls : Entries). (e.0, link places e.1) ∷ ls) (links-without places name es))
]

put_first : (places : List Place) (o : Ordering) (name : List ℕ) (node : ℕ) (e : List ℕ × ℕ) (es rest : List (List ℕ × ℕ)) (more : Entries) → links places rest ≡ more
    → links places (match_ordering o ((name, node) ∷ e ∷ es) ((e.0, node) ∷ es) (e ∷ rest)) ≡ match_ordering o ((name, link places node) ∷ (e.0, link places e.1) ∷ links places es) ((e.0, link places node) ∷ links places es) ((e.0, link places e.1) ∷ more)
put_first places Less name node e es rest more h = refl
put_first places Equal name node e es rest more h = refl
put_first places Greater name node e es rest more h = ap (λ (ls : Entries). (e.0, link places e.1) ∷ ls) h

pub links-put : (places : List Place) (name : List ℕ) (node : ℕ) (es : List (List ℕ × ℕ)) → links places (put_entry es name node) ≡ put_entry (links places es) name (link places node)
links-put places name node [] = refl
links-put places name node (e ∷ es) = put_first places (slice_cmp nat_cmp name e.0) name node e es (put_entry es name node) (put_entry (links places es) name (link places node)) (links-put places name node es)

-- ---- at a place

-- an entry that is shown leads to its node
pub linked_shown : (places : List Place) (p : Option Place) (name : List ℕ) (n : ℕ) → node_in p name ≡ Some n → linked_at (links_in places p) name ≡ Some (link places n)
linked_shown places (Some (Dir d)) name n is = linked-at places name d.shown ∙ ap (option_map (link places)) is
linked_shown places (Some File) name n is = absurd cc
linked_shown places (Some Nothing) name n is = absurd cc
linked_shown places None name n is = absurd cc

pub linked_none : (places : List Place) (p : Option Place) (name : List ℕ) → node_in p name ≡ None → linked_at (links_in places p) name ≡ None
linked_none places (Some (Dir d)) name is = linked-at places name d.shown ∙ ap (option_map (link places)) is
linked_none places (Some File) name is = refl
linked_none places (Some Nothing) name is = refl
linked_none places None name is = refl

-- what has entries is a directory
pub record Entered (places : List Place) (p : Option Place) (entries : Entries) : Type 0 where
  pub directory : IsDirectory p
  pub entries_are : entries ≡ links places (shown_in p)

pub entered : (places : List Place) (p : Option Place) (entries : Entries) → links_in places p ≡ Some entries → Entered places p entries
entered places (Some (Dir d)) entries is = record { directory = tt; entries_are = (let e : Some (links places d.shown) ≡ Some entries = is in cc) }
entered places (Some File) entries is = absurd cc
entered places (Some Nothing) entries is = absurd cc
entered places None entries is = absurd cc

found_there : (places : List Place) (o : Option ℕ) (l : Linked) → option_map (link places) o ≡ Some l → (o ≡ Some l.node) × (l ≡ link places l.node)
found_there places (Some n) l is =
    let same : link places n ≡ l = cc in
    let node : n ≡ l.node = ap (λ (x : Linked). x.node) same in
    (ap (λ (m : ℕ). Some m) node, sym same ∙ ap (link places) node)
found_there places None l is = absurd cc

-- an entry that leads to something is shown
pub shown_linked : (places : List Place) (p : Option Place) (entries : Entries) (name : List ℕ) (l : Linked) → links_in places p ≡ Some entries → entry_at name entries ≡ Some l → (node_in p name ≡ Some l.node) × (l ≡ link places l.node)
shown_linked places p entries name l is there =
    let e = entered places p entries is in
    found_there places (node_in p name) l (sym (ap (entry_at name) e.entries_are ∙ linked-at places name (shown_in p)) ∙ there)

absent_there : (places : List Place) (o : Option ℕ) → option_map (link places) o ≡ None → o ≡ None
absent_there places (Some n) is = absurd cc
absent_there places None is = refl

pub absent_linked : (places : List Place) (p : Option Place) (entries : Entries) (name : List ℕ) → links_in places p ≡ Some entries → entry_at name entries ≡ None → node_in p name ≡ None
absent_linked places p entries name is there =
    let e = entered places p entries is in
    absent_there places (node_in p name) (sym (ap (entry_at name) e.entries_are ∙ linked-at places name (shown_in p)) ∙ there)
