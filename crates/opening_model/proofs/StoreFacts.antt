-- What the store of a lower tree holds: an entry for each node but the root.
use Rattle.std.proofs.Common.{◌≡◌, ℕ, zero, suc, ◌+◌, ◌<◌, ◌≤◌, inl, inr, List, [], ◌∷◌, length, drop, Option, Some, None, refl, sym, ap, subst, ◌∙◌, arith}
use Rattle.std.specs.Prelude.{slice_get, is_some}
use Rattle.std.proofs.lemmas.Bool.Decides.{eqb_tells}
use Rattle.std.proofs.lemmas.Option.{slice_get_within}
use Rattle.lower_model.specs.declared.kind.Kind.{Kind}
use Rattle.lower_model.specs.declared.kind.Kind.TheVariants as kinds
use Rattle.lower_model.specs.declared.node.LowerNode.{LowerNode}
use Rattle.names_model.specs.declared.entry.Linked.{Linked}
use Rattle.names_model.specs.Store.{Entries, linked_at, entries_from, entries_if, entries_of, store_of}
use Rattle.names_model.specs.CarriedBy.{Among}
use Rattle.tree_model.specs.Names.{entry_at}
use Rattle.namespace_model.specs.Carried.{kind_by}
use Rattle.opening_model.proofs.TreeFacts.{Facts}
use Rattle.opening_model.proofs.Rising.{among_found, found_among}

-- the entries of the directory with a number
abbrev pub entries_at : List LowerNode → ℕ → Entries
entries_at nodes k = entries_from 1 (drop 1 nodes) k

-- An entry is that of a node of this directory.
pub record IsOf (nodes : List LowerNode) (k : ℕ) (name : List ℕ) (l : Linked) : Type 0 where
  pub x : LowerNode
  pub at : slice_get nodes l.node ≡ Some x
  pub parent : x.parent ≡ k
  pub named : x.name ≡ name
  pub kind : x.kind ≡ l.kind
  pub behind : 1 ≤ l.node

among_of : (nodes : List LowerNode) (number : ℕ) (rest : List LowerNode) (k : ℕ) (e : List ℕ × Linked) → 1 ≤ number → ((j : ℕ) → slice_get nodes (number + j) ≡ slice_get rest j) → Among e (entries_from number rest k) → IsOf nodes k e.0 e.1
among_of nodes number [] k e one at among = absurd among
among_of nodes number (x ∷ rest) k e one at among =
    let ahead : (j : ℕ) → slice_get nodes (number + 1 + j) ≡ slice_get rest j = λ j. (let s : number + 1 + j ≡ number + suc j = omega arith in ap (slice_get nodes) s ∙ at (suc j)) in
    let zero_is : number + 0 ≡ number = omega arith in
    let here : slice_get nodes number ≡ Some x = ap (slice_get nodes) (sym zero_is) ∙ at 0 in
    elim (eqb_tells x.parent k) [
      | inl t ↦ (let both : Among e ((x.name, record { kind = x.kind; node = number }) ∷ entries_from (number + 1) rest k) = rw t.0 at among in
          elim both [
            | inl same ↦ subst (λ (f : List ℕ × Linked). IsOf nodes k f.0 f.1) (sym same) (record { x = x; at = here; parent = t.1; named = refl; kind = refl; behind = one })
            | inr later ↦ among_of nodes (number + 1) rest k e (omega arith) ahead later
          ])
      | inr t ↦ (let later : Among e (entries_from (number + 1) rest k) = rw t.0 at among in among_of nodes (number + 1) rest k e (omega arith) ahead later)
    ]

of_among : (number : ℕ) (rest : List LowerNode) (j : ℕ) (x : LowerNode) → slice_get rest j ≡ Some x → Among (x.name, record { kind = x.kind; node = number + j }) (entries_from number rest x.parent)
of_among number [] j x h = absurd cc
of_among number (y ∷ rest) zero x h =
    let same : y ≡ x = cc in
    subst (λ (z : LowerNode). Among (z.name, record { kind = z.kind; node = number + 0 }) (entries_from number (y ∷ rest) z.parent)) same own
  where
    own : Among (y.name, record { kind = y.kind; node = number + 0 }) (entries_from number (y ∷ rest) y.parent)
    own = elim (eqb_tells y.parent y.parent) [
      | inl t ↦ (let e : number + 0 ≡ number = omega arith in rw t.0 (inl (λ i. (y.name, record { kind = y.kind; node = e i }))))
      | inr t ↦ absurd (t.1 refl)
    ]
of_among number (y ∷ rest) (suc j) x h =
    let later : Among (x.name, record { kind = x.kind; node = number + 1 + j }) (entries_from (number + 1) rest x.parent) = of_among (number + 1) rest j x h in
    let e : number + 1 + j ≡ number + suc j = omega arith in
    let there : Among (x.name, record { kind = x.kind; node = number + suc j }) (entries_from (number + 1) rest x.parent) = subst (λ (n : ℕ). Among (x.name, record { kind = x.kind; node = n }) (entries_from (number + 1) rest x.parent)) e later in
    elim (eqb_tells y.parent x.parent) [
      | inl t ↦ rw t.0 (inr there)
      | inr t ↦ rw t.0 there
    ]

get_drop : (nodes : List LowerNode) (j : ℕ) → slice_get nodes (1 + j) ≡ slice_get (drop 1 nodes) j
get_drop [] j = refl
get_drop (x ∷ xs) j = let e : 1 + j ≡ suc j = omega arith in ap (slice_get (x ∷ xs)) e

-- the entries of a directory are nodes in it
pub is_of : (nodes : List LowerNode) (k : ℕ) (e : List ℕ × Linked) → Among e (entries_at nodes k) → IsOf nodes k e.0 e.1
is_of nodes k e among = among_of nodes 1 (drop 1 nodes) k e (omega arith) (get_drop nodes) among

-- each node but the root is an entry
pub is_entry : (nodes : List LowerNode) (i : ℕ) (x : LowerNode) → 1 ≤ i → slice_get nodes i ≡ Some x → Among (x.name, record { kind = x.kind; node = i }) (entries_at nodes x.parent)
is_entry nodes zero x le at = absurd (omega arith)
is_entry nodes (suc j) x le at =
    let e : 1 + j ≡ suc j = omega arith in
    subst (λ (n : ℕ). Among (x.name, record { kind = x.kind; node = n }) (entries_at nodes x.parent)) e (of_among 1 (drop 1 nodes) j x (sym (get_drop nodes j) ∙ ap (slice_get nodes) e ∙ at))

-- ---- the store

-- A directory of the store is a node that is one.
pub record IsDirIn (nodes : List LowerNode) (k : ℕ) (es : Entries) : Type 0 where
  pub x : LowerNode
  pub at : slice_get nodes k ≡ Some x
  pub kind : x.kind ≡ kinds.Dir
  pub entries : es ≡ entries_at nodes k

dir_in : (nodes : List LowerNode) (k : ℕ) (o : Option LowerNode) (es : Entries) → slice_get nodes k ≡ o → entries_of o (entries_at nodes k) ≡ Some es → IsDirIn nodes k es
dir_in nodes k None es at h = absurd cc
dir_in nodes k (Some x) es at h = by x.kind refl h
  where
    by : (kind : Kind) → x.kind ≡ kind → entries_if kind (entries_at nodes k) ≡ Some es → IsDirIn nodes k es
    by kinds.Dir is f = record { x = x; at = at; kind = is; entries = cc }
    by kinds.File is f = absurd cc

pub in_store : (nodes : List LowerNode) (k : ℕ) (es : Entries) → store_of nodes k ≡ Some es → IsDirIn nodes k es
in_store nodes k es h = dir_in nodes k (slice_get nodes k) es refl h

pub store_is : (nodes : List LowerNode) (k : ℕ) (x : LowerNode) → slice_get nodes k ≡ Some x → x.kind ≡ kinds.Dir → store_of nodes k ≡ Some (entries_at nodes k)
store_is nodes k x at is = ap (λ (o : Option LowerNode). entries_of o (entries_at nodes k)) at ∙ ap (λ (kind : Kind). entries_if kind (entries_at nodes k)) is

linked_in : (nodes : List LowerNode) (k : ℕ) (o : Option Entries) (name : List ℕ) (l : Linked) → store_of nodes k ≡ o → linked_at o name ≡ Some l → (es : Entries) × (store_of nodes k ≡ Some es) × (entry_at name es ≡ Some l)
linked_in nodes k None name l at h = absurd cc
linked_in nodes k (Some es) name l at h = (es, at, h)

-- what a name leads to in the store
pub linked_of : (nodes : List LowerNode) (k : ℕ) (name : List ℕ) (l : Linked) → linked_at (store_of nodes k) name ≡ Some l → Among (name, l) (entries_at nodes k) × IsOf nodes k name l
linked_of nodes k name l h =
    let f = linked_in nodes k (store_of nodes k) name l refl h in
    let d = in_store nodes k f.0 f.1 in
    let among : Among (name, l) (entries_at nodes k) = subst (λ (es : Entries). Among (name, l) es) d.entries (found_among f.0 name l f.2) in
    (among, is_of nodes k (name, l) among)

-- an entry of a directory is found by its name
pub entry_linked : (nodes : List LowerNode) → Facts nodes → (k : ℕ) (x : LowerNode) (e : List ℕ × Linked) → slice_get nodes k ≡ Some x → x.kind ≡ kinds.Dir → Among e (entries_at nodes k) → linked_at (store_of nodes k) e.0 ≡ Some e.1
entry_linked nodes f k x e at is among = ap (λ (o : Option Entries). linked_at o e.0) (store_is nodes k x at is) ∙ among_found [] (entries_at nodes k) e (f.rising k) among

kind_some : (kind : Kind) (es : Entries) → kind ≡ kind_by (is_some (entries_if kind es))
kind_some kinds.Dir es = refl
kind_some kinds.File es = refl

-- a node is a directory of the store, if it is one
pub kind_of_node : (nodes : List LowerNode) (i : ℕ) (x : LowerNode) → slice_get nodes i ≡ Some x → x.kind ≡ kind_by (is_some (store_of nodes i))
kind_of_node nodes i x at = kind_some x.kind (entries_at nodes i) ∙ ap (λ (o : Option LowerNode). kind_by (is_some (entries_of o (entries_at nodes i)))) (sym at)

-- two entries that lead to one node are one
pub one_entry : (nodes : List LowerNode) (k j : ℕ) (a b : List ℕ) (l m : Linked) → IsOf nodes k a l → IsOf nodes j b m → l.node ≡ m.node → (k ≡ j) × (a ≡ b) × (l ≡ m)
one_entry nodes k j a b l m p q e =
    let both : Some p.x ≡ Some q.x = sym p.at ∙ ap (slice_get nodes) e ∙ q.at in
    let same : p.x ≡ q.x = cc in
    let kind : l.kind ≡ m.kind = sym p.kind ∙ ap (λ (z : LowerNode). z.kind) same ∙ q.kind in
    (sym p.parent ∙ ap (λ (z : LowerNode). z.parent) same ∙ q.parent, sym p.named ∙ ap (λ (z : LowerNode). z.name) same ∙ q.named, λ i. record { kind = kind i; node = e i })

-- the directory that an entry stands in
pub directory_of_entry : (nodes : List LowerNode) → Facts nodes → (k : ℕ) (name : List ℕ) (l : Linked) → IsOf nodes k name l → (p : LowerNode) × (slice_get nodes k ≡ Some p) × (p.kind ≡ kinds.Dir)
directory_of_entry nodes f k name l e = subst (λ (j : ℕ). (p : LowerNode) × (slice_get nodes j ≡ Some p) × (p.kind ≡ kinds.Dir)) e.parent (f.placed l.node e.x e.behind e.at).in_directory

pub entry_above : (nodes : List LowerNode) → Facts nodes → (k : ℕ) (name : List ℕ) (l : Linked) → IsOf nodes k name l → (k < l.node) × (l.node < length nodes)
entry_above nodes f k name l e = (subst (λ (j : ℕ). j < l.node) e.parent (f.placed l.node e.x e.behind e.at).above, slice_get_within nodes l.node e.x e.at)
