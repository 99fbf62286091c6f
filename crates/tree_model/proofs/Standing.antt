-- What is known of a lower tree at each entry: its directory is open and shows no entry of that name yet.
use Rattle.std.proofs.Common.{one-add, ◌≡◌, ℕ, zero, suc, ◌+◌, ◌<◌, ◌≢◌, List, [], ◌∷◌, ◌++◌, length, take, get_or, Some, None, refl, sym, subst, append_assoc, arith, eq-eqb, inl, inr}
use Rattle.std.specs.Prelude.{slice_get, IfSome, IsTrue}
use Rattle.std.specs.List.{AllByRecursion}
use Rattle.std.proofs.lemmas.Bool.{ne_eqb, cases_eq}
use Rattle.std.proofs.lemmas.List.{length_push, append-nil}
use Rattle.lower_model.specs.Name.{is_name}
use Rattle.lower_model.specs.LowerTree.{comes_before, level_in, opened, path_behind, root_path, IsEntry, AreEntries, IsLowerTree}
use Rattle.lower_model.specs.declared.kind.Kind.{Kind}
use Rattle.lower_model.specs.declared.kind.Kind.TheVariants as kinds
use Rattle.lower_model.specs.declared.node.LowerNode.{LowerNode}
use Rattle.lower_model.specs.declared.node.OpenDir.{OpenDir}
use Rattle.tree_model.specs.Names.{node_of, RisesBehind}
use Rattle.tree_model.specs.Shown.{entries_in}
use Rattle.tree_model.proofs.Rising.{RisesTo, RisesTo-push, RisesBehind-from_rises_to, absent_behind}
use Rattle.tree_model.proofs.NodeEntries.{entries_in-own, entries_in-other, entries_in-none, AllIn, AllIn-push, AllIn-snoc, slice_get-append, slice_get-push}

-- a directory stands at this number
abbrev pub HasDir : List LowerNode → ℕ → Type 0
HasDir nodes k = (x : LowerNode) × (slice_get nodes k ≡ Some x) × (x.kind ≡ kinds.Dir)

-- An open directory: its entries rise up to its last name.
pub record IsOpen (root : LowerNode) (entries : List LowerNode) (d : OpenDir) : Type 0 where
  pub within : d.node < 1 + length entries
  pub directory : HasDir (root ∷ entries) d.node
  pub rises : RisesTo [] (entries_in d.node 1 entries) d.last

-- These entries leave this path open, and the names of each directory rise.
pub record Stands (root : LowerNode) (entries : List LowerNode) (path : List OpenDir) : Type 0 where
  pub dirs : AllByRecursion (IsOpen root entries) path
  pub rises : (k : ℕ) → RisesBehind [] (entries_in k 1 entries)
  pub low : AllIn (1 + length entries) entries

HasDir-append : (xs ys : List LowerNode) (k : ℕ) → HasDir xs k → HasDir (xs ++ ys) k
HasDir-append xs ys k h = (h.0, slice_get-append xs ys k h.0 h.1, h.2)

open_other : (root : LowerNode) (entries : List LowerNode) (x : LowerNode) (d : OpenDir) → IsOpen root entries d → x.parent ≢ d.node → IsOpen root (entries ++ x ∷ []) d
open_other root entries x d h ne = record {
  within = omega (arith, h.within, length_push entries x);
  directory = HasDir-append (root ∷ entries) (x ∷ []) d.node h.directory;
  rises = rw (entries_in-other d.node 1 entries x ne) h.rises;
}

open_own : (root : LowerNode) (entries : List LowerNode) (x : LowerNode) (d : OpenDir) → IsOpen root entries d → d.node ≡ x.parent → IsTrue (comes_before d.last x.name) → IsTrue (is_name x.name)
    → IsOpen root (entries ++ x ∷ []) (record { node = x.parent; last = x.name })
open_own root entries x d h e before name =
    let rises : RisesTo [] (entries_in x.parent 1 entries) d.last = subst (λ (k : ℕ). RisesTo [] (entries_in k 1 entries) d.last) e h.rises in
    record {
      within = omega (arith, h.within, length_push entries x);
      directory = subst (HasDir (root ∷ (entries ++ x ∷ []))) e (HasDir-append (root ∷ entries) (x ∷ []) d.node h.directory);
      rises = rw (entries_in-own 1 entries x) (RisesTo-push [] (entries_in x.parent 1 entries) d.last x.name (1 + length entries) rises before name);
    }

open_new : (root : LowerNode) (entries : List LowerNode) (x : LowerNode) → AllIn (1 + length entries) (entries ++ x ∷ []) → x.kind ≡ kinds.Dir → IsOpen root (entries ++ x ∷ []) (record { node = 1 + length entries; last = [] })
open_new root entries x low e =
    let at : slice_get (root ∷ (entries ++ x ∷ [])) (1 + length entries) ≡ Some x = rw one-add (slice_get-push entries x) in
    record {
      within = omega (arith, length_push entries x);
      directory = (x, at, e);
      rises = rw (entries_in-none (1 + length entries) 1 (entries ++ x ∷ []) low) refl;
    }

-- the level of the first open directory
pub level_here : (d : OpenDir) (path : List OpenDir) (k : ℕ) → d.node ≡ k → level_in (d ∷ path) k ≡ 0
level_here d path k e = rw (eq-eqb d.node k e) refl

-- the level of one behind it
pub level_further : (d : OpenDir) (path : List OpenDir) (k : ℕ) → (d.node ≡ k → ⊥) → level_in (d ∷ path) k ≡ suc (level_in path k)
level_further d path k ne = rw (ne_eqb d.node k ne) (omega arith)

-- an open directory, with what an entry knows of it
abbrev IsParent : LowerNode → OpenDir → Type 0
IsParent x d = (d.node ≡ x.parent) × IsTrue (comes_before d.last x.name)

parent_at : (root : LowerNode) (entries : List LowerNode) (x : LowerNode) (path : List OpenDir) (level : ℕ) → AllByRecursion (IsOpen root entries) path → level < length path → IfSome (slice_get path level) (IsParent x)
    → (d : OpenDir) × IsOpen root entries d × IsParent x d
parent_at root entries x [] level h lt p = absurd (omega arith)
parent_at root entries x (d ∷ path) zero h lt p = (d, h.0, p)
parent_at root entries x (d ∷ path) (suc level) h lt p = parent_at root entries x path level h.1 (omega arith) p

dirs_behind : (root : LowerNode) (entries : List LowerNode) (x : LowerNode) (path tail : List OpenDir) → AllByRecursion (IsOpen root entries) path → level_in path x.parent < length path → AllByRecursion (IsOpen root (entries ++ x ∷ [])) tail
    → AllByRecursion (IsOpen root (entries ++ x ∷ [])) (take (level_in path x.parent) path ++ tail)
dirs_behind root entries x [] tail h lt t = t
dirs_behind root entries x (d ∷ path) tail h lt t = elim (cases_eq d.node x.parent) [
  | inl e ↦ rw (level_here d path x.parent e) t
  | inr ne ↦
      let further = level_further d path x.parent ne in
      let less : level_in path x.parent < length path = omega (arith, further) in
      rw further (open_other root entries x d h.0 (λ q. ne (sym q)), dirs_behind root entries x path tail h.1 less t)
]

tail_behind : (root : LowerNode) (entries : List LowerNode) (x : LowerNode) (k : Kind) → x.kind ≡ k → AllIn (1 + length entries) (entries ++ x ∷ []) → AllByRecursion (IsOpen root (entries ++ x ∷ [])) (opened k (1 + length entries))
tail_behind root entries x kinds.Dir e low = (open_new root entries x low e, tt)
tail_behind root entries x kinds.File e low = tt

-- one more entry
pub stands_more : (root : LowerNode) (entries : List LowerNode) (path : List OpenDir) (x : LowerNode) → Stands root entries path → IsEntry path (level_in path x.parent) x
    → Stands root (entries ++ x ∷ []) (path_behind path (level_in path x.parent) (1 + length entries) x)
stands_more root entries path x s h =
    let p = parent_at root entries x path (level_in path x.parent) s.dirs h.within h.parent in
    let own = open_own root entries x p.0 p.1 p.2.0 p.2.1 h.name in
    let low : AllIn (1 + length entries) (entries ++ x ∷ []) = AllIn-snoc (1 + length entries) entries x s.low (omega (arith, p.1.within, p.2.0)) in
    record {
      dirs = dirs_behind root entries x path (record { node = x.parent; last = x.name } ∷ opened x.kind (1 + length entries)) s.dirs h.within (own, tail_behind root entries x x.kind refl low);
      rises = λ k. elim (cases_eq x.parent k) [
        | inl e ↦ subst (λ (j : ℕ). RisesBehind [] (entries_in j 1 (entries ++ x ∷ []))) e (RisesBehind-from_rises_to [] (entries_in x.parent 1 (entries ++ x ∷ [])) x.name own.rises)
        | inr ne ↦ rw (entries_in-other k 1 entries x ne) (s.rises k)
      ];
      low = AllIn-push (1 + length entries) (1 + length (entries ++ x ∷ [])) entries x s.low (omega (arith, length_push entries x)) (omega (arith, p.1.within, p.2.0, length_push entries x));
    }

-- An entry, behind those that come before it: its directory is there, and has no entry of this name yet.
pub record Fits (root : LowerNode) (entries : List LowerNode) (x : LowerNode) : Type 0 where
  pub directory : HasDir (root ∷ entries) x.parent
  pub absent : node_of x.name (entries_in x.parent 1 entries) ≡ None
  pub rises : RisesBehind [] (entries_in x.parent 1 entries)
  pub name : IsTrue (is_name x.name)
  pub low : AllIn (1 + length entries) (entries ++ x ∷ [])

fits : (root : LowerNode) (entries : List LowerNode) (path : List OpenDir) (x : LowerNode) → Stands root entries path → IsEntry path (level_in path x.parent) x → Fits root entries x
fits root entries path x s h =
    let p = parent_at root entries x path (level_in path x.parent) s.dirs h.within h.parent in
    let rises : RisesTo [] (entries_in x.parent 1 entries) p.0.last = subst (λ (k : ℕ). RisesTo [] (entries_in k 1 entries) p.0.last) p.2.0 p.1.rises in
    record {
      directory = subst (HasDir (root ∷ entries)) p.2.0 p.1.directory;
      absent = absent_behind [] (entries_in x.parent 1 entries) p.0.last x.name rises p.2.1;
      rises = s.rises x.parent;
      name = h.name;
      low = AllIn-snoc (1 + length entries) entries x s.low (omega (arith, p.1.within, p.2.0));
    }

fits_at : (root : LowerNode) (entries : List LowerNode) (path : List OpenDir) (rest : List LowerNode) (i : ℕ) (d : LowerNode) → Stands root entries path → AreEntries path (1 + length entries) rest → i < length rest → Fits root (entries ++ take i rest) (get_or rest i d)
fits_at root entries path [] i d s h lt = absurd (omega arith)
fits_at root entries path (x ∷ rest) zero d s h lt = rw (append-nil entries) (fits root entries path x s h.0)
fits_at root entries path (x ∷ rest) (suc i) d s h lt =
    let behind = path_behind path (level_in path x.parent) (1 + length entries) x in
    let e : 1 + length entries + 1 ≡ 1 + length (entries ++ x ∷ []) = omega (arith, length_push entries x) in
    let next = fits_at root (entries ++ x ∷ []) behind rest i d (stands_more root entries path x s h.0) (subst (λ (m : ℕ). AreEntries behind m rest) e h.1) (omega arith) in
    subst (λ (es : List LowerNode). Fits root es (get_or rest i d)) (append_assoc entries (x ∷ []) (take i rest)) next

stands_all : (root : LowerNode) (entries : List LowerNode) (path : List OpenDir) (rest : List LowerNode) → Stands root entries path → AreEntries path (1 + length entries) rest → (last : List OpenDir) × Stands root (entries ++ rest) last
stands_all root entries path [] s h = (path, rw (append-nil entries) s)
stands_all root entries path (x ∷ rest) s h =
    let behind = path_behind path (level_in path x.parent) (1 + length entries) x in
    let e : 1 + length entries + 1 ≡ 1 + length (entries ++ x ∷ []) = omega (arith, length_push entries x) in
    let next = stands_all root (entries ++ x ∷ []) behind rest (stands_more root entries path x s h.0) (subst (λ (m : ℕ). AreEntries behind m rest) e h.1) in
    (next.0, subst (λ (es : List LowerNode). Stands root es next.0) (append_assoc entries (x ∷ []) rest) next.1)

stands_none : (root : LowerNode) → root.kind ≡ kinds.Dir → Stands root [] root_path
stands_none root e = record {
  dirs = (record { within = omega arith; directory = (root, refl, e); rises = refl }, tt);
  rises = λ k. tt;
  low = tt;
}

-- each entry of a lower tree fits behind those that come before it
pub entry_fits : (root : LowerNode) (entries : List LowerNode) → IsLowerTree (root ∷ entries) → (i : ℕ) (d : LowerNode) → i < length entries → Fits root (take i entries) (get_or entries i d)
entry_fits root entries h i d lt = fits_at root [] root_path entries i d (stands_none root h.0.1) h.2 lt

-- the names of each directory rise
pub names_rise : (root : LowerNode) (entries : List LowerNode) → root.kind ≡ kinds.Dir → AreEntries root_path 1 entries → (k : ℕ) → RisesBehind [] (entries_in k 1 entries)
names_rise root entries e h k = (stands_all root [] root_path entries (stands_none root e) h).1.rises k
