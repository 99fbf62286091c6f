-- The directories whose entries are being laid out, from the root down.
use Rattle.std.proofs.Common.{◌≡◌, ℕ, zero, suc, ◌+◌, ◌<◌, ◌≤◌, ◌≢◌, cond, eqb, List, [], ◌∷◌, ◌++◌, length, take, Option, Some, None, refl, sym, ap, subst, ◌∙◌, arith, eq-eqb}
use Rattle.std.specs.Prelude.{slice_get, IfSome, IsTrue}
use Rattle.std.proofs.lemmas.Bool.{ne_eqb}
use Rattle.lower_model.specs.Name.{is_name}
use Rattle.lower_model.specs.LowerTree.{comes_before, level_in, opened, path_behind, IsEntry, AreEntries, HoldsOctets}
use Rattle.lower_model.specs.declared.kind.Kind.{Kind}
use Rattle.lower_model.specs.declared.kind.Kind.TheVariants as kinds
use Rattle.lower_model.specs.declared.node.LowerNode.{LowerNode}
use Rattle.lower_model.specs.declared.node.OpenDir.{OpenDir}
use Rattle.tree_model.specs.Names.{RisesBehind}
use Rattle.lower_mem.specs.Laid.{Remaining}

-- ---- their numbers

-- numbers that rise from this one on, below that one
abbrev pub RiseWithin : ℕ → List Remaining → ℕ → Type 0
RiseWithin low [] high = low ≤ high
RiseWithin low (o ∷ os) high = (low ≤ o.number) × RiseWithin (o.number + 1) os high

pub RiseWithin-split : (low : ℕ) (os : List Remaining) (o : Remaining) (high : ℕ) → RiseWithin low (os ++ o ∷ []) high → RiseWithin low os o.number × (o.number < high)
RiseWithin-split low [] o high h = (h.0, omega (arith, h.1))
RiseWithin-split low (x ∷ os) o high h = let r = RiseWithin-split (x.number + 1) os o high h.1 in ((h.0, r.0), r.1)

pub RiseWithin-push : (low : ℕ) (os : List Remaining) (o : Remaining) (high : ℕ) → RiseWithin low os o.number → o.number < high → RiseWithin low (os ++ o ∷ []) high
RiseWithin-push low [] o high h lt = (h, omega arith)
RiseWithin-push low (x ∷ os) o high h lt = (h.0, RiseWithin-push (x.number + 1) os o high h.1 lt)

pub RiseWithin-wider : (low : ℕ) (os : List Remaining) (high higher : ℕ) → RiseWithin low os high → high ≤ higher → RiseWithin low os higher
RiseWithin-wider low [] high higher h le = omega arith
RiseWithin-wider low (x ∷ os) high higher h le = (h.0, RiseWithin-wider (x.number + 1) os high higher h.1 le)

above : (low : ℕ) (os : List Remaining) (high : ℕ) → RiseWithin low os high → low ≤ high
above low [] high h = h
above low (x ∷ os) high h = let r = above (x.number + 1) os high h.1 in omega (arith, h.0)

-- ---- what is left of each

-- the entries that are left of the directory with this number, none where it isn't open
abbrev pub rest_of : List Remaining → ℕ → List (List ℕ × ℕ)
rest_of [] k = []
rest_of (o ∷ os) k = cond (eqb o.number k) o.rest (rest_of os k)

pub rest_of-behind : (low : ℕ) (os : List Remaining) (high k : ℕ) → RiseWithin low os high → high ≤ k → rest_of os k ≡ []
rest_of-behind low [] high k h le = refl
rest_of-behind low (x ∷ os) high k h le =
    let r = above (x.number + 1) os high h.1 in
    let ne : x.number ≡ k → ⊥ = λ q. omega arith in
    rw (ne_eqb x.number k ne) (rest_of-behind (x.number + 1) os high k h.1 le)

pub rest_of-own : (low : ℕ) (os : List Remaining) (o : Remaining) → RiseWithin low os o.number → rest_of (os ++ o ∷ []) o.number ≡ o.rest
rest_of-own low [] o h = rw (eq-eqb o.number o.number refl) refl
rest_of-own low (x ∷ os) o h =
    let r = above (x.number + 1) os o.number h.1 in
    let ne : x.number ≡ o.number → ⊥ = λ q. omega arith in
    rw (ne_eqb x.number o.number ne) (rest_of-own (x.number + 1) os o h.1)

pub rest_of-other : (os : List Remaining) (o : Remaining) (k : ℕ) → k ≢ o.number → rest_of (os ++ o ∷ []) k ≡ rest_of os k
rest_of-other [] o k ne = rw (ne_eqb o.number k (λ q. ne (sym q))) refl
rest_of-other (x ∷ os) o k ne = ap (λ (t : List (List ℕ × ℕ)). cond (eqb x.number k) x.rest t) (rest_of-other os o k ne)

-- ---- their place in the open path

-- The open path begins with these directories, and what is left of each rises behind its last name.
abbrev pub Follows : List Remaining → List OpenDir → Type 0
Follows [] path = Unit {0}
Follows (o ∷ os) [] = ⊥
Follows (o ∷ os) (d ∷ path) = (d.node ≡ o.number) × RisesBehind d.last o.rest × Follows os path

pub Follows-pop : (os : List Remaining) (o : Remaining) (path : List OpenDir) → Follows (os ++ o ∷ []) path → Follows os path
Follows-pop [] o path h = tt
Follows-pop (x ∷ os) o [] h = h
Follows-pop (x ∷ os) o (d ∷ path) h = (h.0, h.1, Follows-pop os o path h.2)

-- the entries of the last of them, laid out further
Follows-take : (os : List Remaining) (o : Remaining) (path : List OpenDir) (more : List Remaining) (tail : List OpenDir) → Follows (os ++ o ∷ []) path → Follows more tail → Follows (os ++ more) (take (length os) path ++ tail)
Follows-take [] o path more tail h t = t
Follows-take (x ∷ os) o [] more tail h t = absurd h
Follows-take (x ∷ os) o (d ∷ path) more tail h t = (h.0, h.1, Follows-take os o path more tail h.2 t)

Follows-level : (low : ℕ) (os : List Remaining) (o : Remaining) (path : List OpenDir) → RiseWithin low os o.number → Follows (os ++ o ∷ []) path → level_in path o.number ≡ length os
Follows-level low [] o [] r h = absurd h
Follows-level low [] o (d ∷ path) r h = rw (eq-eqb d.node o.number h.0) refl
Follows-level low (x ∷ os) o [] r h = absurd h
Follows-level low (x ∷ os) o (d ∷ path) r h =
    let up = above (x.number + 1) os o.number r.1 in
    let ne : d.node ≡ o.number → ⊥ = λ q. omega (arith, h.0) in
    let next = Follows-level (x.number + 1) os o path r.1 h.2 in
    rw (ne_eqb d.node o.number ne) (omega (arith, next))

Follows-last : (os : List Remaining) (o : Remaining) (path : List OpenDir) → Follows (os ++ o ∷ []) path → (length os < length path) × IfSome (slice_get path (length os)) (λ d. (d.node ≡ o.number) × RisesBehind d.last o.rest)
Follows-last [] o [] h = absurd h
Follows-last [] o (d ∷ path) h = (omega arith, (h.0, h.1))
Follows-last (x ∷ os) o [] h = absurd h
Follows-last (x ∷ os) o (d ∷ path) h = let r = Follows-last os o path h.2 in (omega (arith, r.0), r.1)

IfSome-map : {X : Type 0} (P Q : X → Type 0) (o : Option X) → ((x : X) → P x → Q x) → IfSome o P → IfSome o Q
IfSome-map P Q (Some x) f h = f x h
IfSome-map P Q None f h = h

-- a directory that the next entry opens, where it is one
abbrev pub opens : Kind → ℕ → List (List ℕ × ℕ) → List Remaining
opens kinds.Dir number rest = record { number = number; rest = rest } ∷ []
opens kinds.File number rest = []

-- One more entry, in the last of the open directories.
pub record NextEntry (path : List OpenDir) (os : List Remaining) (o : Remaining) (x : LowerNode) (es : List (List ℕ × ℕ)) (number : ℕ) (inner : List (List ℕ × ℕ)) : Type 0 where
  pub fits : IsEntry path (level_in path x.parent) x
  pub rises : RisesBehind x.name es
  pub follows : Follows (os ++ record { number = o.number; rest = es } ∷ opens x.kind number inner) (path_behind path (level_in path x.parent) number x)

module _ (path : List OpenDir) (os : List Remaining) (o : Remaining) (x : LowerNode) (node : ℕ) (es : List (List ℕ × ℕ)) (number : ℕ) (inner : List (List ℕ × ℕ))
    (numbers : RiseWithin 0 os o.number) (h : Follows (os ++ o ∷ []) path) (parent : x.parent ≡ o.number) (left : o.rest ≡ (x.name, node) ∷ es) (octets : HoldsOctets x.kind x.attribute x.body) (ordered : RisesBehind [] inner) where
  level : level_in path x.parent ≡ length os
  level = ap (level_in path) parent ∙ Follows-level 0 os o path numbers h

  at_last : IfSome (slice_get path (length os)) (λ d. (d.node ≡ x.parent) × RisesBehind d.last ((x.name, node) ∷ es))
  at_last = IfSome-map (λ (d : OpenDir). (d.node ≡ o.number) × RisesBehind d.last o.rest) (λ (d : OpenDir). (d.node ≡ x.parent) × RisesBehind d.last ((x.name, node) ∷ es)) (slice_get path (length os)) (λ d p. (p.0 ∙ sym parent, subst (RisesBehind d.last) left p.1)) (Follows-last os o path h).1

  last_dir : (path : List OpenDir) (k : ℕ) → k < length path → IfSome (slice_get path k) (λ d. (d.node ≡ x.parent) × RisesBehind d.last ((x.name, node) ∷ es)) → IsTrue (is_name x.name) × RisesBehind x.name es
  last_dir [] k lt p = absurd (omega arith)
  last_dir (d ∷ path) zero lt p = (p.1.1, p.1.2)
  last_dir (d ∷ path) (suc k) lt p = last_dir path k (omega arith) p

  names : IsTrue (is_name x.name) × RisesBehind x.name es
  names = last_dir path (length os) (Follows-last os o path h).0 at_last

  new_dirs : (k : Kind) → Follows (record { number = o.number; rest = es } ∷ opens k number inner) (record { node = x.parent; last = x.name } ∷ opened k number)
  new_dirs kinds.Dir = (parent, names.1, (refl, ordered, tt))
  new_dirs kinds.File = (parent, names.1, tt)

  pub next_entry : NextEntry path os o x es number inner
  next_entry =
      let within = (Follows-last os o path h).0 in
      record {
        fits = rw level (record {
          parent = IfSome-map (λ (d : OpenDir). (d.node ≡ x.parent) × RisesBehind d.last ((x.name, node) ∷ es)) (λ (d : OpenDir). (d.node ≡ x.parent) × IsTrue (comes_before d.last x.name)) (slice_get path (length os)) (λ d p. (p.0, p.1.0)) at_last;
          within = within;
          name = names.0;
          octets = octets;
        });
        rises = names.1;
        follows = rw level (Follows-take os o path (record { number = o.number; rest = es } ∷ opens x.kind number inner) (record { node = x.parent; last = x.name } ∷ opened x.kind number) h (new_dirs x.kind));
      }

-- ---- the open path behind entries

abbrev pub path_after : List OpenDir → ℕ → List LowerNode → List OpenDir
path_after path number [] = path
path_after path number (x ∷ nodes) = path_after (path_behind path (level_in path x.parent) number x) (number + 1) nodes

pub AreEntries-push : (path : List OpenDir) (number : ℕ) (nodes : List LowerNode) (x : LowerNode) → AreEntries path number nodes → IsEntry (path_after path number nodes) (level_in (path_after path number nodes) x.parent) x → AreEntries path number (nodes ++ x ∷ [])
AreEntries-push path number [] x h p = (p, tt)
AreEntries-push path number (y ∷ nodes) x h p = (h.0, AreEntries-push (path_behind path (level_in path y.parent) number y) (number + 1) nodes x h.1 p)

pub path_after-push : (path : List OpenDir) (number : ℕ) (nodes : List LowerNode) (x : LowerNode)
    → path_after path number (nodes ++ x ∷ []) ≡ path_behind (path_after path number nodes) (level_in (path_after path number nodes) x.parent) (number + length nodes) x
path_after-push path number [] x = let e : number ≡ number + 0 = omega arith in ap (λ (n : ℕ). path_behind path (level_in path x.parent) n x) e
path_after-push path number (y ∷ nodes) x =
    let behind = path_behind path (level_in path y.parent) number y in
    let e : number + 1 + length nodes ≡ number + suc (length nodes) = omega arith in
    path_after-push behind (number + 1) nodes x ∙ ap (λ (n : ℕ). path_behind (path_after behind (number + 1) nodes) (level_in (path_after behind (number + 1) nodes) x.parent) n x) e
