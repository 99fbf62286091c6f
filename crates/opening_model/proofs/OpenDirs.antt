-- The open directories of a lower tree, from the root on, at each of its nodes.
use Rattle.std.proofs.Common.{one-add, ◌≡◌, ℕ, suc, ◌+◌, ◌<◌, ◌≤◌, ◌⊎◌, inl, inr, false, cond, List, [], ◌∷◌, length, Option, Some, None, IsTrue, refl, sym, ap, subst, ◌∙◌, arith}
use Rattle.std.specs.Prelude.{◌==◌, slice_get, IfSome}
use Rattle.std.proofs.lemmas.Bool.Decides.{eqb_tells}
use Rattle.lower_model.specs.LowerTree.{comes_before, level_in, opened, path_behind, IsEntry}
use Rattle.lower_model.specs.declared.kind.Kind.{Kind}
use Rattle.lower_model.specs.declared.kind.Kind.TheVariants as kinds
use Rattle.lower_model.specs.declared.node.LowerNode.{LowerNode}
use Rattle.lower_model.specs.declared.node.OpenDir.{OpenDir}

-- the last name of a directory that is open
abbrev pub open_last : List OpenDir → ℕ → Option (List ℕ)
open_last [] k = None
open_last (d ∷ path) k = cond (d.node == k) (Some d.last) (open_last path k)

-- numbers that rise from this one on, below that one
abbrev pub RiseWithin : ℕ → List OpenDir → ℕ → Type 0
RiseWithin least [] number = Unit {0}
RiseWithin least (d ∷ path) number = (least ≤ d.node) × (d.node < number) × RiseWithin (d.node + 1) path number

-- the same path, directory by directory
abbrev behind : List OpenDir → ℕ → LowerNode → List OpenDir
behind [] number x = record { node = x.parent; last = x.name } ∷ opened x.kind number
behind (d ∷ path) number x = cond (d.node == x.parent) (record { node = x.parent; last = x.name } ∷ opened x.kind number) (d ∷ behind path number x)

path_behind-behind : (path : List OpenDir) (number : ℕ) (x : LowerNode) → path_behind path (level_in path x.parent) number x ≡ behind path number x
path_behind-behind [] number x = refl
path_behind-behind (d ∷ path) number x = elim (eqb_tells d.node x.parent) [
  | inl e ↦ rw e.0 refl
  | inr e ↦ rw (e.0, one-add) (ap (λ (p : List OpenDir). d ∷ p) (path_behind-behind path number x))
]

-- the directory of an entry is open, and the entry's name comes behind its last one
pub record IsInOpen (path : List OpenDir) (x : LowerNode) : Type 0 where
  pub last : List ℕ
  pub is : open_last path x.parent ≡ Some last
  pub rises : IsTrue (comes_before last x.name)

deeper : (d : OpenDir) (path : List OpenDir) (x : LowerNode) → (d.node == x.parent) ≡ false → IsInOpen path x → IsInOpen (d ∷ path) x
deeper d path x f r = record { last = r.last; is = rw f r.is; rises = r.rises }

in_open : (path : List OpenDir) (x : LowerNode) → level_in path x.parent < length path → IfSome (slice_get path (level_in path x.parent)) (λ d. (d.node ≡ x.parent) × IsTrue (comes_before d.last x.name)) → IsInOpen path x
in_open [] x lt h = absurd (omega arith)
in_open (d ∷ path) x lt h = elim (eqb_tells d.node x.parent) [
  | inl e ↦ (let here : (d.node ≡ x.parent) × IsTrue (comes_before d.last x.name) = rw e.0 at h in record { last = d.last; is = rw e.0 refl; rises = here.1 })
  | inr e ↦ (let less : 1 + level_in path x.parent < suc (length path) = rw e.0 at lt in
      let later : IfSome (slice_get path (level_in path x.parent)) (λ d. (d.node ≡ x.parent) × IsTrue (comes_before d.last x.name)) = rw (e.0, one-add) at h in
      deeper d path x e.0 (in_open path x (omega arith) later))
]

pub entry_in_open : (path : List OpenDir) (x : LowerNode) → IsEntry path (level_in path x.parent) x → IsInOpen path x
entry_in_open path x e = in_open path x e.within e.parent

-- an open directory has one of these numbers
pub open_within : (least : ℕ) (path : List OpenDir) (number k : ℕ) (last : List ℕ) → RiseWithin least path number → open_last path k ≡ Some last → (least ≤ k) × (k < number)
open_within least [] number k last r h = absurd cc
open_within least (d ∷ path) number k last r h = elim (eqb_tells d.node k) [
  | inl e ↦ (omega (arith, r.0), omega (arith, r.1))
  | inr e ↦ (let later : open_last path k ≡ Some last = rw e.0 at h in let w = open_within (d.node + 1) path number k last r.2 later in (omega (arith, r.0, w.0), w.1))
]

opened_within : (kind : Kind) (least number : ℕ) → least ≤ number → RiseWithin least (opened kind number) (number + 1)
opened_within kinds.Dir least number le = (le, omega arith, tt)
opened_within kinds.File least number le = tt

wider : (least : ℕ) (path : List OpenDir) (number : ℕ) → RiseWithin least path number → RiseWithin least path (number + 1)
wider least [] number r = tt
wider least (d ∷ path) number r = (r.0, omega (arith, r.1), wider (d.node + 1) path number r.2)

behind_within : (least : ℕ) (path : List OpenDir) (number : ℕ) (x : LowerNode) (last : List ℕ) → RiseWithin least path number → open_last path x.parent ≡ Some last → RiseWithin least (behind path number x) (number + 1)
behind_within least [] number x last r h = absurd cc
behind_within least (d ∷ path) number x last r h = elim (eqb_tells d.node x.parent) [
  | inl e ↦ rw e.0 (omega (arith, r.0), omega (arith, r.1), opened_within x.kind (x.parent + 1) number (omega (arith, r.1)))
  | inr e ↦ (let later : open_last path x.parent ≡ Some last = rw e.0 at h in rw e.0 (r.0, omega (arith, r.1), behind_within (d.node + 1) path number x last r.2 later))
]

-- What is open behind an entry: its directory with its name as the last one, the entry itself, if it is a directory, and such as were open, up to its directory.
abbrev IsOpenBehind : List OpenDir → ℕ → LowerNode → ℕ → List ℕ → Type 0
IsOpenBehind path number x k last = ((k ≡ x.parent) × (last ≡ x.name)) ⊎ (((k ≡ number) × (last ≡ []) × (x.kind ≡ kinds.Dir)) ⊎ ((k < x.parent) × (open_last path k ≡ Some last)))

in_opened : (kind : Kind) (number k : ℕ) (last : List ℕ) → open_last (opened kind number) k ≡ Some last → (k ≡ number) × (last ≡ []) × (kind ≡ kinds.Dir)
in_opened kinds.Dir number k last h = elim (eqb_tells number k) [
  | inl e ↦ (let same : Some [] ≡ Some last = rw e.0 at h in (sym e.1, cc, refl))
  | inr e ↦ (let no : None ≡ Some last = rw e.0 at h in absurd cc)
]
in_opened kinds.File number k last h = absurd cc

at_end : (x : LowerNode) (number k : ℕ) (last : List ℕ) (P : Type 0) → open_last (record { node = x.parent; last = x.name } ∷ opened x.kind number) k ≡ Some last
    → ((k ≡ x.parent) × (last ≡ x.name)) ⊎ (((k ≡ number) × (last ≡ []) × (x.kind ≡ kinds.Dir)) ⊎ P)
at_end x number k last P h = elim (eqb_tells x.parent k) [
  | inl f ↦ (let same : Some x.name ≡ Some last = rw f.0 at h in inl (sym f.1, cc))
  | inr f ↦ (let more : open_last (opened x.kind number) k ≡ Some last = rw f.0 at h in inr (inl (in_opened x.kind number k last more)))
]

was_open : (least : ℕ) (path : List OpenDir) (number : ℕ) (x : LowerNode) (first : List ℕ) → RiseWithin least path number → open_last path x.parent ≡ Some first → (k : ℕ) (last : List ℕ) → open_last (behind path number x) k ≡ Some last → IsOpenBehind path number x k last
was_open least [] number x first r p k last h = absurd cc
was_open least (d ∷ path) number x first r p k last h = elim (eqb_tells d.node x.parent) [
  | inl e ↦ (let here : open_last (record { node = x.parent; last = x.name } ∷ opened x.kind number) k ≡ Some last = rw e.0 at h in at_end x number k last _ here)
  | inr e ↦ (let later : open_last path x.parent ≡ Some first = rw e.0 at p in
      let below = open_within (d.node + 1) path number x.parent first r.2 later in
      let rest : cond (d.node == k) (Some d.last) (open_last (behind path number x) k) ≡ Some last = rw e.0 at h in
      elim (eqb_tells d.node k) [
        | inl f ↦ (let same : Some d.last ≡ Some last = rw f.0 at rest in inr (inr (omega (arith, below.0, f.1), rw f.0 same)))
        | inr f ↦ (let more : open_last (behind path number x) k ≡ Some last = rw f.0 at rest in
            elim (was_open (d.node + 1) path number x first r.2 later k last more) [
              | inl q ↦ inl q
              | inr q ↦ elim q [ inl s ↦ inr (inl s) | inr s ↦ inr (inr (s.0, rw f.0 s.1)) ]
            ])
      ])
]

-- its directory is open behind it
is_open : (least : ℕ) (path : List OpenDir) (number : ℕ) (x : LowerNode) (first : List ℕ) → open_last path x.parent ≡ Some first → open_last (behind path number x) x.parent ≡ Some x.name
is_open least [] number x first p = absurd cc
is_open least (d ∷ path) number x first p = elim (eqb_tells d.node x.parent) [
  | inl e ↦ rw e.0 own
  | inr e ↦ (let later : open_last path x.parent ≡ Some first = rw e.0 at p in rw e.0 (rw e.0 (is_open least path number x first later)))
]
  where
    own : open_last (record { node = x.parent; last = x.name } ∷ opened x.kind number) x.parent ≡ Some x.name
    own = elim (eqb_tells x.parent x.parent) [ inl e ↦ rw e.0 refl | inr e ↦ absurd (e.1 refl) ]

-- ---- the path that the standard form gives

pub path_within : (path : List OpenDir) (number : ℕ) (x : LowerNode) (last : List ℕ) → RiseWithin 0 path number → open_last path x.parent ≡ Some last → RiseWithin 0 (path_behind path (level_in path x.parent) number x) (number + 1)
path_within path number x last r h = subst (λ (p : List OpenDir). RiseWithin 0 p (number + 1)) (sym (path_behind-behind path number x)) (behind_within 0 path number x last r h)

pub open_before : (path : List OpenDir) (number : ℕ) (x : LowerNode) (first : List ℕ) → RiseWithin 0 path number → open_last path x.parent ≡ Some first → (k : ℕ) (last : List ℕ) → open_last (path_behind path (level_in path x.parent) number x) k ≡ Some last
    → ((k ≡ x.parent) × (last ≡ x.name)) ⊎ (((k ≡ number) × (last ≡ []) × (x.kind ≡ kinds.Dir)) ⊎ ((k < x.parent) × (open_last path k ≡ Some last)))
open_before path number x first r p k last h = was_open 0 path number x first r p k last (ap (λ (q : List OpenDir). open_last q k) (sym (path_behind-behind path number x)) ∙ h)

pub stays_open : (path : List OpenDir) (number : ℕ) (x : LowerNode) (first : List ℕ) → open_last path x.parent ≡ Some first → open_last (path_behind path (level_in path x.parent) number x) x.parent ≡ Some x.name
stays_open path number x first p = ap (λ (q : List OpenDir). open_last q x.parent) (path_behind-behind path number x) ∙ is_open 0 path number x first p
