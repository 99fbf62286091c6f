-- The octets of files, which are carried along.
use Rattle.std.proofs.Common.{◌≡◌, ◌≢◌, ℕ, zero, suc, ◌<◌, List, [], ◌∷◌, ◌++◌, length, get_or, Option, Some, refl, sym, ap, subst, ◌∙◌, arith, inl, inr}
use Rattle.std.specs.Prelude.{slice_get}
use Rattle.std.proofs.lemmas.Bool.{cases_lt}
use Rattle.std.proofs.lemmas.List.{length_push, get_or_append_left, get_or_push}
use Rattle.lower_model.specs.LowerTree.{HoldsOctets}
use Rattle.lower_model.specs.declared.kind.Kind.{Kind}
use Rattle.lower_model.specs.declared.kind.Kind.TheVariants as kinds
use Rattle.lower_model.specs.declared.node.LowerNode.{LowerNode}
use Rattle.tree_model.specs.declared.place.Place.{Place}
use Rattle.tree_model.specs.declared.place.Place.TheVariants.{File}
use Rattle.tree_model.specs.IsTree.{IsDirectory}
use Rattle.names_model.specs.LowerPaths.{file_in}
use Rattle.body_model.specs.LowerFile.{LowerFile}
use Rattle.lower_mem.specs.Laid.{octets_kept}
use Rattle.tree_model.proofs.NodeEntries.{get_append_left, slice_get-push}

abbrev pub Files : Type 0
Files = ℕ → LowerFile

-- each node that comes from a file has its octets
abbrev pub Kept : Files → List Place → List LowerNode → List ℕ → Type 0
Kept files places nodes origin = (k : ℕ) → k < length origin → slice_get places (get_or origin k 0) ≡ Some File → file_in (slice_get nodes k) ≡ files (get_or origin k 0)

-- the files that no node comes from yet still have their octets
abbrev pub Left : Files → Files → List ℕ → Type 0
Left files now origin = (m : ℕ) → ((k : ℕ) → k < length origin → get_or origin k 0 ≡ m → ⊥) → now m ≡ files m

no_file : (p : Option Place) → IsDirectory p → p ≡ Some File → ⊥
no_file p h e = subst IsDirectory e h

pub kept_root : (files : Files) (places : List Place) (root : LowerNode) → IsDirectory (slice_get places 0) → Kept files places (root ∷ []) (0 ∷ [])
kept_root files places root dir zero lt e = absurd (no_file (slice_get places 0) dir e)
kept_root files places root dir (suc k) lt e = absurd (omega arith)

module _ (files : Files) (places : List Place) (nodes : List LowerNode) (origin : List ℕ) (x : LowerNode) (node : ℕ) where
  pub kept_more : length origin ≡ length nodes → Kept files places nodes origin → (slice_get places node ≡ Some File → file_in (Some x) ≡ files node) → Kept files places (nodes ++ x ∷ []) (origin ++ node ∷ [])
  kept_more many h new k lt e = elim (cases_lt k (length origin)) [
    | inl old ↦
        let at : get_or (origin ++ node ∷ []) k 0 ≡ get_or origin k 0 = get_or_append_left origin (node ∷ []) 0 k old in
        rw (at, get_append_left nodes (x ∷ []) k (omega arith)) (h k old (rw at at e))
    | inr behind ↦
        let last : k ≡ length origin = omega (arith, length_push origin node) in
        let at : get_or (origin ++ node ∷ []) k 0 ≡ node = get_or_push origin node 0 k (sym last) in
        let there : slice_get (nodes ++ x ∷ []) k ≡ Some x = ap (slice_get (nodes ++ x ∷ [])) (last ∙ many) ∙ slice_get-push nodes x in
        rw (at, there) (new (rw at at e))
  ]

  pub left_more : (now now' : Files) → Left files now origin → ((m : ℕ) → m ≢ node → now' m ≡ now m) → Left files now' (origin ++ node ∷ [])
  left_more now now' left others m apart =
      let ne : m ≢ node = λ e. apart (length origin) (omega (arith, length_push origin node)) (get_or_push origin node 0 (length origin) refl ∙ sym e) in
      others m ne ∙ left m (λ k lt e. apart k (omega (arith, length_push origin node)) (get_or_append_left origin (node ∷ []) 0 k lt ∙ e))

-- what is kept may stand in a lower tree
pub kept_holds : (kind : Kind) (file : LowerFile) → HoldsOctets kinds.File file.attribute file.body → HoldsOctets kind (octets_kept kind file).0 (octets_kept kind file).1
kept_holds kinds.Dir file h = (refl, refl)
kept_holds kinds.File file h = h
