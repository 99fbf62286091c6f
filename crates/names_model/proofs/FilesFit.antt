-- The files of a lower tree fit an image.
use Rattle.std.proofs.Common.{◌≡◌, ℕ, zero, suc, ◌+◌, List, [], ◌∷◌, Option, Some, None, refl, subst, arith}
use Rattle.std.specs.Prelude.{slice_get}
use Rattle.lower_model.specs.declared.kind.Kind.{Kind}
use Rattle.lower_model.specs.declared.kind.Kind.TheVariants as kinds
use Rattle.lower_model.specs.declared.node.LowerNode.{LowerNode}
use Rattle.lower_model.specs.declared.node.OpenDir.{OpenDir}
use Rattle.lower_model.specs.LowerTree.{IsLowerTree, AreEntries, HoldsOctets, level_in, path_behind, root_path}
use Rattle.names_model.specs.LowerPaths.{file_in, files_of}

held_as_file : (kind : Kind) (attribute : Option (List ℕ)) (body : List ℕ) → HoldsOctets kind attribute body → HoldsOctets kinds.File attribute body
held_as_file kinds.Dir attribute body h = rw (h.0, h.1) (tt, tt, omega arith)
held_as_file kinds.File attribute body h = h

entry_holds : (path : List OpenDir) (number : ℕ) (nodes : List LowerNode) → AreEntries path number nodes → (n : ℕ) (x : LowerNode) → slice_get nodes n ≡ Some x → HoldsOctets x.kind x.attribute x.body
entry_holds path number [] h n x e = absurd cc
entry_holds path number (y ∷ nodes) h zero x e = let same : y ≡ x = cc in subst (λ (z : LowerNode). HoldsOctets z.kind z.attribute z.body) same h.0.octets
entry_holds path number (y ∷ nodes) h (suc n) x e = entry_holds (path_behind path (level_in path y.parent) number y) (number + 1) nodes h.1 n x e

node_holds : (nodes : List LowerNode) → IsLowerTree nodes → (n : ℕ) (x : LowerNode) → slice_get nodes n ≡ Some x → HoldsOctets kinds.File x.attribute x.body
node_holds [] h n x e = absurd h
node_holds (root ∷ entries) h zero x e =
    let same : root ≡ x = cc in
    subst (λ (z : LowerNode). HoldsOctets kinds.File z.attribute z.body) same (rw (h.0.3, h.0.4) (tt, tt, omega arith))
node_holds (root ∷ entries) h (suc n) x e = held_as_file x.kind x.attribute x.body (entry_holds root_path 1 entries h.2 n x e)

file_holds : (nodes : List LowerNode) → IsLowerTree nodes → (n : ℕ) (o : Option LowerNode) → slice_get nodes n ≡ o → HoldsOctets kinds.File (file_in o).attribute (file_in o).body
file_holds nodes h n None e = (tt, tt, omega arith)
file_holds nodes h n (Some x) e = node_holds nodes h n x e

-- the file of each node, and of each number that is none
pub files_fit : (nodes : List LowerNode) → IsLowerTree nodes → (k : ℕ) → HoldsOctets kinds.File (files_of nodes k).attribute (files_of nodes k).body
files_fit nodes h k = file_holds nodes h k (slice_get nodes k) refl
