-- A whole image: what is read is a lower tree that is spelled so, and what is spelled so is read.
use Rattle.std.proofs.Common.{◌≡◌, ℕ, ◌+◌, ◌^◌, ◌<◌, ◌≤◌, true, cond, eqb, leb, nat_eq, List, [], ◌∷◌, ◌++◌, length, take, drop, Option, Some, None, Result, Ok, Err, refl, sym, ap, ◌∙◌, arith}
use Rattle.std.specs.List.{starts_with}
use Rattle.std.specs.Int.{w16, w32, to_be_bytes}
use Rattle.std.proofs.lemmas.Bool.{eqb-true, leb-true, le-leb}
use Rattle.std.proofs.lemmas.List.{append-nil, nil_from_length, take-append-drop}
use Rattle.std.proofs.lemmas.Slice.Eq.{bytes_eq-Decides}
use Rattle.octet_model.specs.Octets.{AreOctets}
use Rattle.lower_model.specs.declared.kind.Kind.{Kind}
use Rattle.lower_model.specs.declared.kind.Kind.TheVariants.{Dir, File}
use Rattle.lower_model.specs.declared.node.LowerNode.{LowerNode}
use Rattle.lower_model.specs.declared.node.OpenDir.{OpenDir}
use Rattle.lower_model.specs.LowerTree.{level_in, path_behind, root_path, HoldsOctets, IsEntry, AreEntries, IsRoot, IsLowerTree}
use Rattle.image_model.specs.declared.fault.ImageFault.{ImageFault}
use Rattle.image_model.specs.declared.fault.ImageKind.TheVariants as kinds
use Rattle.image_model.specs.ImageText.{kind_code, attribute, sized, file_octets, entry, entries, image, magic, root}
use Rattle.image_model.specs.ImageReading.{FieldFault, wrong, number_at, entries_at, whole_tree, counted_nodes_at, nodes_at, with_offset, reading}
use Rattle.octet_model.proofs.Octets.{AreOctets-append, AreOctets-drop, AreOctets-be_16, AreOctets-be_32}
use Rattle.lower_model.proofs.NameOctets.{AreOctets-name, length-name}
use Rattle.answer_model.specs.Answer.{◌>>=◌}
use Rattle.answer_model.proofs.Binds.{bind_ok, ok_is}
use Rattle.image_model.proofs.Fields.{Takes, guard, moved, Takes-then, wide32, number_takes, number_again}
use Rattle.image_model.proofs.Entries.{entries_take, entries_again}

abbrev counted : List LowerNode → List ℕ
counted [] = []
counted (r ∷ nodes) = to_be_bytes w32 (length nodes) ++ entries root_path 1 nodes

-- a count and so many entries, with nothing behind them
counted_is : (octets : List ℕ) (n : ℕ) (nodes : List LowerNode) (rest : List ℕ) → Takes octets (to_be_bytes w32 n ++ entries root_path 1 nodes) rest → rest ≡ [] → length nodes ≡ n → octets ≡ counted (root ∷ nodes)
counted_is octets n nodes rest t nothing len =
    t.parts ∙ ap (λ (r : List ℕ). (to_be_bytes w32 n ++ entries root_path 1 nodes) ++ r) nothing ∙ append-nil (to_be_bytes w32 n ++ entries root_path 1 nodes) ∙ ap (λ (k : ℕ). to_be_bytes w32 k ++ entries root_path 1 nodes) (sym len)

counted_takes : (octets : List ℕ) (nodes : List LowerNode) → AreOctets octets → counted_nodes_at octets ≡ Ok nodes → IsLowerTree nodes × (octets ≡ counted nodes)
unfolding counted_nodes_at
counted_takes octets nodes fits e =
    let a = bind_ok (number_at w32 octets) (λ n. cond (leb n.0 4095) (entries_at n.0 root_path 1 n.1 >>= whole_tree) (wrong kinds.TooMany octets)) nodes e in
    let g = guard (leb a.0.0 4095) (record { left = length octets; kind = kinds.TooMany }) (entries_at a.0.0 root_path 1 a.0.1 >>= whole_tree) nodes a.2 in
    let b = bind_ok (entries_at a.0.0 root_path 1 a.0.1) whole_tree nodes g.1 in
    let h = guard (eqb (length b.0.1) 0) (record { left = length b.0.1; kind = kinds.Extra }) (Ok (root ∷ b.0.0)) nodes b.2 in
    let t = number_takes w32 (2 ^ 32) wide32 octets a.0.0 a.0.1 fits a.1 in
    let u = entries_take a.0.0 root_path 1 a.0.1 b.0 (omega arith, omega arith, tt) t.0.rest_fits b.1 in
    let nothing : b.0.1 ≡ [] = nil_from_length b.0.1 (eqb-true _ _ h.0) in
    let spelled = counted_is octets a.0.0 b.0.0 b.0.1 (Takes-then octets (to_be_bytes w32 a.0.0) a.0.1 (entries root_path 1 b.0.0) b.0.1 t.0 u.0.0) nothing u.1 in
    let most : length b.0.0 ≤ 4095 = rw u.1 (leb-true a.0.0 4095 g.0) in
    let tree : IsLowerTree (root ∷ b.0.0) = ((refl, refl, refl, refl, refl), most, u.0.1) in
    moved (λ (ns : List LowerNode). IsLowerTree ns × (octets ≡ counted ns)) (root ∷ b.0.0) nodes h.1 (tree, spelled)

starts : (octets : List ℕ) → starts_with nat_eq octets magic ≡ true → octets ≡ magic ++ drop 8 octets
starts octets e =
    let h : magic ≡ take 8 octets = (bytes_eq-Decides magic (take 8 octets)).0 e in
    sym (take-append-drop 8 octets) ∙ ap (λ (t : List ℕ). t ++ drop 8 octets) (sym h)

image_from : (octets : List ℕ) (nodes : List LowerNode) → octets ≡ magic ++ drop 8 octets → IsLowerTree nodes × (drop 8 octets ≡ counted nodes) → IsLowerTree nodes × (octets ≡ image nodes)
image_from octets [] e h = absurd h.0
image_from octets (r ∷ nodes) e h = (h.0, e ∙ ap (λ (t : List ℕ). magic ++ t) h.1)

-- what is read is a lower tree, spelled so
pub nodes_take : (octets : List ℕ) (nodes : List LowerNode) → AreOctets octets → nodes_at octets ≡ Ok nodes → IsLowerTree nodes × (octets ≡ image nodes)
unfolding nodes_at
nodes_take octets nodes fits e =
    let g = guard (starts_with nat_eq octets magic) (record { left = length octets; kind = kinds.Magic }) (counted_nodes_at (drop 8 octets)) nodes e in
    image_from octets nodes (starts octets g.0) (counted_takes (drop 8 octets) nodes (AreOctets-drop 8 octets fits) g.1)

root_is : (r : LowerNode) → IsRoot r → r ≡ root
root_is r h i = record { parent = h.0 i; kind = h.1 i; name = h.2 i; attribute = h.3 i; body = h.4 i }

counted_again : (r : LowerNode) (nodes : List LowerNode) → IsLowerTree (r ∷ nodes) → counted_nodes_at (counted (r ∷ nodes)) ≡ Ok (r ∷ nodes)
unfolding counted_nodes_at
counted_again r nodes h =
    let all : entries_at (length nodes) root_path 1 (entries root_path 1 nodes) ≡ Ok (nodes, []) =
    ap (entries_at (length nodes) root_path 1) (sym (append-nil (entries root_path 1 nodes))) ∙ entries_again nodes root_path 1 [] h.2 (omega (arith, h.1)) (omega arith) in
    let few : leb (length nodes) 4095 ≡ true = le-leb (length nodes) 4095 h.1 in
    rw (number_again w32 (2 ^ 32) wide32 (length nodes) (entries root_path 1 nodes) (omega (arith, h.1)), few, all, root_is r h.0) refl

-- what is spelled is read
pub nodes_again : (nodes : List LowerNode) → IsLowerTree nodes → nodes_at (image nodes) ≡ Ok nodes
unfolding nodes_at
nodes_again [] h = absurd h
nodes_again (r ∷ nodes) h = counted_again r nodes h

-- ---- the image is a list of octets, and no other lower tree has it

AreOctets-sized : (b : List ℕ) → AreOctets b → AreOctets (sized b)
AreOctets-sized b fits = AreOctets-append (to_be_bytes w32 (length b)) b (AreOctets-be_32 (length b)) fits

AreOctets-file_octets : (kind : Kind) (a : Option (List ℕ)) (b : List ℕ) → HoldsOctets kind a b → AreOctets (file_octets kind a b)
AreOctets-file_octets Dir a b h = tt
AreOctets-file_octets File None b h = (omega arith, AreOctets-sized b h.1)
AreOctets-file_octets File (Some a) b h = AreOctets-append (attribute (Some a)) (sized b) (omega arith, AreOctets-sized a h.0.0) (AreOctets-sized b h.1)

kind_code-octet : (kind : Kind) → kind_code kind < 256
kind_code-octet Dir = omega arith
kind_code-octet File = omega arith

AreOctets-entry : (path : List OpenDir) (level : ℕ) (n : LowerNode) → IsEntry path level n → AreOctets (entry level n)
AreOctets-entry path level n i =
    let behind = AreOctets-append n.name (file_octets n.kind n.attribute n.body) (AreOctets-name n.name i.name) (AreOctets-file_octets n.kind n.attribute n.body i.octets) in
    AreOctets-append (to_be_bytes w16 (level + 1)) (kind_code n.kind ∷ (length n.name ∷ (n.name ++ file_octets n.kind n.attribute n.body))) (AreOctets-be_16 (level + 1)) (kind_code-octet n.kind, (length-name n.name i.name, behind))

AreOctets-entries : (path : List OpenDir) (number : ℕ) (nodes : List LowerNode) → AreEntries path number nodes → AreOctets (entries path number nodes)
AreOctets-entries path number [] are = tt
AreOctets-entries path number (n ∷ nodes) are =
    let behind = path_behind path (level_in path n.parent) number n in
    AreOctets-append (entry (level_in path n.parent) n) (entries behind (number + 1) nodes) (AreOctets-entry path (level_in path n.parent) n are.0) (AreOctets-entries behind (number + 1) nodes are.1)

-- an image consists of octets
pub AreOctets-image : (nodes : List LowerNode) → IsLowerTree nodes → AreOctets (image nodes)
AreOctets-image [] h = tt
AreOctets-image (r ∷ nodes) h =
    let counted = AreOctets-append (to_be_bytes w32 (length nodes)) (entries root_path 1 nodes) (AreOctets-be_32 (length nodes)) (AreOctets-entries root_path 1 nodes h.2) in
    (omega arith, (omega arith, (omega arith, (omega arith, (omega arith, (omega arith, (omega arith, (omega arith, counted))))))))

-- ---- the reading

with_offset-ok : (total : ℕ) (read : Result (List LowerNode) FieldFault) (nodes : List LowerNode) → with_offset total read ≡ Ok nodes → read ≡ Ok nodes
with_offset-ok total (Ok x) nodes e = cc
with_offset-ok total (Err f) nodes e = absurd cc

-- what is read is a lower tree that is spelled so
pub reading_takes : (octets : List ℕ) (nodes : List LowerNode) → AreOctets octets → reading octets ≡ Ok nodes → IsLowerTree nodes × (octets ≡ image nodes)
reading_takes octets nodes fits e = nodes_take octets nodes fits (with_offset-ok (length octets) (nodes_at octets) nodes e)

-- what is spelled is read
pub reading_again : (nodes : List LowerNode) → IsLowerTree nodes → reading (image nodes) ≡ Ok nodes
reading_again nodes h = ap (with_offset (length (image nodes))) (nodes_again nodes h)

-- an image is that of one lower tree
pub one_tree : (xs ys : List LowerNode) → IsLowerTree xs → IsLowerTree ys → image xs ≡ image ys → xs ≡ ys
one_tree xs ys lawful others e = ok_is {E = ImageFault} xs ys (sym (reading_again xs lawful) ∙ ap reading e ∙ reading_again ys others)
