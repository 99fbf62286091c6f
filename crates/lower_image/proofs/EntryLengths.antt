-- How long entries are in an image: an entry takes as many octets at each place.
use Rattle.std.proofs.Common.{◌≡◌, ℕ, ◌+◌, ◌<◌, List, [], ◌∷◌, length, refl, ap, ◌∙◌}
use Rattle.std.specs.List.{AllByRecursion}
use Rattle.std.proofs.lemmas.List.{length-append}
use Rattle.lower_model.specs.declared.node.LowerNode.{LowerNode}
use Rattle.lower_model.specs.declared.node.OpenDir.{OpenDir}
use Rattle.lower_model.specs.LowerTree.{HoldsOctets, AreEntries, level_in, path_behind}
use Rattle.lower_model.proofs.NameOctets.{length-name}
use Rattle.image_model.specs.ImageText.{entry, entries}

-- how many octets entries have
abbrev pub octets_of : List LowerNode → ℕ
octets_of [] = 0
octets_of (node ∷ nodes) = length (entry 0 node) + octets_of nodes

-- an entry whose octets fit their fields
pub record FitsImage (node : LowerNode) : Type 0 where
  pub name : length node.name < 256
  pub octets : HoldsOctets node.kind node.attribute node.body

pub AllByRecursion-entries : (path : List OpenDir) (number : ℕ) (nodes : List LowerNode) → AreEntries path number nodes → AllByRecursion FitsImage nodes
AllByRecursion-entries path number [] are = tt
AllByRecursion-entries path number (node ∷ nodes) are =
    (record { name = length-name node.name are.0.name; octets = are.0.octets }, AllByRecursion-entries (path_behind path (level_in path node.parent) number node) (number + 1) nodes are.1)

pub length-entries : (path : List OpenDir) (number : ℕ) (nodes : List LowerNode) → length (entries path number nodes) ≡ octets_of nodes
length-entries path number [] = refl
length-entries path number (node ∷ nodes) =
    let level = level_in path node.parent in
    length-append (entry level node) (entries (path_behind path level number node) (number + 1) nodes)
    ∙ ap (λ n. length (entry 0 node) + n) (length-entries (path_behind path level number node) (number + 1) nodes)
