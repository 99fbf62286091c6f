-- The image of a lower tree: its one spelling, with all numbers big-endian.
use Rattle.std.specs.Prelude.{ℕ, ◌+◌, List, [], ◌∷◌, ◌++◌, length, Option, Some, None}
use Rattle.std.specs.Int.{w16, w32, to_be_bytes}
use Rattle.lower_model.specs.declared.kind.Kind.{Kind}
use Rattle.lower_model.specs.declared.kind.Kind.TheVariants.{Dir, File}
use Rattle.lower_model.specs.declared.node.LowerNode.{LowerNode}
use Rattle.lower_model.specs.declared.node.OpenDir.{OpenDir}
use Rattle.lower_model.specs.LowerTree.{level_in, path_behind, root_path}

-- ECRYIMG1
abbrev pub magic : List ℕ
magic = 69 ∷ 67 ∷ 82 ∷ 89 ∷ 73 ∷ 77 ∷ 71 ∷ 49 ∷ []

-- one octet
abbrev pub kind_code : Kind → ℕ
kind_code Dir = 0
kind_code File = 1

-- octets behind their length
abbrev pub sized : List ℕ → List ℕ
sized octets = to_be_bytes w32 (length octets) ++ octets

-- a flag, and the octets where there are any
abbrev pub attribute : Option (List ℕ) → List ℕ
attribute None = 0 ∷ []
attribute (Some octets) = 1 ∷ sized octets

-- what stands behind the name: nothing for a directory, the attribute and the body for a file
abbrev pub file_octets : Kind → Option (List ℕ) → List ℕ → List ℕ
file_octets Dir a body = []
file_octets File a body = attribute a ++ sized body

-- level, kind, length of the name, name, and a file's octets; the level is 1 in the root
abbrev pub entry : ℕ → LowerNode → List ℕ
entry level node = to_be_bytes w16 (level + 1) ++ (kind_code node.kind ∷ (length node.name ∷ (node.name ++ file_octets node.kind node.attribute node.body)))

-- one after another, the first of them with this number
abbrev pub entries : List OpenDir → ℕ → List LowerNode → List ℕ
entries path number [] = []
entries path number (node ∷ nodes) =
    entry (level_in path node.parent) node ++ entries (path_behind path (level_in path node.parent) number node) (number + 1) nodes

abbrev pub root : LowerNode
root = record { parent = 0; kind = Dir; name = []; attribute = None; body = [] }

-- the magic, the number of entries, and the entries; the root has none
abbrev pub image : List LowerNode → List ℕ
image [] = []
image (_ ∷ nodes) = magic ++ (to_be_bytes w32 (length nodes) ++ entries root_path 1 nodes)
