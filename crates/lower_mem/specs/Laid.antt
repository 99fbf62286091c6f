-- How names and files are laid out as the nodes of a lower tree.
use Rattle.std.specs.Prelude.{ℕ, List, [], Option, None}
use Rattle.lower_model.specs.declared.kind.Kind.{Kind}
use Rattle.lower_model.specs.declared.kind.Kind.TheVariants as kinds
use Rattle.lower_model.specs.declared.node.LowerNode.{LowerNode}
use Rattle.body_model.specs.LowerFile.{LowerFile}

-- A directory with this number, and its entries that are still to be laid out.
pub record Remaining : Type 0 where
  pub number : ℕ
  pub rest : List (List ℕ × ℕ)

-- what a node of this kind holds, whose file this is
abbrev pub octets_kept : Kind → LowerFile → Option (List ℕ) × List ℕ
octets_kept kinds.Dir file = (None, [])
octets_kept kinds.File file = (file.attribute, file.body)

-- the lower node of an entry, with its attribute and its body
abbrev pub entry_node : ℕ → Kind → List ℕ → Option (List ℕ) × List ℕ → LowerNode
entry_node parent kind name octets = record { parent = parent; kind = kind; name = name; attribute = octets.0; body = octets.1 }
