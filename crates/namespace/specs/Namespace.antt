-- What contracts see of a tree over lower names.
use Rattle.std.specs.Prelude.{ℕ, List}
use Rattle.session_model.specs.declared.entry.TreeEntry.{TreeEntry}
use Rattle.tree_model.specs.PlainTree.{PlainTree}

-- The tree, the lower name of each node by its number, the store of lower names, the form of names, and the turns so far.
pub record Namespace (N U : Type 0) : Type 0 where
  pub tree : PlainTree
  pub kept : List (List ℕ)
  pub lower : N
  pub form : U
  pub log : List TreeEntry
