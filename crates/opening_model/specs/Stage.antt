-- How far a tree is opened: the directories with lower numbers are listed, and the nodes that they show stand there without entries.
use Rattle.std.specs.Prelude.{ℕ, ◌≡◌, ◌<◌, ◌≤◌, List, [], length, get_or, Some, slice_get}
use Rattle.std.specs.Option.{option_map_or}
use Rattle.lower_model.specs.declared.node.LowerNode.{LowerNode}
use Rattle.names_model.specs.Store.{Store, store_of}
use Rattle.names_model.specs.NameForm.{NameForm}
use Rattle.names_model.specs.ShownBy.{kind_shown, shown_places}
use Rattle.tree_model.specs.declared.place.Place.{Place}
use Rattle.tree_model.specs.declared.place.Place.TheVariants.{Dir, Nothing}
use Rattle.tree_model.specs.IsTree.{IsNode}
use Rattle.tree_model.specs.PlainTree.{begun, empty_directory}
use Rattle.opening_model.specs.InTurn.{Opened}

-- what stands at a number, of which the places before tell whether it is shown
abbrev pub ahead : Store → List Place → ℕ → Place
ahead store before i = option_map_or begun (kind_shown store i 0 before) Nothing

-- It has a place and a lower name for each node, and the lower name of each node that is shown.
pub record FitsNodes (form : NameForm) (nodes : List LowerNode) (o : Opened) : Type 0 where
  pub limit : o.tree.limit ≡ form.longest
  pub size : length o.tree.places ≡ length nodes
  pub names : length o.kept ≡ length nodes
  pub kept : (i : ℕ) (x : LowerNode) → 1 ≤ i → IsNode (slice_get o.tree.places i) → slice_get nodes i ≡ Some x → get_or o.kept i [] ≡ x.name

-- So many directories are listed.
pub record IsStage (form : NameForm) (nodes : List LowerNode) (k : ℕ) (o : Opened) : Type 0 where
  pub fits : FitsNodes form nodes o
  pub done : (i : ℕ) → i < k → slice_get o.tree.places i ≡ slice_get (shown_places form (store_of nodes) k) i
  pub later : (i : ℕ) → k ≤ i → 1 ≤ i → i < length nodes → slice_get o.tree.places i ≡ Some (ahead (store_of nodes) (shown_places form (store_of nodes) k) i)
  pub root : k ≡ 0 → slice_get o.tree.places 0 ≡ Some (Dir empty_directory)
