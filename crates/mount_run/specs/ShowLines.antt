-- Lines of a show text, added one behind another.
use Rattle.std.specs.Prelude.{◌≡◌, ◌<◌, ℕ, List, ◌++◌, length, map, slice_get}
use Rattle.std.specs.List.{flat_map}
use Rattle.lower_model.specs.declared.node.LowerNode.{LowerNode}
use Rattle.tree_model.specs.declared.listed.Listed.{Listed}
use Rattle.tree_model.specs.declared.listed.Listed.TheVariants.{Shown, Foreign}
use Rattle.key_model.specs.SignedKey.{SignedKey}
use Rattle.show_model.specs.declared.item.ShowItem.{ShowItem}
use Rattle.show_model.specs.Show.{TellsNode, TellsItems, listed_item}
use Rattle.show_model.specs.ShowText.{item_line}

-- an item that is shown has the number of one of these nodes
abbrev pub IsNumber : List LowerNode → Listed → Type 0
IsNumber nodes (Shown path number) = number < length nodes
IsNumber nodes (Foreign path lower number) = Unit {0}

-- The line of an item of a listing was added behind a text. The item tells the node of its number.
pub record AddsLine (ring : List SignedKey) (nodes : List LowerNode) (listed : Listed) (old new : List ℕ) : Type 0 where
  pub item : ShowItem
  pub lists : listed_item item ≡ listed
  pub told : TellsNode ring (slice_get nodes item.node) item.what
  pub text : new ≡ old ++ item_line item

-- The lines of the items of a listing were added behind a text. The items tell these nodes.
pub record AddsLines (ring : List SignedKey) (nodes : List LowerNode) (listing : List Listed) (old new : List ℕ) : Type 0 where
  pub items : List ShowItem
  pub lists : map listed_item items ≡ listing
  pub told : TellsItems ring nodes items
  pub text : new ≡ old ++ flat_map item_line items
