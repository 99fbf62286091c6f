-- The one spelling of a show text.
use Rattle.std.specs.Prelude.{ℕ, List, [], ◌∷◌, ◌++◌, length, codes}
use Rattle.std.specs.List.{flat_map}
use Rattle.text_model.specs.Line.{line, number, path}
use Rattle.body_model.specs.declared.content.Content.{Content}
use Rattle.body_model.specs.declared.content.Content.TheVariants.{Empty, Good, Bad}
use Rattle.show_model.specs.declared.item.ShowItem.{ShowItem}
use Rattle.show_model.specs.declared.item.ShowWhat.{ShowWhat}
use Rattle.show_model.specs.declared.item.ShowWhat.TheVariants.{Dir, File, Foreign}
use Rattle.field_model.specs.CauseText.{cause_fields}
use Rattle.field_model.specs.NodeText.{data_field}

abbrev pub kind_letter : ShowWhat → List ℕ
kind_letter Dir = codes "d"
kind_letter (File content) = codes "f"
kind_letter (Foreign lower) = codes "x"

-- the path from the root to an item: that of a foreign entry ends with its lower name
abbrev pub path_to : List (List ℕ) → ShowWhat → List (List ℕ)
path_to names Dir = names
path_to names (File content) = names
path_to names (Foreign lower) = names ++ lower ∷ []

abbrev pub content_fields : Content → List (List ℕ)
content_fields Empty = codes "empty" ∷ []
content_fields (Good octets) = codes "good" ∷ number (length octets) ∷ data_field octets ∷ []
content_fields (Bad cause) = codes "bad" ∷ cause_fields cause

-- what a line tells behind the path
abbrev pub what_fields : ShowWhat → List (List ℕ)
what_fields Dir = []
what_fields (File content) = content_fields content
what_fields (Foreign lower) = []

abbrev pub item_line : ShowItem → List ℕ
item_line item = line (kind_letter item.what ∷ number item.node ∷ path (path_to item.path item.what) ∷ what_fields item.what)

abbrev pub show_head : List ℕ
show_head = line (codes "ecryptfs-show" ∷ codes "1" ∷ [])

abbrev pub show_end : List ℕ
show_end = line (codes "end" ∷ [])

abbrev pub show_text : List ShowItem → List ℕ
show_text items = show_head ++ flat_map item_line items ++ show_end
