-- The plain tree that lower names show, entry by entry in the order in which a mount reads them.
use Rattle.std.specs.Prelude.{ℕ, ◌&&◌, Bool, true, false, List, [], ◌∷◌, Option, Some, None, is_some, slice_get, slice_set, if◌then◌else◌}
use Rattle.lower_model.specs.Name.{is_name}
use Rattle.names_model.specs.declared.entry.Linked.{Linked}
use Rattle.names_model.specs.Store.{Entries}
use Rattle.names_model.specs.NameForm.{NameForm, blocked_by}
use Rattle.tree_model.specs.declared.place.Place.{Place}
use Rattle.tree_model.specs.declared.place.Place.TheVariants.{Dir, File, Nothing}
use Rattle.tree_model.specs.IsTree.{node_in}
use Rattle.tree_model.specs.PlainTree.{PlainTree}
use Rattle.plain_tree.specs.Entered.{entered, entered_foreign}

-- A tree, and the lower name of each of its nodes.
pub record Opened : Type 0 where
  pub tree : PlainTree
  pub kept : List (List ℕ)

-- whether a number has no node yet
abbrev pub is_free : Option Place → Bool
is_free (Some (Dir d)) = false
is_free (Some File) = false
is_free (Some Nothing) = true
is_free None = false

abbrev pub as_shown : Opened → ℕ → List ℕ × Linked → List ℕ → Opened
as_shown o dir e name = record { tree = entered o.tree dir name e.1.kind e.1.node; kept = slice_set o.kept e.1.node e.0 }

abbrev pub as_foreign : NameForm → Opened → ℕ → List ℕ × Linked → Option (List ℕ) → Opened
as_foreign form o dir e upper = record o { tree = entered_foreign o.tree dir (record { lower = e.0; node = e.1.node; blocks = blocked_by form upper e.0 }) }

-- A lower name is shown under its upper name, if it stands for one that isn't shown yet. Else it is foreign.
abbrev pub as_entry : NameForm → Opened → ℕ → List ℕ × Linked → Option (List ℕ) → Opened
as_entry form o dir e (Some name) = if is_some (node_in (slice_get o.tree.places dir) name) then as_foreign form o dir e (Some name) else as_shown o dir e name
as_entry form o dir e None = as_foreign form o dir e None

-- an entry is passed over whose number isn't free, or whose octets are no name
abbrev pub with_lower : NameForm → Opened → ℕ → List ℕ × Linked → Opened
with_lower form o dir e = if is_free (slice_get o.tree.places e.1.node) && is_name e.0 then as_entry form o dir e (form.upper e.0) else o

abbrev pub with_lowers : NameForm → Opened → ℕ → Entries → Opened
with_lowers form o dir [] = o
with_lowers form o dir (e ∷ es) = with_lowers form (with_lower form o dir e) dir es
