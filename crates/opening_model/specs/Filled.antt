-- A directory of which some lower entries are entered, in octet order.
use Rattle.std.specs.Prelude.{ℕ, ◌≡◌, Bool, false, cond, List, [], ◌∷◌, ◌++◌, Option, Some, None, if◌then◌else◌}
use Rattle.std.specs.Option.{option_map}
use Rattle.names_model.specs.declared.entry.Linked.{Linked}
use Rattle.names_model.specs.Store.{Entries}
use Rattle.names_model.specs.NameForm.{NameForm, is_upper, blocked_by}
use Rattle.names_model.specs.ShownBy.{is_first}
use Rattle.tree_model.specs.declared.place.ForeignEntry.{ForeignEntry}
use Rattle.tree_model.specs.declared.place.Directory.{Directory}
use Rattle.tree_model.specs.Names.{node_of, RisesBehind}

-- the first of these entries that stands for an upper name
abbrev pub first : NameForm → List ℕ → Entries → Option (List ℕ × Linked)
first form name [] = None
first form name (e ∷ es) = if is_upper name (form.upper e.0) then Some e else first form name es

abbrev pub number_of : Option (List ℕ × Linked) → Option ℕ
number_of e = option_map (λ (x : List ℕ × Linked). x.1.node) e

abbrev pub foreign_entry : NameForm → List ℕ × Linked → ForeignEntry
foreign_entry form e = record { lower = e.0; node = e.1.node; blocks = blocked_by form (form.upper e.0) e.0 }

-- whether an entry behind these ones is shown
abbrev pub is_shown : NameForm → Entries → Option (List ℕ) → Bool
is_shown form before (Some name) = is_first form before name
is_shown form before None = false

abbrev pub foreign_if : NameForm → Entries → List ℕ × Linked → List ForeignEntry
foreign_if form before e = cond (is_shown form before (form.upper e.0)) [] (foreign_entry form e ∷ [])

abbrev pub foreign_behind : NameForm → Entries → Entries → List ForeignEntry
foreign_behind form before [] = []
foreign_behind form before (e ∷ es) = foreign_if form before e ++ foreign_behind form (before ++ e ∷ []) es

-- It shows each upper name by the first of them, and the others are foreign.
pub record IsFilled (form : NameForm) (entries : Entries) (d : Directory) : Type 0 where
  pub shown : (name : List ℕ) → node_of name d.shown ≡ number_of (first form name entries)
  pub foreign : d.foreign ≡ foreign_behind form [] entries
  pub rises : RisesBehind [] d.shown
