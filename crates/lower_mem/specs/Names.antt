-- What names in memory hold.
use Rattle.std.specs.Prelude.{ℕ, ◌≡◌, true, List, [], map, Option, Some, None, slice_get}
use Rattle.tree_model.specs.declared.place.Directory.{Directory}
use Rattle.tree_model.specs.declared.place.Place.{Place}
use Rattle.tree_model.specs.declared.place.Place.TheVariants.{Dir, File, Nothing}
use Rattle.tree_model.specs.Walk.{kind_of}
use Rattle.tree_model.specs.PlainTree.{kind_or_file}
use Rattle.names_model.specs.declared.entry.Linked.{Linked}
use Rattle.names_model.specs.Store.{Entries, Store}
use Rattle.lower_tree.specs.Held.{HeldNames}
use Rattle.lower_mem.specs.Plan.{Plan}

-- A plain tree under lower names, and which calls fail.
pub record NamesInMemory : Type 0 where
  pub places : List Place
  pub plan : Plan

-- what an entry with this number leads to: the kind is that of what stands there
abbrev pub link : List Place → ℕ → Linked
link places node = record { kind = kind_or_file (kind_of (slice_get places node)); node = node }

abbrev pub links : List Place → List (List ℕ × ℕ) → Entries
links places es = map (λ (e : List ℕ × ℕ). (e.0, link places e.1)) es

abbrev pub links_in : List Place → Option Place → Option Entries
links_in places (Some (Dir d)) = Some (links places d.shown)
links_in places (Some File) = None
links_in places (Some Nothing) = None
links_in places None = None

-- the entries of each directory
abbrev pub store_in : List Place → Store
store_in places k = links_in places (slice_get places k)

abbrev pub names_held : NamesInMemory → HeldNames
names_held names = record { told = true; entries = store_in names.places; faults = names.plan.faults }

-- No directory has a foreign entry.
abbrev pub HasNoForeign : List Place → Type 0
HasNoForeign places = (k : ℕ) (d : Directory) → slice_get places k ≡ Some (Dir d) → d.foreign ≡ []
