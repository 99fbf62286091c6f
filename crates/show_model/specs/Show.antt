-- What it means that an output shows a job's image.
use Rattle.std.specs.Prelude.{ℕ, ◌≡◌, List, [], ◌∷◌, map, Option, Some, None, slice_get}
use Rattle.std.specs.List.{AllByRecursion}
use Rattle.lower_model.specs.declared.kind.Kind.{Kind}
use Rattle.lower_model.specs.declared.kind.Kind.TheVariants as kinds
use Rattle.lower_model.specs.declared.node.LowerNode.{LowerNode}
use Rattle.tree_model.specs.declared.listed.Listed.{Listed}
use Rattle.tree_model.specs.declared.listed.Listed.TheVariants as listed
use Rattle.tree_model.specs.Listing.{ListsTree}
use Rattle.names_model.specs.ShownBy.{shown_of}
use Rattle.key_model.specs.SignedKey.{SignedKey}
use Rattle.content_model.specs.Content.{IsContent}
use Rattle.body_model.specs.declared.content.Content.{Content}
use Rattle.job_model.specs.declared.job.Job.{Job}
use Rattle.mount_model.specs.MountForm.{key_of, form_of_job}
use Rattle.show_model.specs.declared.item.ShowItem.{ShowItem}
use Rattle.show_model.specs.declared.item.ShowWhat.{ShowWhat}
use Rattle.show_model.specs.declared.item.ShowWhat.TheVariants.{Dir, File, Foreign}
use Rattle.show_model.specs.ShowText.{show_text}

-- the ring of a passphrase under a salt: its key
abbrev pub ring_of : List ℕ → List ℕ → List SignedKey
ring_of salt passphrase = key_of salt passphrase ∷ []

-- a node of this kind stands there
abbrev pub HasKind : Kind → Option LowerNode → Type 0
HasKind kind (Some node) = node.kind ≡ kind
HasKind kind None = ⊥

-- the lower file at a place decodes to this content
abbrev pub DecodesTo : List SignedKey → Option LowerNode → Content → Type 0
DecodesTo ring (Some node) content = IsContent ring node.body node.attribute content
DecodesTo ring None content = ⊥

-- a directory is told as such, a file by its content, and of a foreign entry its lower name alone, which the listing has
abbrev pub TellsNode : List SignedKey → Option LowerNode → ShowWhat → Type 0
TellsNode ring place Dir = HasKind kinds.Dir place
TellsNode ring place (File content) = HasKind kinds.File place × DecodesTo ring place content
TellsNode ring place (Foreign lower) = Unit {0}

-- each item tells the node of its number
abbrev pub TellsItems : List SignedKey → List LowerNode → List ShowItem → Type 0
TellsItems ring nodes items = AllByRecursion (λ item. TellsNode ring (slice_get nodes item.node) item.what) items

-- an item as a listing has it
abbrev pub listed_by : List (List ℕ) → ℕ → ShowWhat → Listed
listed_by path node Dir = listed.Shown path node
listed_by path node (File content) = listed.Shown path node
listed_by path node (Foreign lower) = listed.Foreign path lower node

abbrev pub listed_item : ShowItem → Listed
listed_item item = listed_by item.path item.node item.what

-- These items are the listing of the tree that a job's image shows, foreign entries with it, and tell its nodes.
pub record TellsImage (job : Job) (items : List ShowItem) : Type 0 where
  pub lists : ListsTree (shown_of (form_of_job job) job.image).places (map listed_item items)
  pub told : TellsItems (ring_of job.salt job.passphrase) job.image items

-- The output is the show text of a job's image.
pub record Shows (job : Job) (output : List ℕ) : Type 0 where
  pub items : List ShowItem
  pub tells : TellsImage job items
  pub text : output ≡ show_text items
