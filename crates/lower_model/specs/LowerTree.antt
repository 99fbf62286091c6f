-- What a lower tree is: nodes in preorder, numbered from the root on, the entries of each directory in octet order of their names.
use Rattle.std.specs.Prelude.{ℕ, ◌≡◌, ◌<◌, ◌≤◌, ◌+◌, ◌^◌, Bool, IsTrue, List, [], ◌∷◌, ◌++◌, length, take, slice_get, Option, None, IfSome, ◌==◌}
use Rattle.std.specs.Ordering.{nat_cmp, is_lt}
use Rattle.std.specs.Cmp.Lexicographic.{slice_cmp}
use Rattle.std.specs.List.{position_or_len}
use Rattle.lower_model.specs.declared.limits.TheConstants.{MOST_ENTRIES, LONGEST_ATTRIBUTE}
use Rattle.lower_model.specs.declared.kind.Kind.{Kind}
use Rattle.lower_model.specs.declared.kind.Kind.TheVariants.{Dir, File}
use Rattle.lower_model.specs.declared.node.LowerNode.{LowerNode}
use Rattle.lower_model.specs.declared.node.OpenDir.{OpenDir}
use Rattle.octet_model.specs.Octets.{AreOctets}
use Rattle.lower_model.specs.Name.{is_name}

-- octet order; the order of two names of which one begins the other is the shorter first
abbrev pub comes_before : List ℕ → List ℕ → Bool
comes_before a b = is_lt (slice_cmp nat_cmp a b)

-- In preorder the next entry can stand in the node before it, if that is a directory, or in a directory above that.
-- These are the open directories, from the root on, each with its last name. A directory's level is its index among them.
abbrev pub level_in : List OpenDir → ℕ → ℕ
level_in path parent = position_or_len (λ d. d.node == parent) path

-- the root, with no entry yet
abbrev pub root_path : List OpenDir
root_path = record { node = 0; last = [] } ∷ []

-- behind an entry: its directory has it as its last, the deeper ones are closed, and a directory is open itself
abbrev pub opened : Kind → ℕ → List OpenDir
opened Dir number = record { node = number; last = [] } ∷ []
opened File number = []

abbrev pub path_behind : List OpenDir → ℕ → ℕ → LowerNode → List OpenDir
path_behind path level number node = take level path ++ record { node = node.parent; last = node.name } ∷ opened node.kind number

-- A file's octets fit an image, a directory has none.
abbrev pub HoldsOctets : Kind → Option (List ℕ) → List ℕ → Type 0
HoldsOctets Dir attribute body = (attribute ≡ None) × (body ≡ [])
HoldsOctets File attribute body = IfSome attribute (λ a. AreOctets a × (length a ≤ LONGEST_ATTRIBUTE)) × AreOctets body × (length body < 2 ^ 32)

-- An entry stands in the open directory at this level, behind that directory's last name.
pub record IsEntry (path : List OpenDir) (level : ℕ) (node : LowerNode) : Type 0 where
  pub parent : IfSome (slice_get path level) (λ d. (d.node ≡ node.parent) × IsTrue (comes_before d.last node.name))
  pub within : level < length path
  pub name : IsTrue (is_name node.name)
  pub octets : HoldsOctets node.kind node.attribute node.body

-- entries in preorder, the first of them with this number
abbrev pub AreEntries : List OpenDir → ℕ → List LowerNode → Type 0
AreEntries path number [] = Unit {0}
AreEntries path number (node ∷ nodes) =
    IsEntry path (level_in path node.parent) node × AreEntries (path_behind path (level_in path node.parent) number node) (number + 1) nodes

abbrev pub IsRoot : LowerNode → Type 0
IsRoot node = (node.parent ≡ 0) × (node.kind ≡ Dir) × (node.name ≡ []) × (node.attribute ≡ None) × (node.body ≡ [])

-- the root, and the entries below it
abbrev pub IsLowerTree : List LowerNode → Type 0
IsLowerTree [] = ⊥
IsLowerTree (root ∷ entries) = IsRoot root × (length entries ≤ MOST_ENTRIES) × AreEntries root_path 1 entries
