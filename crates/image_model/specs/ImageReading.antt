-- Reading an image from left to right, with the first fault that is met.
use Rattle.std.specs.Prelude.{ℕ, zero, suc, ◌+◌, ◌-◌, ◌≤◌, List, [], ◌∷◌, length, take, drop, Option, Some, None, IfSome, Result, Ok, Err, nat_eq, nat_lt, nat_le, ◌==◌, ◌&&◌, if◌then◌else◌, slice_get}
use Rattle.std.specs.Int.{Width, w16, w32, byte_len, from_be_bytes}
use Rattle.std.specs.List.{starts_with}
use Rattle.answer_model.specs.Answer.{◌>>=◌}
use Rattle.lower_model.specs.declared.limits.TheConstants.{MOST_ENTRIES, LONGEST_ATTRIBUTE}
use Rattle.lower_model.specs.declared.kind.Kind.{Kind}
use Rattle.lower_model.specs.declared.kind.Kind.TheVariants.{Dir, File}
use Rattle.lower_model.specs.declared.node.LowerNode.{LowerNode}
use Rattle.lower_model.specs.declared.node.OpenDir.{OpenDir}
use Rattle.lower_model.specs.Name.{is_name}
use Rattle.lower_model.specs.LowerTree.{comes_before, path_behind, root_path}
use Rattle.image_model.specs.declared.fault.ImageKind.{ImageKind}
use Rattle.image_model.specs.declared.fault.ImageKind.TheVariants as kinds
use Rattle.image_model.specs.declared.fault.ImageFault.{ImageFault}
use Rattle.image_model.specs.declared.fault.ImageError.{ImageError}
use Rattle.image_model.specs.declared.fault.ImageError.TheVariants as errors
use Rattle.image_model.specs.ImageText.{magic, root}

-- A wrong field: how many octets are left from its first one on, and what is wrong.
pub record FieldFault : Type 0 where
  pub left : ℕ
  pub kind : ImageKind

-- A field is read as a value and the octets behind it.
abbrev pub Field : Type 0 → Type 0
Field A = Result (A × List ℕ) FieldFault

-- the field that begins here is wrong
abbrev pub wrong : {A : Type 0} → ImageKind → List ℕ → Result A FieldFault
wrong kind octets = Err (record { left = length octets; kind = kind })

-- big-endian
abbrev pub number_at : Width → List ℕ → Field ℕ
number_at w octets = if nat_lt (length octets) (byte_len w) then wrong kinds.Cut octets else Ok (from_be_bytes w (take (byte_len w) octets), drop (byte_len w) octets)

abbrev pub octets_at : ℕ → List ℕ → Field (List ℕ)
octets_at n octets = if nat_lt (length octets) n then wrong kinds.Cut octets else Ok (take n octets, drop n octets)

-- The level is 1 in the root: one more than the index of the entry's directory among those that are open.
unfoldable pub level_at : ℕ → List ℕ → Field ℕ
level_at depth octets = do
  n ← number_at w16 octets
  if nat_lt 0 n.0 && nat_le n.0 depth then Ok (n.0 - 1, n.1) else wrong kinds.Level octets

-- 0 for a directory, 1 for a file
unfoldable pub kind_at : List ℕ → Field Kind
kind_at [] = wrong kinds.Cut []
kind_at (zero ∷ rest) = Ok (Dir, rest)
kind_at (suc zero ∷ rest) = Ok (File, rest)
kind_at (suc (suc b) ∷ rest) = wrong kinds.Kind (suc (suc b) ∷ rest)

-- A length and a name, which comes after the last one in its directory. A name that is none is told before one out of order.
unfoldable pub name_at : List ℕ → List ℕ → Field (List ℕ)
name_at last [] = wrong kinds.Cut []
name_at last (zero ∷ rest) = wrong kinds.NameLength (zero ∷ rest)
name_at last (suc n ∷ rest) = do
  name ← octets_at (suc n) rest
  if is_name name.0 then (if comes_before last name.0 then Ok name else wrong kinds.Order rest) else wrong kinds.Name rest

-- 0, or 1 and the octets with their length; that length is tested before they are
unfoldable pub attribute_at : List ℕ → Field (Option (List ℕ))
attribute_at [] = wrong kinds.Cut []
attribute_at (zero ∷ rest) = Ok (None, rest)
attribute_at (suc zero ∷ rest) = do
  n ← number_at w32 rest
  if nat_le n.0 LONGEST_ATTRIBUTE then (octets_at n.0 n.1 >>= λ a. Ok (Some a.0, a.1)) else wrong kinds.AttributeLength rest
attribute_at (suc (suc b) ∷ rest) = wrong kinds.Flag (suc (suc b) ∷ rest)

-- the octets with their length
unfoldable pub body_at : List ℕ → Field (List ℕ)
body_at octets = do
  n ← number_at w32 octets
  octets_at n.0 n.1

-- what stands behind the name of a file
pub record FileOctets : Type 0 where
  pub attribute : Option (List ℕ)
  pub body : List ℕ

unfoldable pub file_octets_at : Kind → List ℕ → Field FileOctets
file_octets_at Dir octets = Ok (record { attribute = None; body = [] }, octets)
file_octets_at File octets = do
  a ← attribute_at octets
  b ← body_at a.1
  Ok (record { attribute = a.0; body = b.0 }, b.1)

-- An entry, and the index of its directory among those that are open.
pub record Entry : Type 0 where
  pub node : LowerNode
  pub level : ℕ

-- an entry of this directory; the level that was read is always that of an open one
abbrev pub entry_in : ℕ → Option OpenDir → List ℕ → Field Entry
entry_in level None octets = wrong kinds.Level octets
entry_in level (Some parent) octets = do
  kind ← kind_at octets
  name ← name_at parent.last kind.1
  held ← file_octets_at kind.0 name.1
  Ok (record { node = record { parent = parent.node; kind = kind.0; name = name.0; attribute = held.0.attribute; body = held.0.body }; level = level }, held.1)

unfoldable pub entry_at : List OpenDir → List ℕ → Field Entry
entry_at path octets = do
  level ← level_at (length path) octets
  entry_in level.0 (slice_get path level.0) level.1

-- so many entries, the first of them with this number
unfoldable pub entries_at : ℕ → List OpenDir → ℕ → List ℕ → Field (List LowerNode)
entries_at zero path number octets = Ok ([], octets)
entries_at (suc count) path number octets = do
  first ← entry_at path octets
  others ← entries_at count (path_behind path first.0.level number first.0.node) (number + 1) first.1
  Ok (first.0.node ∷ others.0, others.1)

-- nothing follows the last entry
abbrev pub whole_tree : List LowerNode × List ℕ → Result (List LowerNode) FieldFault
whole_tree x = if length x.1 == 0 then Ok (root ∷ x.0) else wrong kinds.Extra x.1

-- a count and so many entries, then nothing
unfoldable pub counted_nodes_at : List ℕ → Result (List LowerNode) FieldFault
counted_nodes_at octets = do
  count ← number_at w32 octets
  if nat_le count.0 MOST_ENTRIES then (entries_at count.0 root_path 1 count.1 >>= whole_tree) else wrong kinds.TooMany octets

-- the magic, and what is counted
unfoldable pub nodes_at : List ℕ → Result (List LowerNode) FieldFault
nodes_at octets = if starts_with nat_eq octets magic then counted_nodes_at (drop 8 octets) else wrong kinds.Magic octets

-- The offset of a fault is the number of octets before the wrong field.
abbrev pub with_offset : {A : Type 0} → ℕ → Result A FieldFault → Result A ImageFault
with_offset total (Ok x) = Ok x
with_offset total (Err f) = Err (record { offset = total - f.left; kind = f.kind })

-- the nodes of the lower tree that has this image, or the first fault
abbrev pub reading : List ℕ → Result (List LowerNode) ImageFault
reading octets = with_offset (length octets) (nodes_at octets)

-- the fault that an error tells; none for want of memory
abbrev pub fault_of : ImageError → Option ImageFault
fault_of (errors.Fault fault) = Some fault
fault_of errors.Memory = None

-- A fault stands at one of the image's octets, or at the end where a field is cut.
abbrev pub HasOffsetWithin : List ℕ → ImageError → Type 0
HasOffsetWithin octets error = IfSome (fault_of error) (λ fault. fault.offset ≤ length octets)
