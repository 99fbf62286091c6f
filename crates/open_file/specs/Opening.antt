-- What the opening of a file answers.
use Rattle.std.specs.Prelude.{ℕ, ◌≡◌, ◌≤◌, Bool, List, [], Some, true, false, Result, Ok, Err}
use Rattle.packet_model.specs.declared.layout.TheConstants.{MAX_SIZE}
use Rattle.body_model.specs.declared.content.Content.TheVariants as contents
use Rattle.body_model.specs.declared.opened.Opened.{Opened}
use Rattle.body_model.specs.LowerFile.{LowerFile}
use Rattle.body_model.specs.Format.{Format, IsDataStart, content}
use Rattle.file_model.specs.declared.mark.MetadataMark.TheVariants.{Clean}
use Rattle.lower_tree.specs.declared.format.OpenFault.{OpenFault}
use Rattle.lower_tree.specs.declared.format.OpenFault.TheVariants as faults
use Rattle.lower_tree.specs.declared.error.LowerError.{LowerError}
use Rattle.lower_tree.specs.declared.error.LowerError.TheVariants as lower
use Rattle.file_model.specs.ByteFile.{Good}
use Rattle.file_model.specs.LaidOut.{Origin, metadata_found, origin_of}
use Rattle.file_model.specs.Shard.{origin_in, state_by}
use Rattle.open_file.specs.declared.opening.OpenError.{OpenError}
use Rattle.open_file.specs.declared.opening.OpenError.TheVariants.{Bad, LowerFault, Memory}
use Rattle.open_file.specs.Buffered.{Buffered, IsKept, octets_of, working_of}
use Rattle.open_file.specs.Standing.{FileStands, NoMarks, marks_of}

-- The error is the cause for which the file is bad, or says nothing of the file.
abbrev pub IsCause : {K : Type 0} → Format K → LowerFile → OpenError → Type 0
IsCause format file (Bad cause) = content format file ≡ contents.Bad cause
IsCause format file LowerFault = Unit {0}
IsCause format file Memory = Unit {0}

-- an answer that is a failure of the store
abbrev pub is_lower_fault : {T : Type 0} → Result T OpenError → Bool
is_lower_fault (Ok x) = false
is_lower_fault (Err (Bad cause)) = false
is_lower_fault (Err LowerFault) = true
is_lower_fault (Err Memory) = false

abbrev pub error_of : OpenFault → OpenError
error_of (faults.Bad cause) = Bad cause
error_of faults.Memory = Memory

abbrev pub error_of_lower : LowerError → OpenError
error_of_lower lower.Failed = LowerFault
error_of_lower lower.Memory = Memory

-- a file that was found, with nothing marked
abbrev pub found : {K : Type 0} → Opened K → List ℕ → List Bool → Buffered K
found o buffer dirty = record { opened = o; buffer = buffer; dirty = dirty; metadata_mark = Clean; length_mark = false }

abbrev pub origin_found : {K : Type 0} → LowerFile → Opened K → Origin
origin_found file o = record { meta_place = o.meta_place; size = o.size; body = file.body; metadata = metadata_found o.meta_place Clean o file }

-- the bounds of what was opened
pub record IsOpened {K : Type 0} (o : Opened K) : Type 0 where
  pub most : o.size ≤ MAX_SIZE
  pub start : IsDataStart o.meta_place o.data_start
  pub kept : IsKept o.meta_place Clean o

-- What is kept of a file that was just opened, by the file of its node.
pub record IsFound {K : Type 0} (format : Format K) (node : ℕ) (file : LowerFile) (f : Buffered K) : Type 0 where
  pub state : state_by (content format file) ≡ Good (record { octets = octets_of f; slots = [] })
  pub origin : origin_in format node file ≡ Some (origin_of file (working_of f))
  pub stands : FileStands format (origin_of file (working_of f)) file f
  pub unmarked : (content format file ≡ contents.Empty → ⊥) → NoMarks (marks_of f)
