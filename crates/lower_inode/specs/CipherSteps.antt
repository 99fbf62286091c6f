-- How many blocks the cipher works on in a turn.
use Rattle.std.specs.Prelude.{ℕ, ◌+◌, ◌*◌, Option, Some, None}
use Rattle.packet_model.specs.declared.layout.TheConstants.{MAX_SIZE}
use Rattle.session_model.specs.declared.file.FileCall.{FileCall}
use Rattle.session_model.specs.declared.file.FileCall.TheVariants.{Attach, Sync, Detach}
use Rattle.packet_model.specs.Metadata.{extent_count}
use Rattle.open_file.specs.Buffered.{dirty_count}
use Rattle.lower_inode.specs.declared.node.OpenNode.{OpenNode}

-- the extents that are marked of a file, if it is open
abbrev pub marked_extents : {K : Type 0} → Option (OpenNode K) → ℕ
marked_extents (Some opened) = dirty_count opened.file.dirty
marked_extents None = 0

-- The most blocks of a turn: 256 for each extent that is written out, or that a file has whose first opening reads it; and two for
-- the metadata of an opening.
abbrev pub most_steps : {K : Type 0} → Option (OpenNode K) → FileCall → ℕ
most_steps opened (Attach slot) = 2 + 256 * extent_count MAX_SIZE
most_steps opened (Sync slot) = 256 * marked_extents opened
most_steps opened (Detach slot) = 256 * marked_extents opened
most_steps opened call = 0
