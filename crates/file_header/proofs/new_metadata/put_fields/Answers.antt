use Rattle.std.proofs.Common.{append_assoc}
use Rattle.file_header.proofs.new_metadata.put_fields.Goals as goal

pub returns : goal.returns
returns c =
    simp (c.in_ok-extend_from_slice-3.ensures.items, c.in_ok-extend_from_slice-2.ensures.items, c.in_ok-extend_from_slice.ensures.items, c.in_ok-put_size_and_marker.ensures, c.to_be_bytes.ensures, c.to_be_bytes-2.ensures, c.to_be_bytes-3.ensures, append_assoc)
